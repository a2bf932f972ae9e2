use Rattle.std.proofs.Common.{◌≡◌, ◌∙◌, false, ap, sym, Option, List, ℕ, map}
use Rattle.std.proofs.lemmas.Result.{IfOk-weaker}
use Rattle.std.specs.Option.{option_map, option_to_list}
use Rattle.clap.specs.Words.{app_of, new_app}
use Rattle.clap.specs.Simple.{app_of_fields, new_shape}
use Rattle.clap.specs.declared.builder.command.Command.{Command}
use Rattle.clap.specs.declared.builder.command.Command.TheOpen.{Command-F}
use Rattle.clap.specs.declared.builder.command.Command.TheViews.{out-Command as fields_of}
use Rattle.gm_command.specs.Lines.{word_of}
use Rattle.gm_command.specs.Parsers.{rule_of_word}
use Rattle.gm_command.proofs.Added.{alias_told, words_told}
use Rattle.gm_command.proofs.commands.command_of.Goals as goal

abbrev has_globals : Command-F Command → Rattle.std.proofs.Common.Bool
has_globals f = f.has_globals

pub returns-in-Some : goal.returns-in-Some
returns-in-Some c =
    let line = c.args.line.now in
    let words = map word_of line.words.now in
    let rules = map rule_of_word words in
    let args = c.add_words.new.all.items in
    let is : app_of c.after_help.result ≡ new_app line.name.now = ap app_of_fields c.after_help.ensures ∙ ap app_of_fields c.about.ensures ∙ c.new.ensures.app in
    let local : (fields_of c.after_help.result).has_globals ≡ false = ap has_globals c.after_help.ensures ∙ ap has_globals c.about.ensures ∙ c.new.ensures.local in
    IfOk-weaker c.alias.result _ _ (λ r added off.
    let told = words_told line.name.now words c.after_help.result c.in_ok-command.command args is local c.in_ok-command.ensures (c.in_ok-add_words.ensures off) in record {
      command = alias_told line.name.now rules c.in-Some.alias c.in_ok-command.command r told.0 added
          ∙ ap (λ (alias : Option (List ℕ)). record (new_shape line.name.now) { aliases = option_to_list alias; rules = rules })
          (sym (ap (option_map (λ t. t.now)) c.in-Some.is));
      local = ap has_globals added.0 ∙ told.1;
    }) c.alias.ensures

pub returns-in-None : goal.returns-in-None
returns-in-None c = λ off.
    let line = c.args.line.now in
    let words = map word_of line.words.now in
    let rules = map rule_of_word words in
    let args = c.add_words.new.all.items in
    let is : app_of c.after_help.result ≡ new_app line.name.now = ap app_of_fields c.after_help.ensures ∙ ap app_of_fields c.about.ensures ∙ c.new.ensures.app in
    let local : (fields_of c.after_help.result).has_globals ≡ false = ap has_globals c.after_help.ensures ∙ ap has_globals c.about.ensures ∙ c.new.ensures.local in
    let told = words_told line.name.now words c.after_help.result c.in_ok-command.command args is local c.in_ok-command.ensures (c.in_ok-add_words.ensures off) in record {
      command = told.0 ∙ ap (λ (alias : Option (List ℕ)). record (new_shape line.name.now) { aliases = option_to_list alias; rules = rules })
          (sym (ap (option_map (λ t. t.now)) c.in-None.is));
      local = told.1;
    }
