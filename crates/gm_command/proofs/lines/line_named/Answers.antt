use Rattle.std.proofs.Common.{◌∙◌, ap, rules, tests, List}
use Rattle.std.specs.Prelude.{find, option_map}
use Rattle.std.specs.Borrow.{Bor}
use Rattle.std.specs.Str.{bytes_eq}
use Rattle.std.proofs.lemmas.Iterator.{YieldsList-from_slice}
use Rattle.std.proofs.lemmas.Iterator.Search.{find_from_yields_List}
use Rattle.clap.proofs.WalkLemmas.{find-map}
use Rattle.gm_command.specs.declared.words.CommandSpec.{CommandSpec}
use Rattle.gm_command.specs.Lines.{Line, line_of_spec}
use Rattle.gm_command.proofs.lines.line_named.Goals as goal

pub returns : goal.returns
returns c =
    let name = c.args.name.now in
    let by_call = find_from_yields_List (λ (line : Bor CommandSpec). bytes_eq line.now.name.now name) _ _ c.find.result c.find.ensures.ran
    (YieldsList-from_slice c.lines.result cc) (λ x b q k. search (rules, tests)) in
    ap (option_map (λ line. line_of_spec line.now)) (c.copied.ensures ∙ by_call) ∙ find-map (λ (l : Line). bytes_eq l.name name) (λ line. line_of_spec line.now) c.lines.result
    ∙ ap (λ (ls : List Line). find (λ l. bytes_eq l.name name) ls) c.lines.ensures
