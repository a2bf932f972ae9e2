-- What clap is told of commands, as their words and the commands are added in turn.
use Rattle.std.proofs.Common.{◌≡◌, ◌∙◌, ◌&&◌, ◌||◌, not, Bool, true, false, refl, sym, ap, ap₂, ℕ, ℤ, List, [], ◌∷◌, ◌++◌, map, append-nil, append_assoc, is_some, Option, Some, None}
use Rattle.std.specs.Borrow.{Bor}
use Rattle.std.specs.List.{list_all, AllZip}
use Rattle.std.specs.Option.{option_map, option_to_list}
use Rattle.std.proofs.lemmas.List.{map-append}
use Rattle.clap.specs.Words.{App, Rule, Shape, AddsArg, AddsCommandAliases, AddsInTurn, AddsSubcommand, app_of, new_app, new_rule, rule_of, shape_of, with_subcommand}
use Rattle.clap.specs.Simple.{new_shape, shape_of_fields}
use Rattle.clap.specs.Walk.{is_empty}
use Rattle.clap.specs.declared.builder.arg.Arg.{Arg}
use Rattle.clap.specs.declared.builder.command.Command.{Command}
use Rattle.clap.specs.declared.builder.command.Command.TheViews.{out-Command as fields_of}
use Rattle.gm_command.specs.declared.words.ArgKind.{ArgKind}
use Rattle.gm_command.specs.declared.words.ArgKind.TheVariants.{Number}
use Rattle.gm_command.specs.declared.words.ArgSpec.{ArgSpec}
use Rattle.gm_command.specs.Lines.{Line, Word, command_lines, kind_of, word_of}
use Rattle.gm_command.specs.Parsers.{IsArgFor, IsCommandFor, command_line, defaults_after, number_parser, program, rule_of_kind, rule_of_word, shape_of_line}
use Rattle.gm_command.proofs.Bools.{left, right, not_true}
use Rattle.gm_command.proofs.Rules.{rules_simple}

last_of_ten : (a b c d e f g h i j : Bool) → (a && (b && (c && (d && (e && (f && (g && (h && (i && not j))))))))) ≡ true → j ≡ false
last_of_ten a b c d e f g h i j all =
    not_true j (right i (not j) (right h _ (right g _ (right f _ (right e _ (right d _ (right c _ (right b _ (right a _ all)))))))))

-- a simple argument is not global
pub simple_local : (a : Arg) → (rule_of a).is_simple ≡ true → a.global ≡ false
simple_local a h = last_of_ten (is_empty a.overrides.items) (is_empty a.default_vals_ifs.items) (is_empty a.groups.items) (not (is_some a.val_delim))
    (not (is_some a.terminator)) (not a.allow_hyphen_values) (not a.allow_negative_numbers) (not a.require_equals) (not a.last) a.global h

abbrev pub with_rules : App → List Rule → App
with_rules a rules = record a { top = record a.top { rules = a.top.rules ++ rules } }

-- simple arguments are added in turn
pub args_added : (old new : Command) (args : List Arg) → AddsInTurn AddsArg old args new → list_all (λ r. r.is_simple) (map rule_of args) ≡ true
    → (app_of new ≡ with_rules (app_of old) (map rule_of args)) × ((fields_of new).has_globals ≡ (fields_of old).has_globals)
args_added old new [] h simple = (
  ap app_of (sym h) ∙ ap (λ (rules : List Rule). record (app_of old) { top = record (app_of old).top { rules = rules } }) (sym (append-nil (app_of old).top.rules)),
  ap (λ (c : Command). (fields_of c).has_globals) (sym h),
)
args_added old new (a ∷ args) h simple =
    let local = simple_local a (left _ _ simple) in
    let rest = args_added h.0 new args h.2 (right _ _ simple) in (
      rest.0 ∙ ap (λ (x : App). with_rules x (map rule_of args)) (h.1.shape local)
          ∙ ap (λ (rules : List Rule). record (app_of old) { top = record (app_of old).top { rules = rules } }) (append_assoc (app_of old).top.rules (rule_of a ∷ []) (map rule_of args)),
      rest.1 ∙ h.1.globals ∙ ap (λ (b : Bool). (fields_of old).has_globals || b) local ∙ or_false (fields_of old).has_globals,
    )
  where
    or_false : (b : Bool) → (b || false) ≡ b
    or_false true = refl
    or_false false = refl

-- commands that are added in turn
abbrev with_subs : App → List Shape → App
with_subs a [] = a
with_subs a (s ∷ ss) = with_subs (with_subcommand a s) ss

subs_added : (lines : List Line) (old new : Command) (subs : List Command) → AddsInTurn AddsSubcommand old subs new → AllZip IsCommandFor lines subs
    → app_of new ≡ with_subs (app_of old) (map shape_of subs)
subs_added [] old new [] h all = ap app_of (sym h)
subs_added [] old new (sub ∷ subs) h all = absurd all
subs_added (l ∷ ls) old new [] h all = absurd all
subs_added (l ∷ ls) old new (sub ∷ subs) h all =
    subs_added ls h.0 new subs h.2 all.1 ∙ ap (λ (x : App). with_subs x (map shape_of subs)) (h.1.shape all.0.local)

subs_are : (a : App) (s : Shape) (ss : List Shape)
    → with_subs a (s ∷ ss) ≡ record { top = record a.top { is_leaf = false }; subs = a.subs ++ s ∷ ss }
subs_are a s [] = refl
subs_are a s (t ∷ ss) = subs_are (with_subcommand a s) t ss ∙ ap (λ (subs : List Shape). record { top = record a.top { is_leaf = false }; subs = subs }) (append_assoc a.subs (s ∷ []) (t ∷ ss))

-- the commands of a program, of which there is one at least
commands_added : (lines : List Line) (old new sub : Command) (subs : List Command) → AddsInTurn AddsSubcommand old (sub ∷ subs) new
    → AllZip IsCommandFor lines (sub ∷ subs)
    → app_of new ≡ record { top = record (app_of old).top { is_leaf = false }; subs = (app_of old).subs ++ map shape_of (sub ∷ subs) }
commands_added lines old new sub subs h all = subs_added lines old new (sub ∷ subs) h all ∙ subs_are (app_of old) (shape_of sub) (map shape_of subs)

shapes_are : (lines : List Line) (subs : List Command) → AllZip IsCommandFor lines subs → map shape_of subs ≡ map shape_of_line lines
shapes_are [] [] h = refl
shapes_are [] (sub ∷ subs) h = absurd h
shapes_are (l ∷ ls) [] h = absurd h
shapes_are (l ∷ ls) (sub ∷ subs) h = ap₂ (λ (s : Shape) (ss : List Shape). s ∷ ss) h.0.command (shapes_are ls subs h.1)

rules_are : (words : List Word) (args : List Arg) → AllZip IsArgFor words args → map rule_of args ≡ map rule_of_word words
rules_are [] [] h = refl
rules_are [] (a ∷ args) h = absurd h
rules_are (w ∷ ws) [] h = absurd h
rules_are (w ∷ ws) (a ∷ args) h = ap₂ (λ (r : Rule) (rs : List Rule). r ∷ rs) h.0 (rules_are ws args h.1)

-- ---- what clap is told of a command and of the program

-- a command without another name, with its words
pub words_told : (name : List ℕ) (words : List Word) (old new : Command) (args : List Arg) → app_of old ≡ new_app name → (fields_of old).has_globals ≡ false
    → AddsInTurn AddsArg old args new → AllZip IsArgFor words args → (shape_of new ≡ record (new_shape name) { rules = map rule_of_word words })
    × ((fields_of new).has_globals ≡ false)
words_told name words old new args is local added all =
    let rules = rules_are words args all in
    let more = args_added old new args added (ap (list_all (λ r. r.is_simple)) rules ∙ rules_simple words) in (
      ap (λ (a : App). a.top) (more.0 ∙ ap (λ (a : App). with_rules a (map rule_of args)) is) ∙ ap (λ (rs : List Rule). record (new_shape name) { rules = rs }) rules,
      more.1 ∙ local,
    )

-- the same with another name
pub alias_told : (name : List ℕ) (rules : List Rule) (alias : Bor (List ℕ)) (old new : Command) → shape_of old ≡ record (new_shape name) { rules = rules }
    → AddsCommandAliases old new ((alias, false) ∷ []) → shape_of new ≡ record (new_shape name) { aliases = alias.now ∷ []; rules = rules }
alias_told name rules alias old new is added =
    let aliases = ap (map (λ (a : Bor (List ℕ) × Bool). a.0.now)) added.1 ∙ map-append (λ (a : Bor (List ℕ) × Bool). a.0.now) (fields_of old).aliases.items ((alias, false) ∷ [])
    ∙ ap (λ (names : List (List ℕ)). names ++ alias.now ∷ []) (ap (λ (s : Shape). s.aliases) is) in
    ap shape_of_fields added.0 ∙ ap₂ (λ (s : Shape) (names : List (List ℕ)). record s { aliases = names }) is aliases

pub program_told : (old new : Command) (subs : List Command) → app_of old ≡ record { top = record program { is_leaf = true }; subs = [] }
    → AddsInTurn AddsSubcommand old subs new → AllZip IsCommandFor command_lines subs → app_of new ≡ command_line
unfolding command_lines
program_told old new [] is added all = absurd all
program_told old new (sub ∷ subs) is added all =
    commands_added command_lines old new sub subs added all
    ∙ ap (λ (a : App). record { top = record a.top { is_leaf = false }; subs = a.subs ++ map shape_of (sub ∷ subs) }) is
    ∙ ap (λ (ss : List Shape). record { top = program; subs = ss }) (shapes_are command_lines (sub ∷ subs) all)

-- an option with a number
pub number_told : (w : ArgSpec) (shown : Bor (List ℕ)) (least most : ℤ) (default : Option (Bor (List ℕ))) (option made : Arg) → w.kind ≡ Number shown least most default
    → rule_of option ≡ record (new_rule w.name.now) { long = Some w.name.now; value_names = 1 }
    → (l m : ℤ) → rule_of made ≡ record (rule_of option) { parser = Some (number_parser l m); defaults = defaults_after (rule_of option).defaults default }
    → l ≡ least → m ≡ most → rule_of made ≡ rule_of_word (word_of w)
number_told w shown least most default option made kind plain l m more is_least is_most =
    more ∙ ap₂ (λ (x y : ℤ). record (rule_of option) { parser = Some (number_parser x y); defaults = defaults_after (rule_of option).defaults default }) is_least is_most
    ∙ ap (λ (r : Rule). record r { parser = Some (number_parser least most); defaults = defaults_after r.defaults default }) plain
    ∙ ap (λ (ds : List (List ℕ)). record (new_rule w.name.now) { long = Some w.name.now; value_names = 1; parser = Some (number_parser least most); defaults = ds }) (same default)
    ∙ sym (ap (λ (k : ArgKind). rule_of_kind w.name.now (kind_of k)) kind)
  where
    same : (d : Option (Bor (List ℕ))) → defaults_after [] d ≡ option_to_list (option_map (λ t. t.now) d)
    same None = refl
    same (Some t) = refl
