-- What clap is told of the command line where a line is read.
use Rattle.std.specs.Prelude.{◌≡◌, ℕ, ℤ, pos, true, false, List, [], ◌∷◌, map, Option, Some, None, codes}
use Rattle.std.specs.Borrow.{Bor}
use Rattle.std.specs.Int.{int_max, int_min}
use Rattle.std.specs.Option.{option_to_list}
use Rattle.clap.specs.Words.{App, Rule, Shape, new_rule, rule_of, shape_of, signed_between}
use Rattle.clap.specs.Simple.{new_shape}
use Rattle.clap.specs.declared.builder.action.ArgAction.TheVariants.{Set, SetTrue}
use Rattle.clap.specs.declared.builder.arg.Arg.{Arg}
use Rattle.clap.specs.declared.builder.command.Command.{Command}
use Rattle.clap.specs.declared.builder.command.Command.TheViews.{out-Command as fields_of}
use Rattle.clap.specs.declared.builder.value_parser.ValueParser.{ValueParser}
use Rattle.clap.specs.declared.builder.value_parser.ValueParser.TheVariants.{Unsigned}
use Rattle.gm_command.specs.Lines.{Kind, Word, Line, place, place_unless, place_optional, flag, text, number, tier, command_lines}

-- a number of 32 bits between these
abbrev pub number_parser : ℤ → ℤ → ValueParser
number_parser least most = signed_between (int_max (pos 0) least) (int_min (pos 4294967295) most)

-- what clap is told of a word of this kind. Clap isn't told which words need or bar each other, nor which texts a word can be
abbrev pub rule_of_kind : List ℕ → Kind → Rule
rule_of_kind name place = record (new_rule name) { required = true; action = Some Set }
rule_of_kind name (place_unless option) = new_rule name
rule_of_kind name place_optional = new_rule name
rule_of_kind name flag = record (new_rule name) { long = Some name; action = Some SetTrue }
rule_of_kind name (text required) = record (new_rule name) { long = Some name; value_names = 1; required = required }
rule_of_kind name (number least most default) =
    record (new_rule name) { long = Some name; value_names = 1; defaults = option_to_list default; parser = Some (number_parser least most) }
rule_of_kind name tier = record (new_rule name) { long = Some name; parser = Some (Unsigned 0 18446744073709551615) }

abbrev pub rule_of_word : Word → Rule
rule_of_word w = rule_of_kind w.name w.kind

-- what clap is told of a command: its name, its other name, and its words
abbrev pub shape_of_line : Line → Shape
shape_of_line l = record (new_shape l.name) { aliases = option_to_list l.alias; rules = map rule_of_word l.words }

-- the program, which has a version, and of which a line names a command
abbrev pub program : Shape
program = record (new_shape (codes "gamesman")) { is_leaf = false; has_version = true; subcommand_required = true }

-- the program with these commands
abbrev pub app_of_lines : List Line → App
app_of_lines lines = record { top = program; subs = map shape_of_line lines }

-- the command line of the program
abbrev pub command_line : App
command_line = app_of_lines command_lines

-- the default of an option, if it has one, in place of an earlier one
abbrev pub defaults_after : List (List ℕ) → Option (Bor (List ℕ)) → List (List ℕ)
defaults_after old None = old
defaults_after old (Some default) = default.now ∷ []

-- the argument is that of a word
abbrev pub IsArgFor : Word → Arg → Type 0
IsArgFor w a = rule_of a ≡ rule_of_word w

-- the command is that of a line
pub record IsCommandFor (l : Line) (c : Command) : Type 0 where
  pub command : shape_of c ≡ shape_of_line l
  pub local : (fields_of c).has_globals ≡ false
