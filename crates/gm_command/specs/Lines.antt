-- The command line of the program: its commands, and the words of each in their order.
use Rattle.std.specs.Prelude.{ℕ, ℤ, pos, Bool, true, false, List, [], ◌∷◌, map, find, Option, Some, None, option_map, codes}
use Rattle.std.specs.Str.{bytes_eq}
use Rattle.gm_command.specs.declared.words.ArgKind.{ArgKind}
use Rattle.gm_command.specs.declared.words.ArgKind.TheVariants as arg
use Rattle.gm_command.specs.declared.words.ArgSpec.{ArgSpec}
use Rattle.gm_command.specs.declared.words.CommandName.{CommandName}
use Rattle.gm_command.specs.declared.words.CommandName.TheVariants.{Game, Sheet, Completions, Man, List as ListOfGames}
use Rattle.gm_command.specs.declared.words.GameCommandName.{GameCommandName}
use Rattle.gm_command.specs.declared.words.GameCommandName.TheVariants as game_command
use Rattle.gm_command.specs.declared.words.CommandSpec.{CommandSpec}

-- the kind of a word
pub data Kind : Type 0 where
  -- a word that is known by its place, and is required
  place : Kind
  -- a word that is known by its place, and is required only without this option
  place_unless : List ℕ → Kind
  -- a word that is known by its place, and may be left out
  place_optional : Kind
  -- an option without a value
  flag : Kind
  -- an option with a text, and whether it is required
  text : Bool → Kind
  -- an option with a number from the first to the second, and the text of its default
  number : ℤ → ℤ → Option (List ℕ) → Kind
  -- an option with the number of a tier
  tier : Kind

pub record Word : Type 0 where
  pub name : List ℕ
  pub kind : Kind

-- a command: which it is, its name, another name for it, and its words
pub record Line : Type 0 where
  pub command : CommandName
  pub name : List ℕ
  pub alias : Option (List ℕ)
  pub words : List Word

abbrev pub word : List ℕ → Kind → Word
word name kind = record { name = name; kind = kind }

abbrev pub line : CommandName → List ℕ → List Word → Line
line command name words = record { command = command; name = name; alias = None; words = words }

-- a command about one game
abbrev pub game_command_line : GameCommandName → List ℕ → List Word → Line
game_command_line command name words = line (Game command) name words

-- an option with a number of which none is too great
abbrev pub any_number : List ℕ → ℕ → Word
any_number name least = word name (number (pos least) (pos 4294967295) None)

-- the words that several commands have
abbrev pub game : Word
game = word (codes "GAME") place

abbrev pub position : Word
position = word (codes "POSITION") place

abbrev pub start : Word
start = word (codes "POSITION") place_optional

abbrev pub folder : Word
folder = word (codes "folder") (text false)

abbrev pub read_only : Word
read_only = word (codes "read-only") flag

abbrev pub quiet : Word
quiet = word (codes "quiet") flag

abbrev pub json : Word
json = word (codes "json") flag

abbrev pub reached : Word
reached = word (codes "reached") flag

abbrev pub distinct : Word
distinct = word (codes "distinct") flag

abbrev pub list_line : Line
list_line = line ListOfGames (codes "list") (word (codes "all") flag ∷ word (codes "titles") flag ∷ json ∷ [])

abbrev pub solve_line : Line
solve_line = game_command_line game_command.Solve (codes "solve") (game ∷ word (codes "FOLDER") place ∷ word (codes "workers") (number (pos 1) (pos 16) (Some (codes "4")))
    ∷ word (codes "shards") (number (pos 1) (pos 4) (Some (codes "4"))) ∷ word (codes "piece") (number (pos 1) (pos 4096) (Some (codes "64")))
    ∷ word (codes "progress") flag ∷ quiet ∷ json ∷ [])

abbrev pub query_line : Line
query_line = game_command_line game_command.Query (codes "query") (game ∷ position ∷ json ∷ folder ∷ read_only ∷ quiet ∷ [])

abbrev pub moves_line : Line
moves_line = game_command_line game_command.Moves (codes "moves") (game ∷ start ∷ distinct ∷ word (codes "replies") flag ∷ json ∷ folder ∷ read_only ∷ quiet ∷ [])

abbrev pub why_line : Line
why_line = game_command_line game_command.Why (codes "why") (game ∷ start ∷ json ∷ folder ∷ read_only ∷ quiet ∷ [])

abbrev pub line_line : Line
line_line = game_command_line game_command.Line (codes "line") (game ∷ start ∷ any_number (codes "limit") 1 ∷ json ∷ folder ∷ read_only ∷ quiet ∷ [])

abbrev pub show_line : Line
show_line = game_command_line game_command.Show (codes "show") (game ∷ start ∷ word (codes "svg") flag ∷ word (codes "tikz") flag ∷ word (codes "no-value") flag
    ∷ word (codes "figures") flag ∷ word (codes "arrow") flag ∷ json ∷ folder ∷ read_only ∷ quiet ∷ [])

abbrev pub page_line : Line
page_line = game_command_line game_command.Page (codes "page") (word (codes "GAME") (place_unless (codes "all")) ∷ start
    ∷ word (codes "limit") (number (pos 1) (pos 1000000) (Some (codes "2000"))) ∷ word (codes "engine") (text false) ∷ word (codes "all") flag
    ∷ folder ∷ read_only ∷ quiet ∷ [])

abbrev pub at_line : Line
at_line = game_command_line game_command.At (codes "at") (game ∷ word (codes "TIER") place ∷ word (codes "INDEX") place ∷ json ∷ folder ∷ read_only
    ∷ quiet ∷ [])

abbrev pub locate_line : Line
locate_line = game_command_line game_command.Locate (codes "locate") (game ∷ position ∷ json ∷ [])

abbrev pub find_line : Line
find_line = game_command_line game_command.Find (codes "find") (game ∷ word (codes "value") (text true) ∷ word (codes "remoteness") (text false) ∷ word (codes "tier") tier
    ∷ word (codes "only-move") flag ∷ word (codes "only-fastest") flag ∷ word (codes "whole-line") flag ∷ distinct
    ∷ any_number (codes "min-moves") 1 ∷ any_number (codes "min-tries") 1 ∷ word (codes "tries") flag ∷ word (codes "sort") (text false)
    ∷ word (codes "spread") flag ∷ any_number (codes "per-move") 1 ∷ any_number (codes "orient") 0 ∷ reached ∷ any_number (codes "limit") 1 ∷ any_number (codes "random") 1 ∷ any_number (codes "seed") 0
    ∷ word (codes "show") flag ∷ json ∷ word (codes "page") flag ∷ folder ∷ read_only ∷ quiet ∷ [])

abbrev pub sheet_line : Line
sheet_line = line Sheet (codes "sheet") (word (codes "GAME") place_optional ∷ word (codes "title") (text false) ∷ word (codes "no-value") flag
    ∷ word (codes "own-moves") flag ∷ word (codes "caption") (text false) ∷ word (codes "sort") (text false) ∷ word (codes "arrow") flag
    ∷ word (codes "workers") (number (pos 1) (pos 16) (Some (codes "4"))) ∷ quiet ∷ [])

abbrev pub counts_line : Line
counts_line = game_command_line game_command.Counts (codes "counts") (game ∷ word (codes "legal") flag ∷ word (codes "by-tier") flag ∷ reached ∷ word (codes "csv") flag ∷ json
    ∷ folder ∷ read_only ∷ quiet ∷ [])

abbrev pub longest_line : Line
longest_line = game_command_line game_command.Longest (codes "longest") (game ∷ reached ∷ any_number (codes "limit") 1 ∷ json ∷ folder ∷ read_only
    ∷ quiet ∷ [])

abbrev pub ask_line : Line
ask_line = game_command_line game_command.Ask (codes "ask") (game ∷ word (codes "values") flag ∷ distinct ∷ word (codes "with") (text false) ∷ word
    (codes "ready") flag
    ∷ folder ∷ read_only ∷ quiet ∷ [])

abbrev pub analyse_line : Line
analyse_line = record (game_command_line game_command.Analyse (codes "analyse") (game ∷ folder ∷ read_only ∷ quiet ∷ [])) { alias = Some (codes "analyze") }

abbrev pub check_line : Line
check_line = game_command_line game_command.Check (codes "check") (game ∷ word (codes "FOLDER") place ∷ json ∷ quiet ∷ [])

abbrev pub play_line : Line
play_line = game_command_line game_command.Play (codes "play") (game ∷ folder ∷ read_only ∷ quiet ∷ word (codes "second") flag ∷ word (codes "from")
    (text false)
    ∷ word (codes "show") flag ∷ [])

abbrev pub completions_line : Line
completions_line = line Completions (codes "completions") (word (codes "SHELL") place ∷ [])

abbrev pub man_line : Line
man_line = line Man (codes "man") []

-- the commands, in the order of the help
unfoldable pub command_lines : List Line
command_lines = list_line ∷ solve_line ∷ query_line ∷ moves_line ∷ why_line ∷ line_line ∷ show_line ∷ page_line ∷ at_line ∷ locate_line ∷ find_line
    ∷ sheet_line ∷ counts_line ∷ longest_line ∷ ask_line ∷ analyse_line ∷ check_line ∷ play_line ∷ completions_line ∷ man_line ∷ []

-- the command of this name
abbrev pub line_named : List ℕ → Option Line
line_named name = find (λ l. bytes_eq l.name name) command_lines

-- the same of the code's tables, without references and without the texts of the help
abbrev pub kind_of : ArgKind → Kind
kind_of arg.Word = place
kind_of (arg.Unless option) = place_unless option.now
kind_of arg.Optional = place_optional
kind_of arg.Flag = flag
kind_of (arg.Text shown required) = text required
kind_of (arg.Number shown least most default) = number least most (option_map (λ t. t.now) default)
kind_of arg.Tier = tier

abbrev pub word_of : ArgSpec → Word
word_of w = record { name = w.name.now; kind = kind_of w.kind }

abbrev pub line_of_spec : CommandSpec → Line
line_of_spec l = record { command = l.command; name = l.name.now; alias = option_map (λ t. t.now) l.alias; words = map word_of l.words.now }
