-- Lines, and the requests that they make, by computing.
use Rattle.std.proofs.Common.{◌≡◌, ℕ, Bool, true, false, refl, List, [], ◌∷◌, Option, Some, None, codes}
use Rattle.clap.specs.Words.{Kinds}
use Rattle.clap.specs.declared.error.kind.ErrorKind.TheVariants.{DisplayHelp, UnknownArgument, MissingRequiredArgument, ValueValidation}
use Rattle.clap.proofs.OnLiterals.{clap_on_literals}
use Rattle.gm_find.specs.declared.sought.Choice.TheVariants.{First}
use Rattle.gm_game.specs.declared.position.Value.TheVariants.{Win}
use Rattle.gm_play.specs.declared.sides.Side.TheVariants.{Computer}
use Rattle.gm_command.specs.declared.requests.DiagramForm.TheVariants.{Tikz}
use Rattle.gm_command.specs.declared.requests.LineForm.TheVariants.{Rows}
use Rattle.gm_command.specs.declared.requests.ListForm.TheVariants.{Names, Titles}
use Rattle.gm_command.specs.declared.requests.Question.TheVariants.{Value, Board, Diagram}
use Rattle.gm_command.specs.declared.requests.Report.TheVariants.{Lines as Listed}
use Rattle.gm_command.specs.declared.requests.Telling.{Telling}
use Rattle.gm_command.specs.declared.requests.Telling.TheVariants.{Terminal, Quiet}
use Rattle.gm_command.specs.Lines.{command_lines}
use Rattle.gm_command.specs.Given.{no_limit}
use Rattle.gm_command.specs.Contents.{CommandContent, Content, PlanNumbers, list_of_games, about_game, checking, exploring, filtering, finding, playing, solving, analysing}
use Rattle.gm_command.specs.Readings.{content_in, faults_in}

-- ---- lines

abbrev words : List (List ℕ) → List (List ℕ)
words line = codes "gamesman" ∷ line

abbrev reads : List (List ℕ) → Option Content
reads line = content_in (words line)

abbrev faults : List (List ℕ) → Kinds
faults line = faults_in (words line)

abbrev plan : PlanNumbers
plan = record { workers = 4; shards = 4; piece = 64; fastest = true }

abbrev about : List ℕ → CommandContent → Option (List ℕ × Bool) → PlanNumbers → Telling → Option Content
about game command kept plan progress = Some (about_game (record { game = game; command = command; kept = kept; plan = plan; progress = progress }))

names_of_games : reads (codes "list" ∷ []) ≡ Some (list_of_games false Names)
unfolding clap_on_literals command_lines
names_of_games = refl

titles_of_games : reads (codes "list" ∷ codes "--titles" ∷ codes "--all" ∷ []) ≡ Some (list_of_games true Titles)
unfolding clap_on_literals command_lines
titles_of_games = refl

titles_in_json : reads (codes "list" ∷ codes "--titles" ∷ codes "--json" ∷ []) ≡ None
unfolding clap_on_literals command_lines
titles_in_json = refl

in_memory : reads (codes "query" ∷ codes "countdown" ∷ codes "10" ∷ []) ≡ about (codes "countdown") (exploring (Some (codes "10")) (Value false)) None plan Terminal
unfolding clap_on_literals command_lines
in_memory = refl

in_a_folder : reads (codes "query" ∷ codes "countdown" ∷ codes "10" ∷ codes "--folder" ∷ codes "F" ∷ codes "--quiet" ∷ [])
    ≡ about (codes "countdown") (exploring (Some (codes "10")) (Value false)) (Some (codes "F", false)) plan Quiet
unfolding clap_on_literals command_lines
in_a_folder = refl

only_read : reads (codes "query" ∷ codes "--read-only" ∷ codes "countdown" ∷ codes "--folder=F" ∷ codes "10" ∷ [])
    ≡ about (codes "countdown") (exploring (Some (codes "10")) (Value false)) (Some (codes "F", true)) plan Terminal
unfolding clap_on_literals command_lines
only_read = refl

only_read_without_a_folder : reads (codes "query" ∷ codes "countdown" ∷ codes "10" ∷ codes "--read-only" ∷ []) ≡ None
unfolding clap_on_literals command_lines
only_read_without_a_folder = refl

each_of_the_input : reads (codes "query" ∷ codes "countdown" ∷ codes "-" ∷ []) ≡ about (codes "countdown") (filtering (Value false)) None plan Terminal
unfolding clap_on_literals command_lines
each_of_the_input = refl

in_json : reads (codes "query" ∷ codes "countdown" ∷ codes "10" ∷ codes "--json" ∷ []) ≡ about (codes "countdown") (exploring (Some (codes "10")) (Value true))
    None plan Terminal
unfolding clap_on_literals command_lines
in_json = refl

board_in_json : reads (codes "show" ∷ codes "countdown" ∷ codes "--json" ∷ []) ≡ about (codes "countdown") (exploring None Board) None plan Terminal
unfolding clap_on_literals command_lines
board_in_json = refl

diagram_in_json : reads (codes "show" ∷ codes "countdown" ∷ codes "--json" ∷ codes "--svg" ∷ []) ≡ None
unfolding clap_on_literals command_lines
diagram_in_json = refl

two_diagrams : reads (codes "show" ∷ codes "countdown" ∷ codes "--tikz" ∷ codes "--svg" ∷ []) ≡ None
unfolding clap_on_literals command_lines
two_diagrams = refl

arrow_in_tikz : reads (codes "show" ∷ codes "countdown" ∷ codes "--tikz" ∷ codes "--arrow" ∷ [])
    ≡ about (codes "countdown") (exploring None (Diagram (record { form = Tikz; valued = true; figures = false; arrow = true }))) None plan Terminal
unfolding clap_on_literals command_lines
arrow_in_tikz = refl

arrow_in_json : reads (codes "show" ∷ codes "countdown" ∷ codes "--json" ∷ codes "--arrow" ∷ []) ≡ None
unfolding clap_on_literals command_lines
arrow_in_json = refl

by_eight : reads (codes "solve" ∷ codes "dao" ∷ codes "F" ∷ codes "--workers" ∷ codes "8" ∷ codes "--shards" ∷ codes "2" ∷ [])
    ≡ about (codes "dao") (solving false) (Some (codes "F", false)) (record { workers = 8; shards = 2; piece = 64; fastest = true }) Terminal
unfolding clap_on_literals command_lines
by_eight = refl

number_with_a_zero : reads (codes "solve" ∷ codes "dao" ∷ codes "F" ∷ codes "--workers" ∷ codes "08" ∷ []) ≡ None
unfolding clap_on_literals command_lines
number_with_a_zero = refl

check_only_reads : reads (codes "check" ∷ codes "dao" ∷ codes "F" ∷ []) ≡ about (codes "dao") (checking (codes "F") false) (Some (codes "F", true)) plan Terminal
unfolding clap_on_literals command_lines
check_only_reads = refl

computer_first : reads (codes "play" ∷ codes "countdown" ∷ codes "--second" ∷ codes "--from" ∷ codes "7" ∷ [])
    ≡ about (codes "countdown") (playing (Some (codes "7")) Computer false) None plan Terminal
unfolding clap_on_literals command_lines
computer_first = refl

by_another_name : reads (codes "analyze" ∷ codes "dao" ∷ []) ≡ about (codes "dao") analysing None plan Terminal
unfolding clap_on_literals command_lines
by_another_name = refl

wins_of_a_span : reads (codes "find" ∷ codes "dao" ∷ codes "--value" ∷ codes "win" ∷ codes "--remoteness" ∷ codes "7..11" ∷ [])
    ≡ about (codes "dao") (finding (record {
      sought = record { value = Win; remoteness = Some (record { least = 7; most = 11 }); only_move = false; only_fastest = false; whole_line = false; distinct = false; min_moves = 0; min_tries = 0; tries = false };
      tier = None;
      reached = false;
      choice = First no_limit;
      report = Listed Rows;
    })) None plan Terminal
unfolding clap_on_literals command_lines
wins_of_a_span = refl

no_such_value : reads (codes "find" ∷ codes "dao" ∷ codes "--value" ∷ codes "most" ∷ []) ≡ None
unfolding clap_on_literals command_lines
no_such_value = refl

no_such_shell : reads (codes "completions" ∷ codes "tcsh" ∷ []) ≡ None
unfolding clap_on_literals command_lines
no_such_shell = refl

seed_without_random : reads (codes "find" ∷ codes "dao" ∷ codes "--value" ∷ codes "win" ∷ codes "--seed" ∷ codes "3" ∷ []) ≡ None
unfolding clap_on_literals command_lines
seed_without_random = refl

two_forms : reads (codes "counts" ∷ codes "dao" ∷ codes "--csv" ∷ codes "--json" ∷ []) ≡ None
unfolding clap_on_literals command_lines
two_forms = refl

no_fault : faults (codes "query" ∷ codes "countdown" ∷ codes "10" ∷ codes "--folder" ∷ codes "F" ∷ []) ≡ []
unfolding clap_on_literals command_lines
no_fault = refl

unknown_option : faults (codes "query" ∷ codes "countdown" ∷ codes "10" ∷ codes "--fold" ∷ []) ≡ UnknownArgument ∷ []
unfolding clap_on_literals command_lines
unknown_option = refl

no_game : faults (codes "query" ∷ []) ≡ MissingRequiredArgument ∷ []
unfolding clap_on_literals command_lines
no_game = refl

too_many_workers : faults (codes "solve" ∷ codes "dao" ∷ codes "F" ∷ codes "--workers" ∷ codes "17" ∷ []) ≡ ValueValidation ∷ []
unfolding clap_on_literals command_lines
too_many_workers = refl

help_for_a_command : faults (codes "query" ∷ codes "--help" ∷ []) ≡ DisplayHelp ∷ []
unfolding clap_on_literals command_lines
help_for_a_command = refl

help_after_no_value : faults (codes "find" ∷ codes "dao" ∷ codes "--value" ∷ codes "most" ∷ codes "--help" ∷ []) ≡ DisplayHelp ∷ []
unfolding clap_on_literals command_lines
help_after_no_value = refl
