-- The request that a line makes, from what clap found for its words.
use Rattle.std.specs.Prelude.{ℕ, ◌^◌, ◌&&◌, ◌||◌, not, nat_le, nat_lt, Bool, true, false, List, codes, Option, Some, None, is_some, option_map, option_and_then, if◌then◌else◌}
use Rattle.std.specs.List.{list_all}
use Rattle.std.specs.Option.{option_map_or, option_or}
use Rattle.std.specs.Str.{bytes_eq}
use Rattle.std.specs.Str.Parse.{digits_value}
use Rattle.std.specs.Fmt.{decimal}
use Rattle.clap.specs.Words.{Row}
use Rattle.gm_analyse.specs.declared.among.Among.TheVariants.{Canonical, Legal}
use Rattle.gm_analyse.specs.declared.bars.Form.{Form}
use Rattle.gm_analyse.specs.declared.bars.Form.TheVariants.{Bars, Csv, Json}
use Rattle.gm_play.specs.declared.sides.Side.TheVariants.{You, Computer}
use Rattle.gm_caption.specs.Templates.{is_template}
use Rattle.gm_command.specs.declared.manual.Manual.{Manual}
use Rattle.gm_command.specs.declared.manual.Manual.TheVariants.{Bash, Zsh, Fish, Man as ManualPage}
use Rattle.gm_command.specs.declared.requests.CountsRequest.{CountsRequest}
use Rattle.gm_command.specs.declared.requests.DiagramForm.{DiagramForm}
use Rattle.gm_command.specs.declared.requests.DiagramForm.TheVariants.{Svg, Tikz}
use Rattle.gm_command.specs.declared.requests.Question.{Question}
use Rattle.gm_command.specs.declared.requests.Question.TheVariants.{Value, Moves, Replies, Why, Line as BestLine, Show, Board, Diagram}
use Rattle.gm_command.specs.declared.requests.ListForm.{ListForm}
use Rattle.gm_command.specs.declared.requests.ListForm.TheVariants.{Names, Titles, Json as JsonLines}
use Rattle.gm_command.specs.declared.requests.Telling.{Telling}
use Rattle.gm_command.specs.declared.requests.Telling.TheVariants.{Terminal, Lines, Quiet}
use Rattle.gm_command.specs.declared.words.CommandName.{CommandName}
use Rattle.gm_command.specs.declared.words.CommandName.TheVariants.{Game, Sheet, Completions, Man, List as ListOfGames}
use Rattle.gm_command.specs.declared.words.GameCommandName.{GameCommandName}
use Rattle.gm_command.specs.declared.words.GameCommandName.TheVariants as command
use Rattle.gm_command.specs.Lines.{Kind, Word, Line, number, tier, line_named}
use Rattle.gm_command.specs.Given.{text_in, has, is_plain_number, no_limit, option_number, number_or}
use Rattle.gm_command.specs.Relations.{are_related}
use Rattle.gm_command.specs.Searching.{ask_in, search_in}
use Rattle.gm_command.specs.Contents.{CommandContent, solving, exploring, filtering, paging, placed, locating, finding, counting, answering, analysing, checking, playing, seeking_longest, PlanNumbers, GameContent, SheetContent, Content, list_of_games, about_game, page_of_games, sheet_of_list, about_program}

-- the number that is written so in a text
abbrev pub written : List ℕ → Option ℕ
written text = if bytes_eq (decimal (digits_value 10 text)) text && nat_lt (digits_value 10 text) (2 ^ 64) then Some (digits_value 10 text) else None

-- the text is `-`
abbrev pub is_dash : Option (List ℕ) → Bool
is_dash text = option_map_or (λ t. bytes_eq t (codes "-")) text false

-- the plan of these numbers, if they are within the limits
abbrev pub plan_from : ℕ → ℕ → ℕ → Option PlanNumbers
plan_from workers shards piece =
    if (nat_le 1 workers && nat_le workers 16) && ((nat_le 1 shards && nat_le shards 4) && (nat_le 1 piece && nat_le piece 4096))
    then Some (record { workers = workers; shards = shards; piece = piece; fastest = true }) else None

abbrev pub manual_named : List ℕ → Option Manual
manual_named shell = if bytes_eq shell (codes "bash") then Some Bash else (if bytes_eq shell (codes "zsh") then Some Zsh
    else (if bytes_eq shell (codes "fish") then Some Fish else None))

-- this text as a template, if it is one
abbrev pub template_from : Option (List ℕ) → Option (Option (List ℕ))
template_from None = Some None
template_from (Some text) = if is_template text then Some (Some text) else None

-- whether the order of a sheet is the rising one
abbrev pub rising_named : List ℕ → Option Bool
rising_named word = if bytes_eq word (codes "list") then Some false else (if bytes_eq word (codes "long") then Some true else None)

-- the command only reads its folder
abbrev pub only_reads : GameCommandName → Bool
only_reads command.Check = true
only_reads _ = false

module _ (rows : List Row) where
  -- a word that has a number is written plainly
  abbrev pub is_plain_word : List ℕ → Kind → Bool
  is_plain_word name (number least most default) = option_map_or is_plain_number (text_in rows name) true
  is_plain_word name tier = option_map_or is_plain_number (text_in rows name) true
  is_plain_word name _ = true

  -- the numbers of a command are written plainly
  abbrev pub are_plain : List Word → Bool
  are_plain words = list_all (λ w. is_plain_word w.name w.kind) words

  -- the folder of the tables, FOLDER or that of `--folder`, with whether it is only read: that of `check` is, and with `--read-only` any; none if the tables
  -- are in memory
  abbrev pub folder_in : GameCommandName → Option (List ℕ × Bool)
  folder_in command = option_map (λ folder. (folder, only_reads command || has rows (codes "read-only")))
      (option_or (text_in rows (codes "FOLDER")) (text_in rows (codes "folder")))

  -- the plan: `--workers`, `--shards` and `--piece`
  abbrev pub plan_in : Option PlanNumbers
  plan_in = plan_from (number_or rows (codes "workers") 4) (number_or rows (codes "shards") 4) (number_or rows (codes "piece") 64)

  -- how progress is reported: not at all with `--quiet`, by lines with `--progress`
  abbrev pub progress_in : Telling
  progress_in = if has rows (codes "quiet") then Quiet else (if has rows (codes "progress") then Lines else Terminal)

  -- the answer is to be lines of JSON
  abbrev pub json_in : Bool
  json_in = has rows (codes "json")

  -- a question about the position that is given, or with `-` about each position of the input
  abbrev pub asking_each : Question → CommandContent
  asking_each question = if is_dash (text_in rows (codes "POSITION")) then filtering question else exploring (text_in rows (codes "POSITION")) question

  -- a question about the position that is given, or about the start
  abbrev pub asking : Question → CommandContent
  asking question = exploring (text_in rows (codes "POSITION")) question

  -- a session from the start or from the position of `--from`, in which the computer moves first with `--second`
  abbrev pub playing_in : CommandContent
  playing_in = playing (text_in rows (codes "from")) (if has rows (codes "second") then Computer else You) (has rows (codes "show"))

  -- the form of a diagram: an SVG document with `--svg`, and a TikZ picture with `--tikz`
  abbrev pub diagram_form : Option DiagramForm
  diagram_form = if has rows (codes "svg") then Some Svg else (if has rows (codes "tikz") then Some Tikz else None)

  -- how a board is shown: as a diagram, without its value with `--no-value`, with figures of chess men with `--figures`, and with its best move marked with
  -- `--arrow`; in JSON; otherwise with the notation explained if no position is given
  abbrev pub drawing_by : Option DiagramForm → Option Question
  drawing_by (Some form) = Some (Diagram (record {
    form = form;
    valued = not (has rows (codes "no-value"));
    figures = has rows (codes "figures");
    arrow = has rows (codes "arrow");
  }))
  drawing_by None =
      if has rows (codes "no-value") || has rows (codes "figures") || has rows (codes "arrow") then None
      else (if json_in then Some Board else Some (Show (not (is_some (text_in rows (codes "POSITION"))))))

  abbrev pub drawing_in : Option Question
  drawing_in = drawing_by diagram_form

  -- a page of so many positions, with the engine if there is one
  abbrev pub paging_in : ℕ → CommandContent
  paging_in limit = paging (text_in rows (codes "POSITION")) limit (text_in rows (codes "engine"))

  abbrev pub place_given : Option CommandContent
  place_given = option_and_then (λ t. option_map (λ i. placed t i json_in) (option_and_then written (text_in rows (codes "INDEX"))))
      (option_and_then written (text_in rows (codes "TIER")))

  -- the limit that is given, or none
  abbrev pub limit_in : ℕ
  limit_in = number_or rows (codes "limit") no_limit

  abbrev pub counts_form_in : Form
  counts_form_in = if has rows (codes "csv") then Csv else (if json_in then Json else Bars)

  -- what is counted, and how the counts are written
  abbrev pub counts_in : CountsRequest
  counts_in = record {
    among = if has rows (codes "legal") then Legal else Canonical;
    by_tier = has rows (codes "by-tier");
    reached = has rows (codes "reached");
    form = counts_form_in;
  }

  -- the question about the moves of a position
  abbrev pub moves_asked : Bool → Question
  moves_asked json = if has rows (codes "replies") then Replies (has rows (codes "distinct")) json else Moves (has rows (codes "distinct")) json

  -- what a command about a game says
  abbrev pub command_in : GameCommandName → Option CommandContent
  command_in command.Solve = Some (solving json_in)
  command_in command.Query = Some (asking_each (Value json_in))
  command_in command.Moves = Some (asking_each (moves_asked json_in))
  command_in command.Why = Some (asking (Why json_in))
  command_in command.Line = Some (asking (BestLine limit_in json_in))
  command_in command.Show = option_map asking drawing_in
  command_in command.Page = option_map paging_in (option_number rows (codes "limit"))
  command_in command.At = place_given
  command_in command.Locate = option_map (λ t. locating t json_in) (text_in rows (codes "POSITION"))
  command_in command.Find = option_map (λ s. finding s) (search_in rows)
  command_in command.Counts = Some (counting counts_in)
  command_in command.Longest = Some (seeking_longest (has rows (codes "reached")) limit_in json_in)
  command_in command.Ask = option_map (λ a. answering a) (ask_in rows)
  command_in command.Analyse = Some analysing
  command_in command.Check = option_map (λ t. checking t json_in) (text_in rows (codes "FOLDER"))
  command_in command.Play = Some playing_in

  -- a request about a game: its name, the command, the folder, the plan and the report of progress
  abbrev pub game_in : GameCommandName → Option GameContent
  game_in command = option_and_then (λ game. option_and_then (λ content. option_map (λ plan.
      record { game = game; command = content; kept = folder_in command; plan = plan; progress = progress_in }) plan_in) (command_in command))
      (text_in rows (codes "GAME"))

  -- the template of captions, if there is one
  abbrev pub template_in : Option (Option (List ℕ))
  template_in = template_from (text_in rows (codes "caption"))

  -- whether the puzzles of a sheet are sorted; none if `--sort` names no order
  abbrev pub rising_in : Option Bool
  rising_in = elim (text_in rows (codes "sort")) [ None ↦ Some false | Some word ↦ rising_named word ]

  -- a request for a sheet: the game's name, the heading, what is shown of a value, the order, the plan and the report of progress
  abbrev pub sheet_in : Option SheetContent
  sheet_in = option_and_then (λ template. option_and_then (λ rising. option_map (λ plan. record {
    game = text_in rows (codes "GAME");
    title = text_in rows (codes "title");
    valued = not (has rows (codes "no-value"));
    own_moves = has rows (codes "own-moves");
    template = template;
    rising = rising;
    arrow = has rows (codes "arrow");
    plan = plan;
    progress = progress_in;
  }) plan_in) rising_in) template_in

  -- how the games are listed: in JSON, with their titles, or by their names
  abbrev pub list_form_in : ListForm
  list_form_in = if json_in then JsonLines else (if has rows (codes "titles") then Titles else Names)

  -- the request of a command. `--all`, which is a word of `page` too, makes the page of all games
  abbrev pub request_in : CommandName → Option Content
  request_in ListOfGames = Some (list_of_games (has rows (codes "all")) list_form_in)
  request_in (Game command) = if has rows (codes "all") then option_map (λ e. page_of_games e) (text_in rows (codes "engine"))
      else option_map (λ g. about_game g) (game_in command)
  request_in Sheet = option_map (λ s. sheet_of_list s) sheet_in
  request_in Completions = option_map (λ m. about_program m) (option_and_then manual_named (text_in rows (codes "SHELL")))
  request_in Man = Some (about_program ManualPage)

  -- the request of a line with this command: its words go with each other, and its numbers are written plainly
  abbrev pub request_with : Line → Option Content
  request_with line = if are_related rows line.words && are_plain line.words then request_in line.command else None

-- the request of a line, from the command that clap found and from what it found for its words
abbrev pub request_of : Option (List ℕ × List Row) → Option Content
request_of found = option_and_then (λ found. option_and_then (request_with found.1) (line_named found.0)) found
