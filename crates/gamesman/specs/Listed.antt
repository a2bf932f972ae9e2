-- The output of `sheet`.
use Rattle.std.specs.Prelude.{◌≡◌, ◌++◌, ℕ, ◌+◌, ◌<◌, ◌⊎◌, List, length, take, codes, Option, None, Some, Result, Err, OnOk, IfErr}
use Rattle.std.specs.Borrow.{Bor}
use Rattle.std.specs.List.{flat_map, slice_get}
use Rattle.std.specs.Io.KnownBytes.{Keeps}
use Rattle.gm_game.specs.declared.position.Position.{Position}
use Rattle.gm_tiers.specs.Reach.{IsReached}
use Rattle.gm_play.specs.Dialogue.{without_return}
use Rattle.gm_play.specs.PlayTexts.{IsReadAs}
use Rattle.gm_json.specs.Asking.{lines_of}
use Rattle.gm_caption.specs.declared.caption.Caption.{Caption}
use Rattle.gm_page.specs.declared.puzzles.Puzzle.{Puzzle}
use Rattle.gm_page.specs.declared.puzzles.SheetLook.{SheetLook}
use Rattle.gm_caption.specs.Captions.{caption_for, is_valued}
use Rattle.gm_page.specs.Puzzles.{IsPuzzle, IsSheetOrder, legend_of, listed_sheet}
use Rattle.gm_command.specs.declared.names.GameName.{GameName}
use Rattle.gm_command.specs.Names.{game_of_name}
use Rattle.gm_command.specs.declared.requests.SheetRequest.{SheetRequest}
use Rattle.gamesman.specs.declared.fault.Fault.{Fault}
use Rattle.gamesman.specs.declared.fault.Fault.TheVariants.{NoSuchGame, NoSuchGameInLine, NoSuchPositionInLine, OutOfMemory, InputFailed, TooMuchInput}
use Rattle.gamesman.specs.declared.list.ListLine.{ListLine}
use Rattle.gamesman.specs.declared.list.PositionList.{PositionList}
use Rattle.gamesman.specs.declared.sheet.Parts.{Parts}
use Rattle.gamesman.specs.Filters.{IsOfNone}
use Rattle.gamesman.specs.Games.{GameSpec, spec_of}
use Rattle.gamesman.specs.Lists.{text_on, IsOfGame, AreGamesOf, IsGameless, IsWholeInput}
use Rattle.gamesman.specs.Refusals.{IsUnbuilt}
use Rattle.gamesman.specs.Told.{IsTold}

-- ---- one game
-- a position of the game has this text
abbrev pub IsOfSome : GameSpec → List ℕ → Type 0
IsOfSome g text = (p : Position) × IsReadAs g.rules g.shown g.move_shown text p × IsReached g.rules p.tier

-- the puzzle is that of the position of the game with this text
abbrev pub IsPuzzleOf : GameSpec → SheetLook → List ℕ → Puzzle → Type 0
IsPuzzleOf g look text p = IsPuzzle g look text p × IsOfSome g text

-- the puzzle at this place is
abbrev pub IsPuzzleAt : GameSpec → SheetLook → List ℕ → List Puzzle → ℕ → Type 0
IsPuzzleAt g look text puzzles j = (p : Puzzle) × (slice_get puzzles j ≡ Some p) × IsPuzzleOf g look text p

-- of the first n lines those whose game is at the place k have their puzzles, and no other puzzle changes
pub record AreFilled (g : GameSpec) (look : SheetLook) (k : ℕ) (lines : List ListLine) (n : ℕ) (old new : List Puzzle) : Type 0 where
  pub many : length new ≡ length old
  pub here : (j : ℕ) (l : ListLine) → slice_get lines j ≡ Some l → l.game ≡ k → j < n → IsPuzzleAt g look l.text.items new j
  pub others : (j : ℕ) (l : ListLine) → slice_get lines j ≡ Some l → (l.game ≡ k → ⊥) → slice_get new j ≡ slice_get old j

-- those puzzles are made, and the line on who is who is added
pub record IsPartOf (g : GameSpec) (look : SheetLook) (k : ℕ) (lines : List ListLine) (old new : Parts) : Type 0 where
  pub filled : AreFilled g look k lines (length lines) old.puzzles.items new.puzzles.items
  pub legends : new.legends.items ≡ old.legends.items ++ legend_of g

-- no position of the game has the text of the line with this number
abbrev pub IsNoPuzzle : GameSpec → List ℕ → ℕ → Fault → Type 0
IsNoPuzzle g text number (NoSuchPositionInLine n) = (n ≡ number) × IsOfNone g.rules g.shown g.move_shown text
IsNoPuzzle g text number (OutOfMemory error) = Unit {0}
IsNoPuzzle g text number _ = ⊥

-- the lines of a game at this place before the place j are those of positions
abbrev pub AreOfSome : GameSpec → ℕ → List ListLine → ℕ → Type 0
AreOfSome g k lines j = (i : ℕ) (l : ListLine) → slice_get lines i ≡ Some l → l.game ≡ k → i < j → IsOfSome g l.text.items

-- why the puzzles of a game are not made: a line is that of no position, and each one of the game before it is, or its tables are not built
abbrev pub IsUnfilled : GameSpec → ℕ → List ListLine → Fault → Type 0
IsUnfilled g k lines (NoSuchPositionInLine n) =
    (j : ℕ) × (l : ListLine) × (slice_get lines j ≡ Some l) × (l.game ≡ k) × AreOfSome g k lines j × IsNoPuzzle g l.text.items (j + 1) (NoSuchPositionInLine n)
IsUnfilled g k lines fault = IsUnbuilt g.rules g.rules.initial.tier fault

-- the parts of a sheet for the game are made, or not, with the reason
unfoldable pub IsFilledBy : GameSpec → SheetLook → ℕ → List ListLine → Parts → Parts → Result Unit Fault → Type 0
IsFilledBy g look k lines old new result = OnOk result (IsPartOf g look k lines old new) × IfErr result (IsUnfilled g k lines)

-- ---- several games
-- the puzzles of those lines are made whose game is before the place k, and the lines on who is who in these games
pub record AreAllFilled (look : SheetLook) (list : PositionList) (k : ℕ) (parts : Parts) : Type 0 where
  pub many : length parts.puzzles.items ≡ length list.lines.items
  pub made : (j : ℕ) (l : ListLine) (game : GameName) → slice_get list.lines.items j ≡ Some l → slice_get list.games.items l.game ≡ Some game → l.game < k
      → IsPuzzleAt (spec_of game) look l.text.items parts.puzzles.items j
  pub legends : parts.legends.items ≡ flat_map (λ game. legend_of (spec_of game)) (take k list.games.items)

-- the lines of the games before the place k are those of positions
abbrev pub AreAllOfSome : PositionList → ℕ → Type 0
AreAllOfSome list k = (j : ℕ) (l : ListLine) (game : GameName) → slice_get list.lines.items j ≡ Some l → slice_get list.games.items l.game ≡ Some game
    → l.game < k → IsOfSome (spec_of game) l.text.items

-- why the puzzles of one of the games are not made, after those of the games before it
abbrev pub IsUnfilledOf : PositionList → Fault → Type 0
IsUnfilledOf list fault = (k : ℕ) × (game : GameName) × (slice_get list.games.items k ≡ Some game) × AreAllOfSome list k
    × IsUnfilled (spec_of game) k list.lines.items fault

-- ---- lists
-- there is a puzzle for each line, in their order
pub record ArePuzzles (all : Option GameName) (look : SheetLook) (lines : List (List ℕ)) (puzzles : List Puzzle) : Type 0 where
  pub many : length puzzles ≡ length lines
  pub each : (j : ℕ) (line : List ℕ) → slice_get lines j ≡ Some line → (game : GameName) × IsOfGame all line game
      × IsPuzzleAt (spec_of game) look (text_on all (without_return line)) puzzles j

-- the heading
abbrev pub title_of : Option (Bor (List ℕ)) → List ℕ
title_of title = elim title [ None ↦ codes "Puzzles" | Some text ↦ text.now ]

-- what is shown of each value
abbrev pub sheet_caption : SheetRequest → Caption
sheet_caption request = caption_for request.template request.valued request.own_moves

-- what the diagrams show
abbrev pub look_of : SheetRequest → SheetLook
look_of request = record { valued = is_valued (sheet_caption request); arrow = request.arrow }

-- the sheet of these puzzles in the order that is asked for, with these lines on who is who
pub record IsOrderedSheet (request : SheetRequest) (legends : List ℕ) (puzzles : List Puzzle) (out : List ℕ) : Type 0 where
  pub listed : List Puzzle
  pub order : IsSheetOrder request.rising puzzles listed
  pub out_is : out ≡ listed_sheet (title_of request.title) legends (sheet_caption request) listed

abbrev pub IsSheetWith : SheetRequest → Parts → List ℕ → Type 0
IsSheetWith request parts out = IsOrderedSheet request parts.legends.items parts.puzzles.items out

-- the sheet of these lines: their puzzles in order, and the lines on who is who in each of their games
pub record IsListedSheet (all : Option GameName) (request : SheetRequest) (lines : List (List ℕ)) (out : List ℕ) : Type 0 where
  pub games : List GameName
  pub are_games : AreGamesOf all lines games
  pub puzzles : List Puzzle
  pub are_puzzles : ArePuzzles all (look_of request) lines puzzles
  pub sheet : IsOrderedSheet request (flat_map (λ game. legend_of (spec_of game)) games) puzzles out

-- each line is of a game, and no position of its game has the text of the line with this number. The lines that are looked up before it, those of the games
-- before its game and the earlier ones of its game, have texts of positions
pub record IsPositionless (all : Option GameName) (lines : List (List ℕ)) (n : ℕ) : Type 0 where
  pub games : List GameName
  pub are_games : AreGamesOf all lines games
  pub at : ℕ
  pub line : List ℕ
  pub place : ℕ
  pub game : GameName
  pub number : n ≡ at + 1
  pub here : slice_get lines at ≡ Some line
  pub placed : slice_get games place ≡ Some game
  pub of_game : IsOfGame all line game
  pub none : IsOfNone (spec_of game).rules (spec_of game).shown (spec_of game).move_shown (text_on all (without_return line))
  pub earlier : (j : ℕ) (early : List ℕ) (k : ℕ) (other : GameName) → slice_get lines j ≡ Some early → IsOfGame all early other → slice_get games k ≡ Some other
      → (k < place) ⊎ ((k ≡ place) × (j < at)) → IsOfSome (spec_of other) (text_on all (without_return early))

-- each line is of a game, and the tables of one of the games are not built
abbrev pub IsTableless : Option GameName → List (List ℕ) → Fault → Type 0
IsTableless all lines fault = (games : List GameName) × AreGamesOf all lines games × (k : ℕ) × (game : GameName) × (slice_get games k ≡ Some game)
    × IsUnbuilt (spec_of game).rules (spec_of game).rules.initial.tier fault

-- why there is no sheet of these lines
abbrev pub IsNoSheet : Option GameName → List (List ℕ) → Fault → Type 0
IsNoSheet all lines (NoSuchGameInLine n) = IsGameless all lines n
IsNoSheet all lines (NoSuchPositionInLine n) = IsPositionless all lines n
IsNoSheet all lines (OutOfMemory error) = Unit {0}
IsNoSheet all lines fault = IsTableless all lines fault

-- ---- the command
-- the sheet of the lines of an input
abbrev pub IsSheetOfInput : Option GameName → SheetRequest → Option (List ℕ) → List ℕ → Type 0
IsSheetOfInput all request input out = (bytes : List ℕ) × IsWholeInput input bytes
    × IsListedSheet all request (lines_of bytes) out

-- why there is none
abbrev pub IsNoSheetOfInput : Option GameName → Option (List ℕ) → Fault → Type 0
IsNoSheetOfInput all input (OutOfMemory error) = Unit {0}
IsNoSheetOfInput all input InputFailed = Unit {0}
IsNoSheetOfInput all input TooMuchInput = Unit {0}
IsNoSheetOfInput all input fault = (bytes : List ℕ) × IsWholeInput input bytes × IsNoSheet all (lines_of bytes) fault

-- the sheet of a list is written, or refused before anything is
abbrev pub IsSheetWritten : Option GameName → SheetRequest → Option (List ℕ) → Option (List ℕ) → Option (List ℕ) → Result ℕ Fault → Type 0
IsSheetWritten all request input before after result = IsTold (IsSheetOfInput all request input) (IsNoSheetOfInput all input) before after result

-- the same of lists of a game with this name, if there is one, or of a list with the names of its games
abbrev pub IsSheetFor : Option GameName → SheetRequest → Option (List ℕ) → Option (List ℕ) → Option (List ℕ) → Result ℕ Fault → Type 0
IsSheetFor None request input before after result = (result ≡ Err NoSuchGame) × Keeps before after
IsSheetFor (Some game) request input before after result = IsSheetWritten (Some game) request input before after result

abbrev pub IsSheeted : SheetRequest → Option (List ℕ) → Option (List ℕ) → Option (List ℕ) → Result ℕ Fault → Type 0
IsSheeted request input before after result = elim request.game [
  | None ↦ IsSheetWritten None request input before after result
  | Some name ↦ IsSheetFor (game_of_name name.now) request input before after result
]
