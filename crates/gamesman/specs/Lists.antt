-- Lists of positions: lines with the name of a game and the text of a position.
use Rattle.std.specs.Prelude.{◌≡◌, ◌⊎◌, ℕ, ◌+◌, ◌<◌, ◌==◌, List, [], ◌∷◌, ◌++◌, drop, take, Option, None, Some}
use Rattle.std.specs.List.{AllZip, position, slice_get}
use Rattle.std.specs.Str.{IsUtf8}
use Rattle.std.specs.Io.KnownBytes.{Consumes, IsAtEnd}
use Rattle.gm_play.specs.Dialogue.{without_return}
use Rattle.gm_command.specs.declared.names.GameName.{GameName}
use Rattle.gm_command.specs.Names.{game_of_name}
use Rattle.gamesman.specs.declared.fault.Fault.{Fault}
use Rattle.gamesman.specs.declared.fault.Fault.TheVariants.{NoSuchGameInLine, OutOfMemory}
use Rattle.gamesman.specs.declared.list.ListLine.{ListLine}
use Rattle.gamesman.specs.declared.list.PositionList.{PositionList}

-- ---- columns
-- the first tab of a line
abbrev pub first_tab : List ℕ → Option ℕ
first_tab line = position (λ b. b == 9) line

-- a line up to its first tab; the whole line if it has none
abbrev pub before_tab : List ℕ → List ℕ
before_tab line = elim (first_tab line) [ None ↦ line | Some k ↦ take k line ]

-- a line after its first tab
abbrev pub after_tab : List ℕ → List ℕ
after_tab line = elim (first_tab line) [ None ↦ [] | Some k ↦ drop (k + 1) line ]

-- the game of a line: the one that is given for all lines, or the one of the name in the first column
abbrev pub game_on : Option GameName → List ℕ → Option GameName
game_on None line = game_of_name (before_tab line)
game_on (Some game) line = Some game

-- these bytes are no game's name: they are no text, or no game has the text as its name
abbrev pub IsNoName : List ℕ → Type 0
IsNoName bytes = (IsUtf8 bytes → ⊥) ⊎ (game_of_name bytes ≡ None)

-- a line names no game
abbrev pub HasNoGame : Option GameName → List ℕ → Type 0
HasNoGame None line = IsNoName (before_tab line)
HasNoGame (Some game) line = ⊥

-- a line is of this game
abbrev pub IsOfGame : Option GameName → List ℕ → GameName → Type 0
IsOfGame all line game = game_on all (without_return line) ≡ Some game

-- a line is of a game
abbrev pub IsNamed : Option GameName → List ℕ → Type 0
IsNamed all line = (game : GameName) × IsOfGame all line game

-- the text of a line's position: the next column
abbrev pub text_on : Option GameName → List ℕ → List ℕ
text_on None line = before_tab (after_tab line)
text_on (Some game) line = before_tab line

-- ---- games
-- a game has its place among games by its first line: each line before that one is of a game at an earlier place
abbrev pub IsFirstLine : Option GameName → List GameName → List (List ℕ) → ℕ → GameName → Type 0
IsFirstLine all games lines k game = (j : ℕ) × (line : List ℕ) × (slice_get lines j ≡ Some line) × IsOfGame all line game
    × ((i : ℕ) (early : List ℕ) → i < j → slice_get lines i ≡ Some early
    → (m : ℕ) × (other : GameName) × (m < k) × (slice_get games m ≡ Some other) × IsOfGame all early other)

-- the games of these lines, each once, in the order of their first lines
pub record AreGamesOf (all : Option GameName) (lines : List (List ℕ)) (games : List GameName) : Type 0 where
  pub named : (j : ℕ) (line : List ℕ) → slice_get lines j ≡ Some line → (k : ℕ) × (game : GameName) × (slice_get games k ≡ Some game) × IsOfGame all line game
  pub once : (i j : ℕ) (game : GameName) → slice_get games i ≡ Some game → slice_get games j ≡ Some game → i ≡ j
  pub first : (k : ℕ) (game : GameName) → slice_get games k ≡ Some game → IsFirstLine all games lines k game

-- games with this one, which is added at their end if it is new
abbrev pub IsGameAdded : List GameName → GameName → List GameName → Type 0
IsGameAdded old game new = ((new ≡ old) × ((k : ℕ) × (slice_get old k ≡ Some game)))
    ⊎ ((new ≡ old ++ game ∷ []) × ((k : ℕ) → slice_get old k ≡ Some game → ⊥))

-- ---- lists
-- a line of a list, whose game is at this place among the list's games
abbrev pub IsPlaced : Option GameName → List GameName → List ℕ → ListLine → Type 0
IsPlaced all games line l = (game : GameName) × IsOfGame all line game × (slice_get games l.game ≡ Some game)
    × (l.text.items ≡ text_on all (without_return line))

-- the list of these lines
pub record IsListOf (all : Option GameName) (lines : List (List ℕ)) (list : PositionList) : Type 0 where
  pub are_games : AreGamesOf all lines list.games.items
  pub placed : AllZip (IsPlaced all list.games.items) lines list.lines.items

-- why a line at this place is none of a list
abbrev pub IsNoLine : Option GameName → List ℕ → ℕ → Fault → Type 0
IsNoLine all line k (NoSuchGameInLine n) = (n ≡ k + 1) × HasNoGame all (without_return line)
IsNoLine all line k (OutOfMemory error) = Unit {0}
IsNoLine all line k _ = ⊥

-- the line with this number is the first that names no game
abbrev pub IsGameless : Option GameName → List (List ℕ) → ℕ → Type 0
IsGameless all lines n = (k : ℕ) × (line : List ℕ) × (n ≡ k + 1) × (slice_get lines k ≡ Some line) × HasNoGame all (without_return line)
    × ((j : ℕ) (early : List ℕ) → j < k → slice_get lines j ≡ Some early → IsNamed all early)

-- ---- inputs
-- all bytes of an input
abbrev pub IsWholeInput : Option (List ℕ) → List ℕ → Type 0
IsWholeInput input bytes = (left : Option (List ℕ)) × Consumes input left bytes × IsAtEnd left
