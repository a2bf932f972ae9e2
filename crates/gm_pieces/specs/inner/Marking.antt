-- Numbers of moves that masks mark.
use Rattle.std.specs.Prelude.{◌≡◌, ℕ, ◌+◌, ◌*◌, ◌<◌, ◌↔◌, Bool, true, ◌&&◌, List, [], ◌∷◌, ◌++◌, map, length, Option, None, Some}
use Rattle.std.specs.List.{Contains, filter, range_with_len}
use Rattle.gm_board.specs.Masks.{has_cell}
use Rattle.gm_game.specs.Boards.{least_index}
use Rattle.gm_pieces.specs.MoveGames.{MoveGame, board_game, goes_on}
use Rattle.gm_pieces.specs.declared.marks.MarkedRun.{MarkedRun}
use Rattle.gm_pieces.specs.declared.marks.Marks.{Marks}

-- the places of a mask, ascending
unfoldable pub places : ℕ → List ℕ
places m = filter (has_cell m) (range_with_len 0 64)

-- the number at a place of a run, and the numbers that a run marks
abbrev pub run_number : MarkedRun → ℕ → ℕ
run_number r k = r.first + r.step * k

abbrev pub numbers : MarkedRun → List ℕ
numbers r = map (run_number r) (places r.marks)

-- the numbers that four runs mark
abbrev pub marked : Marks → List ℕ
marked c = numbers c.a ++ (numbers c.b ++ (numbers c.c ++ numbers c.d))

-- the first number of a list, and what holds the others; `None` if the list is empty
abbrev pub IsSplit : {R : Type 0} → (R → List ℕ) → List ℕ → Option (ℕ × R) → Type 0
IsSplit held ns None = ns ≡ []
IsSplit held ns (Some found) = ns ≡ found.0 ∷ held found.1

-- the marks are the numbers below the bound that pass the test, each once
pub record AreMarks (p : ℕ → Bool) (bound : ℕ) (c : Marks) : Type 0 where
  pub exact : (m : ℕ) → Contains (marked c) m ↔ ((m < bound) × (p m ≡ true))
  pub once : length (marked c) ≡ length (filter p (range_with_len 0 bound))

-- whether the move with this number led to a board from one of the tier from which the game went on
abbrev pub leads_here : {B S : Type 0} → MoveGame B S → ℕ → B → ℕ → Bool
leads_here g t d m = g.can_have_led_here t d m && goes_on g t (g.undo t d m) m

-- the move with this number led to a board from one of the tier from which the game went on
pub record IsLed {B S : Type 0} (g : MoveGame B S) (t : ℕ) (d : B) (m : ℕ) : Type 0 where
  pub below : m < g.move_number_bound t
  pub led : leads_here g t d m ≡ true

-- the least index of the board before the move with this number
abbrev pub index_before : {B S : Type 0} → MoveGame B S → ℕ → B → ℕ → ℕ
index_before g t d m = least_index (board_game g) (g.undo t d m)
