-- Lines of best play by both sides.
use Rattle.std.specs.Prelude.{◌≡◌, ◌≢◌, ℕ, ◌<◌, ◌≤◌, List, [], ◌∷◌, length, take, slice_get, None, Some, get_or}
use Rattle.gm_game.specs.declared.position.Position.{Position}
use Rattle.gm_game.specs.declared.position.Value.{Value}
use Rattle.gm_game.specs.declared.position.Value.TheVariants.{Draw}
use Rattle.gm_game.specs.Rules.{Rules}
use Rattle.gm_game.specs.Values.{HasValue}
use Rattle.gm_play.specs.declared.best_line.BestLine.{BestLine}
use Rattle.gm_play.specs.declared.best_line.LineEnd.{LineEnd}
use Rattle.gm_play.specs.declared.best_line.LineEnd.TheVariants.{Over, Again, Cut}
use Rattle.gm_play.specs.BestMoves.{IsBestMove}
use Rattle.gm_play.specs.Lines.{position_after}

-- each of these moves is the best one of its position
abbrev pub AreBest : Rules → Position → List ℕ → Type 0
AreBest r p [] = Unit {0}
AreBest r p (m ∷ ms) = IsBestMove r p (Some m) × AreBest r (r.play p m) ms

-- the position before the moves, and the result of each
abbrev pub positions_along : Rules → Position → List ℕ → List Position
positions_along r p [] = p ∷ []
positions_along r p (m ∷ ms) = p ∷ positions_along r (r.play p m) ms

-- no position occurs twice
abbrev pub AreFresh : List Position → Type 0
AreFresh ps = (i j : ℕ) (d : Position) → i < j → j < length ps → get_or ps i d ≢ get_or ps j d

-- why the line ends: the game has ended; or the last position has occurred before, and no other has; or the limit on the moves is reached
abbrev pub EndsSo : Rules → Position → ℕ → List ℕ → LineEnd → Type 0
EndsSo r p limit ms Over = (r.primitive (position_after r p ms) ≢ None) × AreFresh (positions_along r p ms)
EndsSo r p limit ms (Again k) = (k < length ms) × (slice_get (positions_along r p ms) k ≡ Some (position_after r p ms)) × AreFresh
    (take (length ms) (positions_along r p ms))
EndsSo r p limit ms Cut = (r.primitive (position_after r p ms) ≡ None) × (length ms ≡ limit) × AreFresh (positions_along r p ms)

-- a line of best moves, no longer than the limit
pub record IsBestLine (r : Rules) (p : Position) (limit : ℕ) (line : BestLine) : Type 0 where
  pub best : AreBest r p line.moves.items
  pub positions : line.positions.items ≡ positions_along r p line.moves.items
  pub few : length line.moves.items ≤ limit
  pub end : EndsSo r p limit line.moves.items line.end

-- from a win, a loss or a tie a line that is not cut has as many moves as the remoteness, and ends the game; from a draw no line ends the game
pub record IsWhole (r : Rules) (p : Position) (limit : ℕ) (line : BestLine) : Type 0 where
  pub over : (v : Value) (n : ℕ) → HasValue r p v n → v ≢ Draw → n ≤ limit → (line.end ≡ Over) × (length line.moves.items ≡ n)
  pub cut : (v : Value) (n : ℕ) → HasValue r p v n → v ≢ Draw → limit < n → line.end ≡ Cut
  pub drawn : (n : ℕ) → HasValue r p Draw n → line.end ≢ Over
