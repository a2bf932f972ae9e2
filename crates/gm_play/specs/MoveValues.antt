-- The moves of a position, by their worth.
use Rattle.std.specs.Prelude.{◌≡◌, ℕ, ◌+◌, ◌-◌, ◌^◌, ◌≤◌, List, [], ◌∷◌, map, IsPermutation, None, Some, ◌*◌}
use Rattle.std.specs.List.{All}
use Rattle.std.specs.List.Sorted.{IsNonDecreasingBy}
use Rattle.gm_game.specs.declared.position.Position.{Position}
use Rattle.gm_game.specs.declared.position.Solved.{Solved}
use Rattle.gm_game.specs.declared.position.Value.{Value}
use Rattle.gm_game.specs.declared.position.Value.TheVariants.{Lose, Draw, Tie, Win}
use Rattle.gm_game.specs.Records.{solved}
use Rattle.gm_game.specs.Rules.{Rules}
use Rattle.gm_game.specs.Values.{IsTrueValue}
use Rattle.gm_game.specs.declared.limits.TheConstants.{REMOTENESS}
use Rattle.gm_play.specs.BestMoves.{IsBestMove}
use Rattle.gm_play.specs.declared.move_values.MoveValue.{MoveValue}

-- the worth of a move to the side that makes it, from the value and remoteness of its result; the remoteness is counted from before the move
abbrev pub worth_from : Value → ℕ → Solved
worth_from Lose k = solved Win (k + 1)
worth_from Draw k = solved Draw k
worth_from Tie k = solved Tie (k + 1)
worth_from Win k = solved Lose (k + 1)

abbrev pub worth_of : Solved → Solved
worth_of s = worth_from s.value s.remoteness

-- the rank of a move by the value and remoteness of its result: first the moves to a loss, by least remoteness, then those to a tie, by least remoteness,
-- then those to a draw, and last those to a win, by greatest remoteness
abbrev pub move_rank : Value → ℕ → ℕ
move_rank Lose k = k
move_rank Tie k = 2 ^ 32 + k
move_rank Draw k = 2 * 2 ^ 32
move_rank Win k = 4 * 2 ^ 32 - k

-- the sort key of a move: equal moves are ordered by number
abbrev pub sort_key : MoveValue → ℕ
sort_key x = 2 ^ 32 * move_rank x.result.value x.result.remoteness + x.number

-- the result of the move, its true value, and the worth of the move
pub record IsMoveValue (r : Rules) (p : Position) (x : MoveValue) : Type 0 where
  pub position : x.position ≡ r.play p x.number
  pub is_true : IsTrueValue r x.position x.result
  pub small : x.result.remoteness ≤ REMOTENESS
  pub worth : x.worth ≡ worth_of x.result

-- these are the moves of p, each once, the best first
pub record AreMoveValues (r : Rules) (p : Position) (list : List MoveValue) : Type 0 where
  pub listed : IsPermutation (r.moves p) (map (λ (x : MoveValue). x.number) list)
  pub each : All (IsMoveValue r p) list
  pub ordered : IsNonDecreasingBy sort_key list

-- the first move is the best one, and its worth is the true value of p; there is no move if the game has ended
abbrev pub BeginsBest : Rules → Position → List MoveValue → Type 0
BeginsBest r p [] = IsBestMove r p None
BeginsBest r p (x ∷ xs) = IsBestMove r p (Some x.number) × IsTrueValue r p x.worth
