-- Moves that are tries, and their numbers along the solution of a position.
use Rattle.std.specs.Prelude.{◌≡◌, ◌≢◌, ℕ, suc, ◌+◌, ◌<◌, ◌≤◌, List, [], ◌∷◌, length, min, Option, None, Some}
use Rattle.gm_game.specs.declared.position.Position.{Position}
use Rattle.gm_game.specs.declared.position.Value.{Value}
use Rattle.gm_game.specs.declared.position.Value.TheVariants.{Lose, Draw, Tie, Win}
use Rattle.gm_game.specs.declared.position.Solved.{Solved}
use Rattle.gm_game.specs.Rules.{Rules}
use Rattle.gm_game.specs.Values.{IsTrueValue}
use Rattle.gm_play.specs.BestMoves.{wanted_from}
use Rattle.gm_play.specs.BestLines.{AreBest}
use Rattle.gm_play.specs.Lines.{position_after}
use Rattle.gm_find.specs.declared.tries.Tries.{Tries}
use Rattle.gm_find.specs.Lists.{AreThose}

-- after a best move from a position of this value with the first remoteness, the result has the second: it is one move nearer the end; a draw has no end
abbrev pub IsNext : Value → ℕ → ℕ → Type 0
IsNext Draw n k = Unit {0}
IsNext Lose n k = suc k ≡ n
IsNext Tie n k = suc k ≡ n
IsNext Win n k = suc k ≡ n

-- a move from a position of the first value to one of the second is a best one
abbrev pub IsBestStep : Solved → Solved → Type 0
IsBestStep own after = (after.value ≡ wanted_from own.value) × IsNext own.value own.remoteness after.remoteness

-- the side that is to move at a position of this value neither wins nor ties within three moves
abbrev pub IsOpen : Value → ℕ → Type 0
IsOpen Lose k = Unit {0}
IsOpen Draw k = Unit {0}
IsOpen Tie k = 3 < k
IsOpen Win k = 3 < k

-- a move from a position of the first value to one of the second is a try
abbrev pub IsTryStep : Solved → Solved → Type 0
IsTryStep own after = (IsBestStep own after → ⊥) × IsOpen after.value after.remoteness

-- the move is no best one of p, and after it the other side neither wins nor ties within three moves
abbrev pub IsTry : Rules → Position → ℕ → Type 0
IsTry r p m = (own : Solved) × (after : Solved) × IsTrueValue r p own × IsTrueValue r (r.play p m) after × IsTryStep own after

-- of the moves of p this many are tries
abbrev pub HasTries : Rules → Position → ℕ → Type 0
HasTries r p n = (kept : List ℕ) × AreThose (IsTry r p) (r.moves p) kept × (length kept ≡ n)

-- these moves are the solution of p: the line of best play, up to the end of the game
abbrev pub IsSolutionOf : Rules → Position → List ℕ → Type 0
IsSolutionOf r p ms = AreBest r p ms × (r.primitive (position_after r p ms) ≢ None)

-- along these moves there are so many tries at the turns of the side that moves first: it is to move at p, or the other side is at q
abbrev mutual
  pub AreTurns : Rules → Position → List ℕ → List ℕ → Type 0
  AreTurns r p [] ts = ts ≡ []
  AreTurns r p (m ∷ ms) ts = (t : ℕ) × (rest : List ℕ) × HasTries r p t × AreTurnsAfter r (r.play p m) ms rest × (ts ≡ t ∷ rest)

  pub AreTurnsAfter : Rules → Position → List ℕ → List ℕ → Type 0
  AreTurnsAfter r q [] ts = ts ≡ []
  AreTurnsAfter r q (e ∷ ms) ts = AreTurns r (r.play q e) ms ts

-- the least of some numbers; 0 if there are none
abbrev pub least_turn : List ℕ → ℕ
least_turn [] = 0
least_turn (t ∷ []) = t
least_turn (t ∷ u ∷ us) = min t (least_turn (u ∷ us))

abbrev pub total_of : List ℕ → ℕ
total_of [] = 0
total_of (t ∷ ts) = t + total_of ts

-- along the solution of p there are so many tries at the turns of the side that moves first
abbrev pub AreOnSolution : Rules → Position → List ℕ → Type 0
AreOnSolution r p ts = (ms : List ℕ) × IsSolutionOf r p ms × AreTurns r p ms ts

-- the number of tries of p, and along its solution the least and the sum of them
pub record IsTriesOf (r : Rules) (p : Position) (x : Tries) : Type 0 where
  pub own : HasTries r p x.own
  pub turns : List ℕ
  pub along : AreOnSolution r p turns
  pub least : x.least ≡ least_turn turns
  pub total : x.total ≡ total_of turns

-- the tries of a position of this value; a draw has no solution
abbrev pub AreTriesOf : Rules → Position → Value → Option Tries → Type 0
AreTriesOf r p v None = v ≡ Draw
AreTriesOf r p v (Some x) = IsTriesOf r p x

-- p has a solution, and at each turn of the side that moves first at least n tries
abbrev pub HasLeastTries : Rules → ℕ → Position → Type 0
HasLeastTries r n p = (ts : List ℕ) × AreOnSolution r p ts × (n ≤ least_turn ts)
