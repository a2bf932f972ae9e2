-- Where positions stand, by their values.
use Rattle.gm_locks.proofs.Lower.{◌≡◌, ℕ, inl, inr, subst, Position, Rules}
use Rattle.gm_game.specs.declared.position.Solved.{Solved}
use Rattle.gm_game.specs.declared.position.Value.{Value}
use Rattle.gm_game.specs.declared.position.Value.TheVariants.{Lose, Draw, Tie, Win}
use Rattle.gm_game.specs.declared.position.Phase.{Phase}
use Rattle.gm_game.specs.declared.position.Phase.TheVariants.{WinLose, Ties}
use Rattle.gm_game.specs.Places.{StandsAt}
use Rattle.gm_game.proofs.Basic.{HasValue_once}
use Rattle.gm_game.specs.Values.{HasValue, IsTrueValue}
pub use Rattle.gm_counters.proofs.AddedLemmas.{value_stands}

-- what is at a level has that remoteness
pub stands_remoteness : (r : Rules) (p : Position) (phase : Phase) (n : ℕ) (x : Solved) → StandsAt r phase n p → IsTrueValue r p x → x.remoteness ≡ n
stands_remoteness r p WinLose n x (inl h) t = (HasValue_once r p x.value Win x.remoteness n t h).1
stands_remoteness r p WinLose n x (inr h) t = (HasValue_once r p x.value Lose x.remoteness n t h).1
stands_remoteness r p Ties n x h t = (HasValue_once r p x.value Tie x.remoteness n t h).1

-- what is somewhere is no draw
pub stands_no_draw : (r : Rules) (p : Position) (phase : Phase) (n : ℕ) → StandsAt r phase n p → HasValue r p Draw 0 → ⊥
stands_no_draw r p WinLose n (inl h) d = let e = (HasValue_once r p Win Draw n 0 h d).0 in cc
stands_no_draw r p WinLose n (inr h) d = let e = (HasValue_once r p Lose Draw n 0 h d).0 in cc
stands_no_draw r p Ties n h d = let e = (HasValue_once r p Tie Draw n 0 h d).0 in cc

-- and what is no draw is somewhere
pub value_place : (r : Rules) (p : Position) (v : Value) (n : ℕ) → HasValue r p v n → (HasValue r p Draw 0 → ⊥) → (phase : Phase) × StandsAt r phase n p
value_place r p Lose n h some = (WinLose, inr h)
value_place r p Draw n h some = absurd (some (subst (HasValue r p Draw) h.0 h))
value_place r p Tie n h some = (Ties, h)
value_place r p Win n h some = (WinLose, inl h)
