use Rattle.gm_play.proofs.Lower.{◌≡◌, ℕ, ◌<◌, get_or, Position}
use Rattle.gm_play.proofs.best_line.place_of.Given as goal

abbrev pub invariant-loop-place : goal.invariant-loop-place
invariant-loop-place l = (k : ℕ) (d : Position) → k < l.place → get_or l.positions k d ≡ l.p → ⊥
