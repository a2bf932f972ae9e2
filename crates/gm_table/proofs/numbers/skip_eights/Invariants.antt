use Rattle.gm_table.proofs.Lower.{ℕ, ◌-◌, ◌<◌, ◌≤◌, length, slice_get, IfSome}
use Rattle.gm_table.proofs.numbers.skip_eights.Given as goal

abbrev pub invariant-loop-index : goal.invariant-loop-index
invariant-loop-index l = (l.from ≤ l.index) × (l.index ≤ length l.shorts)
    × ((k : ℕ) → l.from ≤ k → k < l.index → IfSome (slice_get l.shorts k) (λ short. short < 32))

abbrev pub decreases-loop-index : goal.decreases-loop-index
decreases-loop-index l = length l.shorts - l.index
