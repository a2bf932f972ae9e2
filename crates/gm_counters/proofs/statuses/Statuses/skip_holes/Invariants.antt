use Rattle.gm_counters.proofs.Lower.{◌-◌, ◌≤◌, length}
use Rattle.gm_counters.proofs.NumberLemmas.{AreZeros}
use Rattle.gm_counters.proofs.statuses.Statuses.skip_holes.Given as goal

abbrev pub invariant-loop-k : goal.invariant-loop-k
invariant-loop-k l =
    (l.from ≤ l.k) × (l.k ≤ length l.self-inside.numbers.items) × AreZeros l.self-inside.numbers.items l.from l.k

abbrev pub decreases-loop-k : goal.decreases-loop-k
decreases-loop-k l = length l.self-inside.numbers.items - l.k

abbrev pub invariant-loop-k-2 : goal.invariant-loop-k-2
invariant-loop-k-2 l =
    (l.from ≤ l.k) × (l.k ≤ length l.self-inside.numbers.items) × AreZeros l.self-inside.numbers.items l.from l.k

abbrev pub decreases-loop-k-2 : goal.decreases-loop-k-2
decreases-loop-k-2 l = length l.self-inside.numbers.items - l.k
