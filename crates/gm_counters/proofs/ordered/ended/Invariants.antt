use Rattle.gm_counters.proofs.Lower.{◌+◌, ◌-◌, ◌≤◌}
use Rattle.gm_counters.proofs.FillLemmas.{IsFilled}
use Rattle.gm_counters.proofs.ordered.ended.Given as goal

abbrev pub invariant-loop-index : goal.invariant-loop-index
invariant-loop-index g l =
    (l.lo ≤ l.index) × (l.index ≤ l.lo + l.count) × IsFilled g.G.Game.rules l.children l.phase (l.index - l.lo) l.queue

abbrev pub decreases-loop-index : goal.decreases-loop-index
decreases-loop-index g l = l.lo + l.count - l.index
