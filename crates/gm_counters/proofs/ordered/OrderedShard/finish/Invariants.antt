use Rattle.gm_counters.proofs.Lower.{◌≡◌, ◌+◌, ◌-◌, ◌≤◌, ◌++◌, List, Option, length, Solved, AreFinal}
use Rattle.gm_counters.proofs.ordered.OrderedShard.finish.Given as goal

abbrev pub invariant-loop-index : goal.invariant-loop-index
invariant-loop-index g l = (part : List (Option Solved)) × (l.records ≡ l.fn.records ++ part) × (l.self.lo + length part ≡ l.index) × (l.index ≤ l.hi)
    × AreFinal g.G.Game.rules l.self l.self.lo part

abbrev pub decreases-loop-index : goal.decreases-loop-index
decreases-loop-index g l = l.hi - l.index
