use Rattle.gm_immediate.proofs.Lower.{◌≡◌, ◌≤◌, ◌-◌}
use Rattle.gm_table.specs.inner.Caches.{cache_of}
use Rattle.gm_immediate.proofs.Parts.{ArePassed}
use Rattle.gm_immediate.proofs.range.settle_range.Given as goal

abbrev pub invariant-loop-index : goal.invariant-loop-index
invariant-loop-index g l = record {
  high : l.next ≤ l.fn.hi;
  cache : l.cache ≡ cache_of l.tables l.fn.tier;
  passed : ArePassed g.G.Game.rules l.fn.tier l.fn.lo l.next l.records l.number;
}

abbrev pub decreases-loop-index : goal.decreases-loop-index
decreases-loop-index g l = l.fn.hi - l.next
