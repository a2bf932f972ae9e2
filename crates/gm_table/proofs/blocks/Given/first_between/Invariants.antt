use Rattle.gm_table.proofs.Lower.{◌≡◌, ◌≤◌, ◌-◌, FitBetween}
use Rattle.gm_table.proofs.blocks.Given.first_between.Given as goal

abbrev pub invariant-loop-canonical : goal.invariant-loop-canonical
invariant-loop-canonical g l = record {
  low : l.fn.lo ≤ l.next;
  high : l.next ≤ l.hi;
  cache : l.cache ≡ l.fn.cache;
  fit : FitBetween g.G.Game.rules l.self.tables.now l.self.tier (g.C.Records.listed l.self.records.now) l.fn.lo l.next;
}

abbrev pub decreases-loop-canonical : goal.decreases-loop-canonical
decreases-loop-canonical g l = l.hi - l.next
