use Rattle.gm_frontier.proofs.Lower.{◌≡◌, ◌≤◌, length, ◌-◌, ◌++◌, pairs_of}
use Rattle.gm_frontier.specs.inner.Rows.{stretch}
use Rattle.gm_frontier.proofs.pairs.PairsIterator.next.Given as goal

abbrev pub invariant-loop-pair : goal.invariant-loop-pair
invariant-loop-pair g l = record {
  fits : l.self-inside.to ≤ length l.self-inside.level.now.notes;
  same : l.self-inside.row ++ pairs_of g.G.Game.rules l.self-inside.level.now.place.tier l.self-inside.lo l.self-inside.hi
      (stretch l.self-inside.from l.self-inside.to l.self-inside.level.now.notes) ≡ l.fn.self;
}

abbrev pub decreases-loop-pair : goal.decreases-loop-pair
decreases-loop-pair g l = l.self-inside.to - l.self-inside.from
