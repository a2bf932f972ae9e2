use Rattle.gm_backward.proofs.Lower.{◌≡◌, ◌≤◌, ◌+◌, ◌-◌, length, AreStarts}
use Rattle.gm_backward.proofs.starts.starts.Given as goal

abbrev pub invariant-loop-index : goal.invariant-loop-index
invariant-loop-index g l = record {
  long : l.lo + length l.list.items ≡ l.next;
  high : l.next ≤ l.hi;
  starts : AreStarts g.G.Game.rules l.tier l.lo l.list.items;
}

abbrev pub decreases-loop-index : goal.decreases-loop-index
decreases-loop-index g l = l.hi - l.next
