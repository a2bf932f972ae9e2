use Rattle.gm_backward.proofs.Lower.{◌≡◌, ◌≤◌, length, drop, spot_of, pairs_into, AreFirst}
use Rattle.std.proofs.Common.{max}
use Rattle.gm_backward.proofs.in_order.deliver_rest.Given as goal

-- the pairs that the walk has passed are delivered, as are the first ones that were so before it
abbrev pub invariant-loop-note : goal.invariant-loop-note
invariant-loop-note g l = record {
  left : drop l.number (pairs_into g.G.Game.rules (spot_of l.fn.shard) l.level.notes) ≡ l.note-iterator;
  within : l.number ≤ length (pairs_into g.G.Game.rules (spot_of l.fn.shard) l.level.notes);
  at : spot_of l.shard ≡ spot_of l.fn.shard;
  first : AreFirst (pairs_into g.G.Game.rules (spot_of l.fn.shard) l.level.notes) l.shard (max l.number l.done);
}
