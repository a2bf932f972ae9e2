use Rattle.gm_locks.specs.Spots.{IsSameSpot}
use Rattle.gm_testing.proofs.by_hand.deliver_level.Given as goal

abbrev pub invariant-loop-note : goal.invariant-loop-note
invariant-loop-note g l = IsSameSpot l.fn.shard l.shard
