use Rattle.gm_testing.specs.ByHand.{IsCounted, IsLater}
use Rattle.gm_testing.proofs.by_hand.finish_phase.Given as goal

abbrev pub invariant-loop : goal.invariant-loop
invariant-loop g l = record { counted : IsCounted g.G.Game.rules l.shard l.expected; later : IsLater l.fn.shard l.shard }
