use Rattle.gm_immediate.proofs.Parts.{AreJoined}
use Rattle.gm_immediate.proofs.one_pass.OnePass.join.Given as goal

abbrev pub invariant-loop-block : goal.invariant-loop-block
invariant-loop-block g l = AreJoined g.G.Game.rules l.self.tier l.block l.all l.number
