use Rattle.gm_dao.proofs.Lower.{came_by_masks}
use Rattle.gm_dao.proofs.LoopSteps.{HasPassed}
use Rattle.gm_dao.proofs.slides.sources.Given as goal

abbrev pub invariant-loop-from : goal.invariant-loop-from
invariant-loop-from l = HasPassed (came_by_masks l.free l.taken l.to) l.from l.sources
