use Rattle.gm_dao.proofs.Lower.{slides_by_masks}
use Rattle.gm_dao.proofs.LoopSteps.{HasPassed}
use Rattle.gm_dao.proofs.slides.goals.Given as goal

abbrev pub invariant-loop-to : goal.invariant-loop-to
invariant-loop-to l = HasPassed (slides_by_masks l.free l.taken l.from) l.to l.goals
