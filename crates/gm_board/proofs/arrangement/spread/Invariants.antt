use Rattle.gm_board.proofs.PackSteps.{IsSpreading}
use Rattle.gm_board.proofs.arrangement.spread.Given as goal

abbrev pub invariant-loop-rest : goal.invariant-loop-rest
invariant-loop-rest l = IsSpreading l.cells l.mine l.packed l.rest l.theirs

abbrev pub decreases-loop-rest : goal.decreases-loop-rest
decreases-loop-rest l = l.rest
