use Rattle.gm_board.proofs.PackSteps.{IsPacking}
use Rattle.gm_board.proofs.arrangement.pack.Given as goal

abbrev pub invariant-loop-rest : goal.invariant-loop-rest
invariant-loop-rest l = IsPacking l.cells l.mine l.theirs l.rest l.passed l.packed

abbrev pub decreases-loop-rest : goal.decreases-loop-rest
decreases-loop-rest l = l.rest
