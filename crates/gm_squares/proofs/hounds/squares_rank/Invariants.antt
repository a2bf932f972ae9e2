use Rattle.gm_board.proofs.RankSteps.{IsCounted}
use Rattle.gm_squares.proofs.hounds.squares_rank.Given as goal

abbrev pub invariant-loop-rest : goal.invariant-loop-rest
invariant-loop-rest l = IsCounted l.mask l.rest l.members l.rank

abbrev pub decreases-loop-rest : goal.decreases-loop-rest
decreases-loop-rest l = l.rest
