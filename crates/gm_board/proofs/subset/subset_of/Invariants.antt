use Rattle.gm_board.proofs.Lower.{◌≤◌, mask_unrank}
use Rattle.gm_board.proofs.UnrankSteps.{IsUnranked}
use Rattle.gm_board.proofs.subset.subset_of.Given as goal

abbrev pub invariant-loop-left : goal.invariant-loop-left
invariant-loop-left l = (l.cell ≤ l.n) × IsUnranked (mask_unrank l.n l.k l.rank) l.cell l.left l.rest l.mask

abbrev pub decreases-loop-left : goal.decreases-loop-left
decreases-loop-left l = l.cell
