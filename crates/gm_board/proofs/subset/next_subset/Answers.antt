use Rattle.gm_board.proofs.Lower.{◌+◌, ◌-◌, ◌%◌, ◌^◌, arith, trailing_zeros}
use Rattle.std.proofs.Common.{◌*◌, w32}
use Rattle.gm_board.proofs.NextSteps.{IsStep, next_of, next_within}
use Rattle.gm_board.proofs.subset.next_subset.Goals.{After-trailing_ones-run}
use Rattle.gm_board.proofs.subset.next_subset.Goals as goal

-- what the code makes
made : (c : After-trailing_ones-run) → IsStep c.args.mask c.trailing_ones-run.result
    (c.args.mask + 1 * 2 ^ trailing_zeros w32 c.args.mask % 2 ^ 32 + (1 * 2 ^ (c.trailing_ones-run.result - 1) % 2 ^ 32 - 1))
made c = next_of c.args.mask c.trailing_ones-run.result c.requires.some c.requires.within c.trailing_ones-run.ensures

pub overflow_sub-result : goal.overflow_sub-result
overflow_sub-result c = (made c).some

pub overflow_add-result-2 : goal.overflow_add-result-2
overflow_add-result-2 c = let f = (made c).is_next.fits in omega (arith, f)

pub returns-clause-rank : goal.returns-clause-rank
returns-clause-rank c = (made c).is_next.rank_is

pub returns-clause-members : goal.returns-clause-members
returns-clause-members c = (made c).is_next.ones_are

pub returns-clause-below : goal.returns-clause-below
returns-clause-below c n l h = next_within c.args.mask _ n (made c).is_next l h
