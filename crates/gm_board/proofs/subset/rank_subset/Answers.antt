use Rattle.gm_board.proofs.Lower.{arith, mask_rank_below, mask_unrank_rank}
use Rattle.gm_board.proofs.RankSteps.{counted_small, counted_all}
use Rattle.gm_board.proofs.subset.rank_subset.Goals as goal

pub overflow_add-members : goal.overflow_add-members
overflow_add-members c = let s = counted_small _ _ _ _ c.loop-rest.invariant in omega arith

pub overflow_add-rank : goal.overflow_add-rank
overflow_add-rank c = let s = counted_small _ _ _ _ c.loop-rest.invariant in omega arith

pub returns : goal.returns
returns c =
    let e = counted_all _ _ _ _ c.loop-rest.invariant c.loop-rest-test.false in
    record { value = e; below = λ n l f. rw e (mask_rank_below n _ l f); back = λ n l f. rw e (mask_unrank_rank n _ l f) }
