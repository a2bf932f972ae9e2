use Rattle.gm_pieces.specs.Common.{ℕ, arith, bit_and, subst, sym}
use Rattle.std.specs.Prelude.{◌+◌, ◌-◌}
use Rattle.gm_board.proofs.RankSteps.{IsCounted, counted_more, counted_small, counted_all}
use Rattle.gm_squares.specs.laws.HoundFacts.{none_counted}
use Rattle.gm_squares.proofs.hounds.squares_rank.Goals as goal

pub loop-rest-init : goal.loop-rest-init
loop-rest-init c = none_counted c.args.mask

pub overflow_add-members : goal.overflow_add-members
overflow_add-members c = let s = counted_small _ _ _ _ c.loop-rest.invariant in let k = s.count_le in omega (arith, k)

pub overflow_add-rank : goal.overflow_add-rank
overflow_add-rank c =
    let s = counted_small _ _ _ _ c.loop-rest.invariant in
    let k = s.sum_below in
    let b = c.binomial-rank.ensures.small in
    omega (arith, k, b)

pub loop-rest-preserved : goal.loop-rest-preserved
loop-rest-preserved c =
    subst (λ (v : ℕ). IsCounted c.args.mask (bit_and c.loop-rest.rest (c.loop-rest.rest - 1)) (c.loop-rest.members + 1) (c.loop-rest.rank + v))
    (sym c.binomial-rank.ensures.value)
    (counted_more _ _ _ _ c.loop-rest.invariant (omega arith) (omega arith))

pub returns : goal.returns
returns c = counted_all _ _ _ _ c.loop-rest.invariant c.loop-rest-test.false
