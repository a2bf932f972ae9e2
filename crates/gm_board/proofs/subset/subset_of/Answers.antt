use Rattle.gm_board.proofs.Lower.{◌-◌, ◌^◌, ◌≤◌, arith, pow_mono, one_shl}
use Rattle.gm_board.specs.laws.Masks.{mask_unrank_below}
use Rattle.gm_board.specs.Binomials.{binomial as binomial_of}
use Rattle.gm_board.proofs.UnrankSteps.{unrank_cell, unrank_take, unrank_leave, unrank_all}
use Rattle.gm_board.proofs.FourSteps.{four_below}
use Rattle.gm_board.proofs.subset.subset_of.Goals as goal

pub four_of-requires : goal.four_of-requires
four_of-requires c = four_below c.args.n c.args.k c.args.rank c.if-k-eq4.true c.if-n-le16.true c.requires.below

pub overflow_sub-cell : goal.overflow_sub-cell
overflow_sub-cell c = let p = unrank_cell _ _ _ _ _ c.loop-left.invariant.1 (omega arith) in omega arith

pub overflow_add-mask : goal.overflow_add-mask
overflow_add-mask c =
    let b = c.loop-left.cell - 1 in
    let p = unrank_cell _ _ _ _ _ c.loop-left.invariant.1 (omega arith) in
    let l : binomial_of b c.loop-left.left ≤ c.loop-left.rest = omega (arith, c.binomial-below.ensures.value) in
    let t = unrank_take _ _ b _ _ _ (omega arith) c.loop-left.invariant.1 l in
    let q : 2 ^ c.args.n ≤ 2 ^ 32 = pow_mono c.requires.cells in
    omega (arith, one_shl b 32 (omega arith), t.is_wanted, mask_unrank_below c.args.n c.args.k c.args.rank, q)

pub loop-left-preserved-then-rest-below : goal.loop-left-preserved-then-rest-below
loop-left-preserved-then-rest-below c =
    let b = c.loop-left.cell - 1 in
    let p = unrank_cell _ _ _ _ _ c.loop-left.invariant.1 (omega arith) in
    let l : binomial_of b c.loop-left.left ≤ c.loop-left.rest = omega (arith, c.binomial-below.ensures.value) in
    (omega arith, rw (c.binomial-below.ensures.value, one_shl b 32 (omega arith)) (unrank_take _ _ b _ _ _ (omega arith) c.loop-left.invariant.1 l))

pub loop-left-preserved : goal.loop-left-preserved
loop-left-preserved c =
    let p = unrank_cell _ _ _ _ _ c.loop-left.invariant.1 (omega arith) in
    (omega arith, unrank_leave _ _ (c.loop-left.cell - 1) _ _ _ (omega arith) c.loop-left.invariant.1 (omega (arith, c.binomial-below.ensures.value)))

pub loop-left-smaller-then-rest-below : goal.loop-left-smaller-then-rest-below
loop-left-smaller-then-rest-below c = let p = unrank_cell _ _ _ _ _ c.loop-left.invariant.1 (omega arith) in omega arith

pub loop-left-smaller : goal.loop-left-smaller
loop-left-smaller c = let p = unrank_cell _ _ _ _ _ c.loop-left.invariant.1 (omega arith) in omega arith

pub returns : goal.returns
returns c = unrank_all _ _ _ _ _ (omega arith) c.loop-left.invariant.1
