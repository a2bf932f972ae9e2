use Rattle.std.specs.Prelude.{◌+◌, ◌-◌, ◌<◌}
use Rattle.gm_pieces.specs.Common.{ℕ, arith, ap, get_or, mask_unrank}
use Rattle.gm_squares.specs.declared.hounds.TheConstants.{FIRST}
use Rattle.gm_squares.specs.laws.HoundFacts.{four_is}
use Rattle.gm_squares.proofs.hounds.four_at.Goals as goal

pub overflow_mul-result : goal.overflow_mul-result
overflow_mul-result c =
    let next = c.first_at.ensures in
    let test = c.loop-place-test.false in
    let high : c.args.rank < get_or FIRST (c.loop-place.place + 1) 0 = omega (arith, next, test) in
    let f = four_is c.loop-place.place c.args.rank c.loop-place.invariant.below c.loop-place.invariant.low high in
    let mask = f.mask in
    let fits = f.fits in
    let pair = c.pair_at.ensures in
    omega (arith, mask, fits, pair)

pub pair_at-requires-2 : goal.pair_at-requires-2
pair_at-requires-2 c =
    let next = c.first_at.ensures in
    let test = c.loop-place-test.false in
    let high : c.args.rank < get_or FIRST (c.loop-place.place + 1) 0 = omega (arith, next, test) in
    let f = four_is c.loop-place.place c.args.rank c.loop-place.invariant.below c.loop-place.invariant.low high in
    let rest = f.rest in
    let first = c.first_at-2.ensures in
    omega (arith, rest, first)

pub overflow_add-result : goal.overflow_add-result
overflow_add-result c =
    let next = c.first_at.ensures in
    let test = c.loop-place-test.false in
    let high : c.args.rank < get_or FIRST (c.loop-place.place + 1) 0 = omega (arith, next, test) in
    let f = four_is c.loop-place.place c.args.rank c.loop-place.invariant.below c.loop-place.invariant.low high in
    let mask = f.mask in
    let fits = f.fits in
    let pair = c.pair_at.ensures in
    let low = c.pair_at-2.ensures in
    let same = ap (λ (v : ℕ). mask_unrank 32 2 (c.args.rank - v)) c.first_at-2.ensures in
    omega (arith, mask, fits, pair, low, same)

pub returns : goal.returns
returns c =
    let next = c.first_at.ensures in
    let test = c.loop-place-test.false in
    let high : c.args.rank < get_or FIRST (c.loop-place.place + 1) 0 = omega (arith, next, test) in
    let f = four_is c.loop-place.place c.args.rank c.loop-place.invariant.below c.loop-place.invariant.low high in
    let mask = f.mask in
    let pair = c.pair_at.ensures in
    let low = c.pair_at-2.ensures in
    let same = ap (λ (v : ℕ). mask_unrank 32 2 (c.args.rank - v)) c.first_at-2.ensures in
    omega (arith, mask, pair, low, same)
