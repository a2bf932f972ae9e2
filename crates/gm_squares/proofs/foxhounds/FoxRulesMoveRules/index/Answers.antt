use Rattle.std.specs.Prelude.{◌≡◌, ◌+◌, ◌*◌, ◌≤◌, if◌then◌else◌}
use Rattle.gm_pieces.specs.Common.{Bool, true, false, refl, arith, mask_rank}
use mir.Val.{bool_byte}
use Rattle.gm_squares.specs.FoxHounds.{index}
use Rattle.gm_squares.specs.laws.HoundNumbers.{index_is, rank_small}
use Rattle.gm_squares.proofs.foxhounds.FoxRulesMoveRules.index.Goals as goal

turn_is : (t : Bool) → bool_byte t ≡ (if t then 1 else 0)
turn_is true = refl
turn_is false = refl

turn_small : (t : Bool) → bool_byte t ≤ 1
turn_small true = omega arith
turn_small false = omega arith

pub overflow_mul-number : goal.overflow_mul-number
overflow_mul-number c = let r = c.squares_rank.ensures in let s = rank_small c.args.board c.requires in omega (arith, r, s)

pub overflow_add-number : goal.overflow_add-number
overflow_add-number c =
    let r = c.squares_rank.ensures in
    let s = rank_small c.args.board c.requires in
    let n = c.from.ensures in
    let small = c.free_below.ensures.small in
    omega (arith, r, s, n, small)

pub overflow_mul-result : goal.overflow_mul-result
overflow_mul-result c =
    let r = c.squares_rank.ensures in
    let s = rank_small c.args.board c.requires in
    let n = c.from.ensures in
    let small = c.free_below.ensures.small in
    omega (arith, r, s, n, small)

pub overflow_add-result : goal.overflow_add-result
overflow_add-result c =
    let r = c.squares_rank.ensures in
    let s = rank_small c.args.board c.requires in
    let n = c.from.ensures in
    let small = c.free_below.ensures.small in
    let turn = c.from-2.ensures in
    let few = turn_small c.args.board.hounds_move in
    omega (arith, r, s, n, small, turn, few)

pub returns : goal.returns
returns c =
    let r = c.squares_rank.ensures in
    let n = c.from.ensures in
    let turn = c.from-2.ensures in
    let fox = c.free_below.ensures.number in
    let is : 2 * (28 * mask_rank c.args.board.hounds + c.free_below.result) + (if c.args.board.hounds_move then 1 else 0) ≡ index c.args.board =
    index_is c.args.board c.requires c.free_below.result fox in
    let same = turn_is c.args.board.hounds_move in
    omega (arith, r, n, turn, is, same)
