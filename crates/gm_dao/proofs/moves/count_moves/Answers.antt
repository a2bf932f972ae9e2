use Rattle.gm_dao.proofs.Lower.{◌≡◌, ◌+◌, can_move}
use Rattle.gm_dao.specs.laws.CountFacts.{number_from, sixteen_most}
use Rattle.gm_dao.specs.inner.MaskSlides.{slides_over}
use Rattle.std.specs.Prelude.{◌*◌}
use Rattle.gm_pieces.specs.Common.{ℕ, List, length, refl, ap, ◌∙◌, arith, trailing_zeros, w32, board_of, next_cell, cell_below, filter, range_with_len}
use Rattle.gm_dao.proofs.LoopSteps.{moves_skip, moves_end}
use Rattle.gm_dao.proofs.NearSteps.{moves_over}
use Rattle.gm_board.specs.Masks.{has_cell}
use Rattle.gm_dao.proofs.moves.count_moves.Goals as goal

next_block : (n : ℕ) → 16 * n + 16 ≡ 16 * (n + 1)
next_block n = omega arith

pub count_goals-count-requires : goal.count_goals-count-requires
count_goals-count-requires c =
    let z = next_cell c.args.board.mine c.loop-rest.next c.loop-rest.rest c.loop-rest.invariant.is_rest (omega arith) (omega arith) in
    cell_below c.args.board.mine 16 _ c.args.board.mine_within z.has

pub loop-rest-preserved : goal.loop-rest-preserved
loop-rest-preserved c =
    let a = c.args.board.mine in
    let b = board_of 16 a c.args.board.theirs in
    let i = c.loop-rest.invariant in
    let z = next_cell a c.loop-rest.next c.loop-rest.rest i.is_rest (omega arith) (omega arith) in
    let l = cell_below a 16 _ c.args.board.mine_within z.has in
    let p = slides_over (has_cell c.free-free.result) (c.loop-rest.next + trailing_zeros w32 c.loop-rest.rest) in
    let few = sixteen_most p in
    let more = number_from (can_move b) p _ 16 (moves_over a c.args.board.theirs c.free-free.result _ c.args.board.mine_within z.has c.free-free.ensures.cells) in
    let skip = ap (λ (xs : List ℕ). length xs) (moves_skip a c.args.board.theirs c.loop-rest.next _ (filter (can_move b)
    (range_with_len 0 (16 * c.loop-rest.next))) c.args.board.mine_within z.none refl) in
    let e = ap (λ (n : ℕ). length (filter (can_move b) (range_with_len 0 n))) (next_block (c.loop-rest.next + trailing_zeros w32 c.loop-rest.rest)) in
    record {
      within = omega (arith, l);
      is_rest = z.is_rest;
      counted = omega (arith, i.counted, skip, more, e, c.count_goals-count.ensures);
      few = omega (arith, few, i.few, c.count_goals-count.ensures);
    }

pub overflow_add-count : goal.overflow_add-count
overflow_add-count c =
    let a = c.args.board.mine in
    let i = c.loop-rest.invariant in
    let z = next_cell a c.loop-rest.next c.loop-rest.rest i.is_rest (omega arith) (omega arith) in
    let l = cell_below a 16 _ c.args.board.mine_within z.has in
    let few = sixteen_most (slides_over (has_cell c.free-free.result) (c.loop-rest.next + trailing_zeros w32 c.loop-rest.rest)) in
    omega (arith, few, l, i.few, c.count_goals-count.ensures)

pub returns : goal.returns
returns c =
    let i = c.loop-rest.invariant in
    let a = c.args.board.mine in
    let b = board_of 16 a c.args.board.theirs in
    i.counted ∙ ap (λ (xs : List ℕ). length xs) (moves_end a c.args.board.theirs c.loop-rest.next c.loop-rest.rest (filter (can_move b)
    (range_with_len 0 (16 * c.loop-rest.next))) c.args.board.mine_within i.within i.is_rest c.loop-rest-test.false refl)
