use Rattle.gm_dao.proofs.Lower.{◌+◌, ◌<◌, can_move, AreMovesBelow}
use Rattle.gm_dao.specs.DaoRules.{move_number_bound}
use Rattle.std.specs.Prelude.{◌*◌}
use Rattle.gm_pieces.specs.Common.{ℕ, length, sym, ◌∙◌, arith, board_of, next_cell, cell_below, filter_room, steps}
use Rattle.gm_dao.proofs.LoopSteps.{AreGoals, goals_are, goals_skip, end_at, move_more}
use Rattle.gm_dao.proofs.moves.push_moves.Goals.{After-goals-reached}
use Rattle.gm_dao.proofs.moves.push_moves.Goals as goal

reached : (c : After-goals-reached) → AreGoals (board_of 16 c.args.board.mine c.args.board.theirs) c.args.from c.goals-reached.result
reached c =
    goals_are c.args.board.mine c.args.board.theirs c.free.result c.taken.result c.goals-reached.result c.args.from c.args.board.mine_within c.requires.cell
    c.requires.own c.free.ensures.cells c.taken.ensures.cells
    c.goals-reached.ensures.cells

pub push-requires : goal.push-requires
unfolding steps
push-requires c =
    let b = board_of 16 c.args.board.mine c.args.board.theirs in
    let g = c.goals-reached.result in
    let i = c.loop-rest.invariant in
    let h = reached ((goal.at.push-requires c).After-goals-reached) in
    let z = next_cell g c.loop-rest.next c.loop-rest.rest i.is_rest (omega arith) (omega arith) in
    let l = cell_below g 16 _ c.goals-reached.ensures.within z.has in
    let room : length c.loop-rest.list.items < 128 =
    filter_room (can_move b) move_number_bound _ c.loop-rest.list.items c.requires.few (omega (arith, l, c.requires.cell)) (sym (h _ l) ∙ z.has)
    (goals_skip b c.args.from g c.loop-rest.next _ c.loop-rest.list.items h (omega (arith, l)) z.none i.below) in
    (omega arith, room)

pub loop-rest-preserved : goal.loop-rest-preserved
loop-rest-preserved c =
    let b = board_of 16 c.args.board.mine c.args.board.theirs in
    let g = c.goals-reached.result in
    let i = c.loop-rest.invariant in
    let h = reached ((goal.at.loop-rest-preserved c).After-goals-reached) in
    let z = next_cell g c.loop-rest.next c.loop-rest.rest i.is_rest (omega arith) (omega arith) in
    let l = cell_below g 16 _ c.goals-reached.ensures.within z.has in
    record {
      within = omega (arith, l);
      is_rest = z.is_rest;
      below = move_more b c.args.from _ c.loop-rest.list.items c.push.new.self.items (sym (h _ l) ∙ z.has)
          (goals_skip b c.args.from g c.loop-rest.next _ c.loop-rest.list.items h (omega (arith, l)) z.none i.below) c.push.ensures.items;
    }

pub returns : goal.returns
returns c =
    let i = c.loop-rest.invariant in
    let b = board_of 16 c.args.board.mine c.args.board.theirs in
    let h = reached ((goal.at.returns c).After-goals-reached) in
    end_at (λ (k : ℕ). AreMovesBelow b (16 * c.args.from + k) c.loop-rest.list.items) c.goals-reached.result c.loop-rest.next c.loop-rest.rest i.within
    i.is_rest c.loop-rest-test.false (λ k w none. goals_skip b c.args.from c.goals-reached.result c.loop-rest.next k c.loop-rest.list.items h w none) i.below
