use Rattle.gm_dao.proofs.Lower.{◌+◌, least_index_of, dao, AreBeforesBelow, legal_in}
use Rattle.gm_dao.specs.inner.MaskSlides.{way_back}
use Rattle.gm_pieces.specs.laws.Listed.{put_room}
use Rattle.std.specs.Prelude.{◌*◌}
use Rattle.gm_pieces.specs.Common.{ℕ, sym, ap, ◌∙◌, arith, board_of, next_cell, cell_below, before_at}
use Rattle.gm_dao.proofs.LoopSteps.{end_at}
use Rattle.gm_dao.proofs.CameSteps.{came_skip, before_less, before_more, back_at, was_step, was_slid}
use Rattle.gm_dao.proofs.parents.put_befores.Goals.{in-Some, in-None}
use Rattle.gm_dao.proofs.parents.put_befores.Goals as goal

pub gone_before-requires-clause-from : goal.gone_before-requires-clause-from
gone_before-requires-clause-from c =
    let z = next_cell c.sources-came.result c.loop-rest.next c.loop-rest.rest c.loop-rest.invariant.is_rest (omega arith) (omega arith) in
    cell_below c.sources-came.result 16 _ c.sources-came.ensures.within z.has

pub gone_before-requires-clause-was : goal.gone_before-requires-clause-was
gone_before-requires-clause-was c =
    let g = c.sources-came.result in
    let z = next_cell g c.loop-rest.next c.loop-rest.rest c.loop-rest.invariant.is_rest (omega arith) (omega arith) in
    let l = cell_below g 16 _ c.sources-came.ensures.within z.has in
    was_step (board_of 16 c.args.board.mine c.args.board.theirs) c.args.to c.free.result c.taken.result _ l c.requires.there c.free.ensures.cells
    (sym (c.sources-came.ensures.cells _ l) ∙ z.has)

pub gone_before-requires-clause-slid : goal.gone_before-requires-clause-slid
gone_before-requires-clause-slid c =
    let g = c.sources-came.result in
    let z = next_cell g c.loop-rest.next c.loop-rest.rest c.loop-rest.invariant.is_rest (omega arith) (omega arith) in
    let l = cell_below g 16 _ c.sources-came.ensures.within z.has in
    was_slid (board_of 16 c.args.board.mine c.args.board.theirs) c.args.to c.free.result c.taken.result _ l c.requires.there c.free.ensures.cells
    c.requires.legal c.requires.cell c.taken.ensures.cells (sym (c.sources-came.ensures.cells _ l) ∙ z.has)

pub least_index-requires-clause-own : goal.least_index-requires-clause-own
least_index-requires-clause-own c = (legal_in _ c.in-Some.ensures.1).own

pub least_index-requires-clause-other : goal.least_index-requires-clause-other
least_index-requires-clause-other c = (legal_in _ c.in-Some.ensures.1).other

pub put-requires : goal.put-requires
put-requires c =
    let d = board_of 16 c.args.board.mine c.args.board.theirs in
    let g = c.sources-came.result in
    let i = c.loop-rest.invariant in
    let z = next_cell g c.loop-rest.next c.loop-rest.rest i.is_rest (omega arith) (omega arith) in
    let l = cell_below g 16 _ c.sources-came.ensures.within z.has in
    let e = c.in-Some.earlier in
    put_room (λ (m : ℕ). before_at dao c.args.tier d (way_back m)) least_index_of 256 _ (board_of 16 e.mine e.theirs)
    c.loop-rest.list.items
    c.requires.few (omega (arith, l, c.requires.cell)) (ap (before_at dao c.args.tier d) (back_at _ c.args.to l) ∙ c.in-Some.ensures.0)
    (came_skip c.args.tier d c.args.to c.free.result c.taken.result c.requires.legal c.requires.cell c.free.ensures.cells c.taken.ensures.cells g
    c.loop-rest.next _ c.loop-rest.list.items c.sources-came.ensures.cells (omega (arith, l)) z.none i.below)

pub loop-rest-preserved : goal.loop-rest-preserved
loop-rest-preserved c =
    let d = board_of 16 c.args.board.mine c.args.board.theirs in
    let g = c.sources-came.result in
    let t = c.args.tier in
    let i = c.loop-rest.invariant in
    let z = next_cell g c.loop-rest.next c.loop-rest.rest i.is_rest (omega arith) (omega arith) in
    let l = cell_below g 16 _ c.sources-came.ensures.within z.has in
    let skipped = came_skip t d c.args.to c.free.result c.taken.result c.requires.legal c.requires.cell c.free.ensures.cells c.taken.ensures.cells g
    c.loop-rest.next _ c.loop-rest.list.items c.sources-came.ensures.cells (omega (arith, l)) z.none i.below in
    record {
      within = omega (arith, l);
      is_rest = z.is_rest;
      below = elim c.match-gone_before.branch [
        | in-Some w ↦ before_more t d (board_of 16 w.in-Some.earlier.mine w.in-Some.earlier.theirs) c.args.to _ w.least_index.result
            c.loop-rest.list.items c.match-gone_before.list.items l
            w.in-Some.ensures.0 w.least_index.ensures (rw w.list-is w.put.ensures) skipped
        | in-None w ↦ rw w.list-is (before_less t d c.args.to _ c.loop-rest.list.items l w.in-None.ensures skipped)
      ];
    }

pub loop-rest-smaller : goal.loop-rest-smaller
loop-rest-smaller c =
    let g = c.sources-came.result in
    let z = next_cell g c.loop-rest.next c.loop-rest.rest c.loop-rest.invariant.is_rest (omega arith) (omega arith) in
    let l = cell_below g 16 _ c.sources-came.ensures.within z.has in
    omega (arith, l)

pub returns : goal.returns
returns c =
    let i = c.loop-rest.invariant in
    let d = board_of 16 c.args.board.mine c.args.board.theirs in
    let g = c.sources-came.result in
    end_at (λ (k : ℕ). AreBeforesBelow c.args.tier d (16 * c.args.to + k) c.loop-rest.list.items) g c.loop-rest.next c.loop-rest.rest i.within i.is_rest
    c.loop-rest-test.false (λ k w none. came_skip c.args.tier d c.args.to c.free.result c.taken.result c.requires.legal c.requires.cell c.free.ensures.cells
    c.taken.ensures.cells g c.loop-rest.next k c.loop-rest.list.items c.sources-came.ensures.cells w none) i.below
