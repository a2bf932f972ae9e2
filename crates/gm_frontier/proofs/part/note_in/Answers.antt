use Rattle.gm_frontier.proofs.Lower.{refl, ◌∙◌, arith, rules}
use Rattle.gm_frontier.proofs.PieceLemmas.{found_in_whole, parts_left, same_length, same_within, passed_left, passed_same}
use Rattle.gm_frontier.proofs.part.note_in.Goals as goal

pub loop-left-init : goal.loop-left-init
loop-left-init g c = record { in_range = c.requires; same = λ d. refl }

pub bounds-parts-passed : goal.bounds-parts-passed
bounds-parts-passed g c = parts_left c.args.parts.now c.loop-left.passed c.loop-left.left c.loop-left.invariant.in_range

pub bounds-parts-passed-in-loop-left : goal.bounds-parts-passed-in-loop-left
bounds-parts-passed-in-loop-left g c = parts_left c.args.parts.now c.loop-left.passed c.loop-left.left c.loop-left.invariant.in_range

pub bounds-parts-passed-2 : goal.bounds-parts-passed-2
bounds-parts-passed-2 g c = parts_left c.args.parts.now c.loop-left.passed c.loop-left.left c.loop-left.invariant.in_range

pub overflow_sub-left : goal.overflow_sub-left
overflow_sub-left g c =
    let inside = parts_left c.args.parts.now c.loop-left.passed c.loop-left.left c.loop-left.invariant.in_range in
    same_length c.args.parts.now c.loop-left.passed c.len.result c.len-left.result c.loop-left.left c.index-parts-passed.result
    c.index-parts-passed-in-loop-left.result inside
    c.index-parts-passed.is c.index-parts-passed-in-loop-left.is c.len.ensures c.len-left.ensures c.loop-left-test.true

pub note-requires : goal.note-requires
note-requires g c =
    let inside = parts_left c.args.parts.now c.loop-left.passed c.loop-left.left c.loop-left.invariant.in_range in
    same_within c.args.parts.now c.loop-left.passed c.len.result c.loop-left.left c.index-parts-passed.result c.index-parts-passed-2.result inside
    c.index-parts-passed.is c.index-parts-passed-2.is c.len.ensures c.loop-left-test.false

pub loop-left-smaller : goal.loop-left-smaller
loop-left-smaller g c =
    let inside = parts_left c.args.parts.now c.loop-left.passed c.loop-left.left c.loop-left.invariant.in_range in
    omega arith

pub overflow_add-passed : goal.overflow_add-passed
overflow_add-passed g c =
    let inside = parts_left c.args.parts.now c.loop-left.passed c.loop-left.left c.loop-left.invariant.in_range in
    search (rules, inside, c.well_formed)

pub offset_bounds-parts-passed : goal.offset_bounds-parts-passed
offset_bounds-parts-passed g c =
    let inside = parts_left c.args.parts.now c.loop-left.passed c.loop-left.left c.loop-left.invariant.in_range in
    search (rules, inside, c.well_formed)

pub offset_bounds-parts-passed-2 : goal.offset_bounds-parts-passed-2
offset_bounds-parts-passed-2 g c =
    let inside = parts_left c.args.parts.now c.loop-left.passed c.loop-left.left c.loop-left.invariant.in_range in
    search (rules, inside, c.well_formed)

pub offset_bounds-parts-passed-in-loop-left : goal.offset_bounds-parts-passed-in-loop-left
offset_bounds-parts-passed-in-loop-left g c =
    let inside = parts_left c.args.parts.now c.loop-left.passed c.loop-left.left c.loop-left.invariant.in_range in
    search (rules, inside, c.well_formed)

pub loop-left-preserved : goal.loop-left-preserved
loop-left-preserved g c =
    let parts = c.args.parts.now in
    let passed = c.loop-left.passed in
    let left = c.loop-left.left in
    let inside = parts_left parts passed left c.loop-left.invariant.in_range in
    let part = c.index-parts-passed-in-loop-left.result in
    let past = overflow_sub-left g c in
    record {
      in_range = passed_left parts passed left c.len-left.result part inside c.index-parts-passed-in-loop-left.is c.len-left.ensures past
          c.loop-left.invariant.in_range;
      same = λ d. c.loop-left.invariant.same d ∙ passed_same parts passed left c.len-left.result part inside c.index-parts-passed-in-loop-left.is
          c.len-left.ensures past d;
    }

pub returns : goal.returns
returns g c =
    found_in_whole c.args.parts.now c.loop-left.passed c.loop-left.left c.args.k c.index-parts-passed-2.result c.note.result c.requires
    (parts_left c.args.parts.now c.loop-left.passed c.loop-left.left c.loop-left.invariant.in_range)
    c.index-parts-passed-2.is c.loop-left.invariant.same c.note.ensures
