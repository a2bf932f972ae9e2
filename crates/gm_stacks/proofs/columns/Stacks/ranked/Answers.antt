use Rattle.std.proofs.Common.{refl, sym, ◌∙◌, arith}
use Rattle.std.proofs.lemmas.Bool.{true≢false}
use Rattle.gm_stacks.proofs.ColumnSteps.{ranking, middle_ranked, outer_ranked, middle_few, outer_few}
use Rattle.gm_stacks.proofs.columns.Stacks.ranked.Goals as goal

pub loop-column-init : goal.loop-column-init
loop-column-init c = ranking _ _ _ _ c.args.self.inside _ _ _ _ c.none-middle.ensures.rows c.none-outer.ensures.rows c.none-middle.ensures.list c.none-outer.ensures.list

pub with_first-middle-requires-clause-room : goal.with_first-middle-requires-clause-room
with_first-middle-requires-clause-room c =
    let z = middle_few _ _ _ _ c.args.self.inside _ _ _ _ _ c.loop-column.invariant (omega arith) (omega arith) c.height-height.result c.height-height.ensures.value
    (c.is_middle.ensures.0 c.if-is_middle.true)
    c.loop-column.middle.columns c.loop-column.middle.pieces c.loop-column.middle.rank c.loop-column.middle.below refl in
    let a = z.0 in
    let n = c.args.self.narrow in
    omega (arith, a, n)

pub with_first-middle-requires-clause-few : goal.with_first-middle-requires-clause-few
with_first-middle-requires-clause-few c =
    let z = middle_few _ _ _ _ c.args.self.inside _ _ _ _ _ c.loop-column.invariant (omega arith) (omega arith) c.height-height.result c.height-height.ensures.value
    (c.is_middle.ensures.0 c.if-is_middle.true)
    c.loop-column.middle.columns c.loop-column.middle.pieces c.loop-column.middle.rank c.loop-column.middle.below refl in
    let a = z.1 in
    let n = c.args.self.few in
    omega (arith, a, n)

pub loop-column-preserved-then-is_middle : goal.loop-column-preserved-then-is_middle
loop-column-preserved-then-is_middle c = middle_ranked _ _ _ _ c.args.self.inside _ _ _ _ _ c.loop-column.invariant (omega arith) (omega arith) c.height-height.result c.height-height.ensures.value
    (c.is_middle.ensures.0 c.if-is_middle.true) _ _ c.with_first-middle.ensures.rows c.with_first-middle.ensures.list

pub with_first-outer-requires-clause-room : goal.with_first-outer-requires-clause-room
with_first-outer-requires-clause-room c =
    let z = outer_few _ _ _ _ c.args.self.inside _ _ _ _ _ c.loop-column.invariant (omega arith) (omega arith) c.height-height.result c.height-height.ensures.value
    (λ d. true≢false (sym (c.is_middle.ensures.1 d) ∙ c.if-is_middle.false))
    c.loop-column.outer.columns c.loop-column.outer.pieces c.loop-column.outer.rank c.loop-column.outer.below refl in
    let a = z.0 in
    let n = c.args.self.narrow in
    omega (arith, a, n)

pub with_first-outer-requires-clause-few : goal.with_first-outer-requires-clause-few
with_first-outer-requires-clause-few c =
    let z = outer_few _ _ _ _ c.args.self.inside _ _ _ _ _ c.loop-column.invariant (omega arith) (omega arith) c.height-height.result c.height-height.ensures.value
    (λ d. true≢false (sym (c.is_middle.ensures.1 d) ∙ c.if-is_middle.false))
    c.loop-column.outer.columns c.loop-column.outer.pieces c.loop-column.outer.rank c.loop-column.outer.below refl in
    let a = z.1 in
    let n = c.args.self.few in
    omega (arith, a, n)

pub loop-column-preserved : goal.loop-column-preserved
loop-column-preserved c = outer_ranked _ _ _ _ c.args.self.inside _ _ _ _ _ c.loop-column.invariant (omega arith) (omega arith) c.height-height.result c.height-height.ensures.value
    (λ d. true≢false (sym (c.is_middle.ensures.1 d) ∙ c.if-is_middle.false)) _ _ c.with_first-outer.ensures.rows c.with_first-outer.ensures.list
