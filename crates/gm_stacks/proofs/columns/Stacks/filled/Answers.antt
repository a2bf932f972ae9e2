use Rattle.std.proofs.Common.{refl, sym, ◌∙◌, arith}
use Rattle.std.proofs.lemmas.Bool.{true≢false}
use Rattle.gm_stacks.proofs.FilledSteps.{inner_some, others_some, inner_filled, others_filled}
use Rattle.gm_stacks.proofs.columns.Stacks.filled.Goals.{then-is_middle, else-is_middle}
use Rattle.gm_stacks.proofs.columns.Stacks.filled.Goals as goal

pub split_first-height-requires : goal.split_first-height-requires
split_first-height-requires c = inner_some _ _ _ _ _ _ _ _ _ _ _ _ c.loop-column.invariant c.args.self.inside c.requires.rank (omega arith)
    (c.is_middle.ensures.0 c.if-is_middle.true) c.loop-column.inner.columns c.loop-column.inner.pieces c.loop-column.inner.rank c.loop-column.inner.below refl

pub split_first-height-requires-else-is_middle : goal.split_first-height-requires-else-is_middle
split_first-height-requires-else-is_middle c = others_some _ _ _ _ _ _ _ _ _ _ _ _ c.loop-column.invariant c.args.self.inside c.requires.rank (omega arith)
    (λ d. true≢false (sym (c.is_middle.ensures.1 d) ∙ c.if-is_middle.false)) c.loop-column.others.columns c.loop-column.others.pieces c.loop-column.others.rank c.loop-column.others.below refl

pub loop-column-preserved : goal.loop-column-preserved
loop-column-preserved c = elim c.if-is_middle.branch [
  | then-is_middle i ↦ rw (i.inner-is, i.others-is, i.taken-is) (inner_filled _ _ _ _ _ _ _ _ _ _ _ _ c.loop-column.invariant c.args.self.inside c.requires.rank (omega arith)
      i.split_first-height.result.0 i.column_cells-taken.result _ i.split_first-height.result.1.rows
      i.column_cells-taken.ensures.within i.column_cells-taken.ensures.cells (c.is_middle.ensures.0 i.if-is_middle.true) i.split_first-height.ensures.rows i.split_first-height.ensures.list)
  | else-is_middle i ↦ rw (i.inner-is, i.others-is, i.taken-is) (others_filled _ _ _ _ _ _ _ _ _ _ _ _ c.loop-column.invariant c.args.self.inside c.requires.rank (omega arith)
      i.split_first-height-else-is_middle.result.0 i.column_cells-taken-else-is_middle.result _ i.split_first-height-else-is_middle.result.1.rows
      i.column_cells-taken-else-is_middle.ensures.within i.column_cells-taken-else-is_middle.ensures.cells (λ d. true≢false (sym (c.is_middle.ensures.1 d) ∙ i.if-is_middle.false)) i.split_first-height-else-is_middle.ensures.rows i.split_first-height-else-is_middle.ensures.list)
]
