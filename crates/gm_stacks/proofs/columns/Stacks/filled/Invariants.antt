use Rattle.gm_stacks.specs.Heights.{unrank_heights}
use Rattle.gm_stacks.proofs.FilledSteps.{IsFilling}
use Rattle.gm_stacks.proofs.columns.Stacks.filled.Given as goal

abbrev pub invariant-loop-column : goal.invariant-loop-column
invariant-loop-column l = IsFilling l.self.columns l.self.rows l.self.middle l.outer l.middle l.rank l.column l.inner.rows l.others.rows
    (unrank_heights l.inner.rows l.inner.columns l.inner.pieces l.inner.rank) (unrank_heights l.others.rows l.others.columns l.others.pieces l.others.rank) l.taken
