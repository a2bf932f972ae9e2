use Rattle.gm_stacks.proofs.FilledSteps.{IsColumn}
use Rattle.gm_stacks.proofs.columns.Stacks.column_cells.Given as goal

abbrev pub invariant-loop-row : goal.invariant-loop-row
invariant-loop-row l = IsColumn l.self.columns l.self.rows l.column l.height l.row l.mask
