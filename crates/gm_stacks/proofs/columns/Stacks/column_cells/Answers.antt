use Rattle.std.proofs.Common.{arith}
use Rattle.gm_stacks.proofs.FilledSteps.{no_column, column_more, column_done}
use Rattle.gm_stacks.proofs.columns.Stacks.column_cells.Goals as goal

pub loop-row-init : goal.loop-row-init
loop-row-init c = no_column _ _ _ _ c.requires.height

pub loop-row-preserved : goal.loop-row-preserved
loop-row-preserved c = column_more _ _ _ _ _ _ c.loop-row.invariant c.args.self.few (omega arith) c.requires.column

pub returns-clause-cells : goal.returns-clause-cells
returns-clause-cells c = λ k l. column_done _ _ _ _ _ _ c.loop-row.invariant (omega arith) k l
