use Rattle.std.proofs.Common.{◌+◌, ◌*◌, arith}
use Rattle.gm_board.specs.Masks.{has_cell}
use Rattle.gm_stacks.specs.laws.Columns.{how_many_le}
use Rattle.gm_stacks.proofs.ColumnSteps.{one_row, bit_small}
use Rattle.gm_stacks.proofs.columns.Stacks.height.Goals as goal

pub overflow_add-height-in-loop-row : goal.overflow_add-height-in-loop-row
overflow_add-height-in-loop-row c =
    let a = how_many_le (λ r. has_cell c.args.taken (r * c.args.self.columns + c.args.column)) c.loop-row.row in
    let b = bit_small c.args.taken (c.loop-row.row * c.args.self.columns + c.args.column) in
    omega (arith, a, b)

pub loop-row-preserved : goal.loop-row-preserved
loop-row-preserved c =
    let a = one_row (λ r. r * c.args.self.columns + c.args.column) c.args.taken c.loop-row.row (c.loop-row.row + 1) (omega arith) in
    omega (arith, a)

pub returns-clause-low : goal.returns-clause-low
returns-clause-low c =
    let a = how_many_le (λ r. has_cell c.args.taken (r * c.args.self.columns + c.args.column)) c.loop-row.row in omega (arith, a)
