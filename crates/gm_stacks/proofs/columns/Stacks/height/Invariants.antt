use Rattle.std.proofs.Common.{◌≡◌, ◌+◌, ◌*◌}
use Rattle.gm_board.specs.Masks.{has_cell}
use Rattle.gm_stacks.specs.Stacks.{how_many}
use Rattle.gm_stacks.proofs.columns.Stacks.height.Given as goal

abbrev pub invariant-loop-row : goal.invariant-loop-row
invariant-loop-row l = l.height ≡ how_many (λ r. has_cell l.taken (r * l.self.columns + l.column)) l.row
