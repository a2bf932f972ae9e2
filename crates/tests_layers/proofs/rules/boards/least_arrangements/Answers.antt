use Rattle.std.proofs.Common.{refl, arith}
use Rattle.gm_board.specs.laws.Groups.{group_from_table}
use Rattle.tests_layers.proofs.rules.boards.least_arrangements.Goals as goal

pub least_arrangement-diagonals-requires : goal.least_arrangement-diagonals-requires
least_arrangement-diagonals-requires g c = (omega arith, (omega arith, (omega arith, (group_from_table 16 _ refl, (omega arith, (omega arith, refl))))))

pub least_arrangement-least-requires : goal.least_arrangement-least-requires
least_arrangement-least-requires g c = (omega arith, (omega arith, (omega arith, (group_from_table 16 _ refl, (omega arith, (omega arith, refl))))))
