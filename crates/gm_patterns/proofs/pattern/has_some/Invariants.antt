use Rattle.std.specs.Prelude.{◌≡◌, take}
use Rattle.gm_board.specs.Images.{board_of}
use Rattle.gm_patterns.specs.Patterns.{has_some}
use Rattle.gm_patterns.proofs.pattern.has_some.Given as goal

abbrev pub invariant-loop-pattern : goal.invariant-loop-pattern
invariant-loop-pattern g l = l.found ≡ has_some (take l.pattern-index l.patterns) (board_of g.row.CELLS l.board.mine l.board.theirs)
