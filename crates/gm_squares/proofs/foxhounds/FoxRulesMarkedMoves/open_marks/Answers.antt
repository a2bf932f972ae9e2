use Rattle.gm_pieces.specs.Common.{sym, subst, arith}
use Rattle.gm_pieces.specs.inner.Marking.{AreMarks}
use Rattle.gm_squares.specs.FoxHounds.{can_move}
use Rattle.gm_squares.specs.laws.ChaseMarks.{way_marks}
use Rattle.gm_squares.proofs.foxhounds.FoxRulesMarkedMoves.open_marks.Goals as goal

pub returns : goal.returns
returns c =
    subst (AreMarks (can_move c.args.board) 128) (sym c.by_ways.ensures)
    (way_marks (can_move c.args.board) c.goers.result c.goers-2.result c.goers-3.result c.goers-4.result (omega arith) (omega arith) (omega arith) (omega arith)
    c.goers.ensures c.goers-2.ensures c.goers-3.ensures c.goers-4.ensures)
