use Rattle.gm_pieces.specs.Common.{ℕ, sym, subst, arith}
use Rattle.gm_pieces.specs.inner.Marking.{AreMarks, leads_here}
use Rattle.gm_squares.specs.FoxHounds.{fox_and_hounds}
use Rattle.gm_squares.specs.laws.ChaseMarks.{way_marks}
use Rattle.gm_squares.specs.laws.ChaseBack.{no_marks_back}
use Rattle.gm_squares.proofs.foxhounds.FoxRulesMarkedMoves.earlier_marks.Goals as goal

pub returns-then-tier-ne0 : goal.returns-then-tier-ne0
returns-then-tier-ne0 c = no_marks_back c.args.tier c.args.board c.none.result c.if-tier-ne0.true c.none.ensures

pub returns : goal.returns
returns c =
    subst (λ (t : ℕ). AreMarks (leads_here fox_and_hounds t c.args.board) 128 c.by_ways.result) (sym c.if-tier-ne0.false)
    (subst (AreMarks (leads_here fox_and_hounds 0 c.args.board) 128) (sym c.by_ways.ensures)
    (way_marks (leads_here fox_and_hounds 0 c.args.board) c.comers.result c.comers-2.result c.comers-3.result c.comers-4.result
    (omega arith) (omega arith) (omega arith) (omega arith) c.comers.ensures c.comers-2.ensures c.comers-3.ensures c.comers-4.ensures))
