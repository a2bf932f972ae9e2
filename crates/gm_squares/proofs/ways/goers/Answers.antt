use Rattle.gm_pieces.specs.Common.{arith, not-true}
use Rattle.gm_squares.specs.laws.ChaseFacts.{legal_in}
use Rattle.gm_squares.specs.laws.ChaseMarks.{fox_mask, free_mask, fox_goes, hounds_go, none_back, not_false}
use Rattle.gm_squares.proofs.ways.goers.Goals as goal

pub returns-then-not-board : goal.returns-then-not-board
returns-then-not-board c s l =
    fox_goes c.args.board c.args.way s c.requires.way l c.toggled-fox.result c.sources-from.result _ (c.sources-from.ensures s l)
    (free_mask c.args.board c.toggled-fox.result (legal_in c.args.board c.requires.legal).within (omega arith) c.toggled-fox.ensures) (not-true _ c.if-not-board.true)
    (fox_mask c.args.board.fox c.toggled-fox.result s c.toggled-fox.ensures)

pub returns-then-way-lt2 : goal.returns-then-way-lt2
returns-then-way-lt2 c s l = none_back c.args.board c.args.way s c.if-way-lt2.true (not_false _ c.if-not-board.false)

pub returns-else-way-lt2 : goal.returns-else-way-lt2
returns-else-way-lt2 c s l =
    hounds_go c.args.board c.args.way s c.requires.way l c.toggled-fox.result c.sources-from.result _ (c.sources-from.ensures s l)
    (free_mask c.args.board c.toggled-fox.result (legal_in c.args.board c.requires.legal).within (omega arith) c.toggled-fox.ensures) (not_false _ c.if-not-board.false)
    c.if-way-lt2.false
