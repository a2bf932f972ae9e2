use Rattle.gm_pieces.specs.Common.{arith}
use Rattle.gm_squares.specs.laws.ChaseFacts.{legal_in}
use Rattle.gm_squares.specs.laws.ChaseMarks.{fox_mask, free_mask}
use Rattle.gm_squares.specs.laws.ChaseBack.{fox_came, hound_came, none_came, row_small}
use Rattle.gm_squares.proofs.ways.comers.Goals as goal

pub past_row-requires : goal.past_row-requires
past_row-requires c = row_small c.args.board c.requires.legal

pub returns-then-board : goal.returns-then-board
returns-then-board c s l =
    fox_came c.args.board c.requires.legal c.args.way s c.requires.way l c.if-board.true _ c.past_row.result c.sources.result c.toggled-fox.result
    (free_mask c.args.board c.toggled-fox.result (legal_in c.args.board c.requires.legal).within (omega arith) c.toggled-fox.ensures s l)
    (c.past_row.ensures s l) (c.sources.ensures s l) (fox_mask c.args.board.fox c.toggled-fox.result _ c.toggled-fox.ensures)

pub returns-then-way-lt2 : goal.returns-then-way-lt2
returns-then-way-lt2 c s l = none_came c.args.board c.requires.legal c.args.way s c.requires.way l c.if-board.false c.if-way-lt2.true

pub returns-else-way-lt2 : goal.returns-else-way-lt2
returns-else-way-lt2 c s l =
    hound_came c.args.board c.requires.legal c.args.way s c.requires.way l c.if-board.false _ c.below_row.result c.sources-else-way-lt2.result c.if-way-lt2.false
    (free_mask c.args.board c.toggled-fox.result (legal_in c.args.board c.requires.legal).within (omega arith) c.toggled-fox.ensures s l)
    (c.below_row.ensures s l) (c.sources-else-way-lt2.ensures s l)
