use Rattle.gm_pieces.specs.Common.{arith, or_lt}
use Rattle.gm_squares.specs.laws.MenMasks.{piece_came}
use Rattle.gm_squares.proofs.goals.piece_sources.Goals as goal

pub returns : goal.returns
returns c k l =
    piece_came c.args.queen c.args.d c.requires.legal k l c.requires.turn _ c.square_mask.result c.square_mask-2.result _
    (or_lt 64 c.square_mask.result c.square_mask-2.result (omega arith) (omega arith)) (omega arith)
    (c.piece_reach.ensures k l) (c.square_mask.ensures k l) (c.square_mask-2.ensures k l) (c.piece_reach-checking.ensures k l)
