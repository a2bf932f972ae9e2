use Rattle.gm_pieces.specs.Common.{arith, or_lt}
use Rattle.gm_squares.specs.laws.MenMasks.{king_came}
use Rattle.gm_squares.proofs.goals.king_sources.Goals as goal

pub returns : goal.returns
returns c k l =
    king_came c.args.queen c.args.d c.requires.legal k l c.requires.turn _ c.square_mask.result c.square_mask-2.result c.king_reach.result _
    (or_lt 64 _ c.king_reach.result (or_lt 64 c.square_mask.result c.square_mask-2.result (omega arith) (omega arith)) (omega arith)) (omega arith)
    (c.king_reach-2.ensures k l) (c.square_mask.ensures k l) (c.square_mask-2.ensures k l) (c.king_reach.ensures k l) (c.open_squares-guarded.ensures k l)
