use Rattle.gm_squares.specs.laws.HoundNumbers.{below, board_is}
use Rattle.gm_squares.proofs.foxhounds.FoxRulesMoveRules.board.Goals as goal

pub returns : goal.returns
returns c =
    board_is c.args.index c.four_at-hounds.result c.fox_at.result (below c.args._tier c.args.index c.requires) c.four_at-hounds.ensures c.fox_at.ensures.within
    c.fox_at.ensures.free c.fox_at.ensures.number
