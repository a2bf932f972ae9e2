use Rattle.gm_board.proofs.Lower.{◌∙◌}
use Rattle.gm_board.specs.laws.BoardMasks.{some_filled}
use Rattle.gm_board.proofs.pattern.has_some.Goals as goal

pub returns : goal.returns
returns c patterns e = c.fills_some.ensures ∙ some_filled c.args.cells c.args.masks.now patterns e
