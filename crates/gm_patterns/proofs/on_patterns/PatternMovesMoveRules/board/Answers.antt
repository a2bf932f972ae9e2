use Rattle.std.specs.Prelude.{◌<◌}
use Rattle.gm_pieces.specs.Common.{arith}
use Rattle.gm_patterns.specs.PatternGames.{boards_with}
use Rattle.gm_patterns.specs.laws.IndexFacts.{index_fits}
use Rattle.gm_patterns.specs.laws.MaskFacts.{cells_few}
use Rattle.gm_patterns.proofs.on_patterns.PatternMovesMoveRules.board.Goals as goal

pub numbered-requires : goal.numbered-requires
numbered-requires g c =
    let n = g.row.CELLS in
    let game = g.T.PatternRules.game in
    let below : c.args.index < boards_with n game c.numbers_in-more.result.0 c.numbers_in-more.result.1 =
    omega (arith, c.boards_with-first.ensures.number, c.if-index-first.true) in
    (omega arith, (cells_few n game g.met.T.PatternRules.right.tables, (index_fits n game _ _ c.args.index below).1))
