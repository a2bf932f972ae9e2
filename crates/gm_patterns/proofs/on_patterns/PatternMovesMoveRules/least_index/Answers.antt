use Rattle.std.specs.Prelude.{◌+◌}
use Rattle.gm_pieces.specs.Common.{ℕ, ap₂, sym, ◌∙◌}
use Rattle.gm_board.specs.Images.{board_of}
use Rattle.gm_patterns.specs.laws.IndexFacts.{least_is}
use Rattle.gm_patterns.proofs.on_patterns.PatternMovesMoveRules.least_index.Goals as goal

pub returns : goal.returns
returns g c =
    let b = board_of g.row.CELLS c.args.board.mine c.args.board.theirs in
    ap₂ (λ (x y : ℕ). x + y) c.boards_before.ensures.number c.least_index.ensures
    ∙ sym (least_is g.row.CELLS g.T.PatternRules.game g.met.T.PatternRules.right.tables b c.requires)
