use Rattle.gm_pieces.specs.Common.{sym, ◌∙◌}
use Rattle.gm_dao.proofs.CountSteps.{counted, not_some}
use Rattle.gm_dao.proofs.children.count_children.Goals as goal

pub returns-in-Some : goal.returns-in-Some
returns-in-Some c =
    let b = c.args.board in
    c.count_moves.ensures ∙ counted b.mine b.theirs c.in-Some._leader b.mine_within b.theirs_within b.apart c.requires
    c.in-Some.ensures (sym c.end_by_last_move.ensures ∙ not_some _ (sym c.is_some.ensures ∙ c.if-is_some.false))
