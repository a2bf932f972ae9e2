use Rattle.gm_pieces.proofs.Lower.{◌≡◌, sym, ap, subst, ◌∙◌, board_game}
use Rattle.std.proofs.Common.{true}
use Rattle.gm_game.specs.Boards.{least_image}
use Rattle.gm_pieces.specs.laws.ChildFacts.{listed_move, one_listed}
use Rattle.gm_pieces.proofs.moves.list_results.Goals as goal

pub moved-requires-clause-step : goal.moved-requires-clause-step
moved-requires-clause-step g c =
    listed_move g.T.MoveRules.game (g.T.MoveRules.cells c.args.board) c.args.moves.now c.loop-m.m-index c.requires.moves c.loop-m-test.true

pub least_position-requires : goal.least_position-requires
least_position-requires g c =
    let r = g.T.MoveRules.game in
    let b = g.T.MoveRules.cells c.args.board in
    subst (λ (x : g.T.MoveRules.Cells). r.legal x ≡ true) (sym c.moved.ensures)
    (g.met.T.MoveRules.lawful.moved_legal b _ c.requires.legal (listed_move r b c.args.moves.now c.loop-m.m-index c.requires.moves c.loop-m-test.true))

pub loop-m-preserved : goal.loop-m-preserved
loop-m-preserved g c =
    let r = g.T.MoveRules.game in
    let b = g.T.MoveRules.cells c.args.board in
    one_listed r b c.args.moves.now c.loop-m.m-index c.least_position.result c.loop-m.list.items c.push.new.self.items c.loop-m-test.true
    (c.least_position.ensures ∙ ap (least_image (board_game r)) c.moved.ensures) c.push.ensures.items c.loop-m.invariant
