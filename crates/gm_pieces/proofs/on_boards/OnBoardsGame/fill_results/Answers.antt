use Rattle.gm_game.proofs.ChildrenSteps.{board_results}
use Rattle.gm_pieces.proofs.Lower.{board_game, move_game_lawful}
use Rattle.gm_pieces.proofs.on_boards.OnBoardsGame.fill_results.Goals as goal

pub returns : goal.returns
returns g c =
    let r = g.T.MoveRules.game in
    board_results (board_game r) (move_game_lawful r g.met.T.MoveRules.lawful) g.met.T.MoveRules.numbered c.args.p c.requires _
    (rw c.board.ensures.board at c.fill_results.ensures)
