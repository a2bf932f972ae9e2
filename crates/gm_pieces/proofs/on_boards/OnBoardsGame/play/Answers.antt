use Rattle.gm_pieces.specs.laws.ChildFacts.{move_at}
use Rattle.gm_pieces.proofs.on_boards.OnBoardsGame.play.Goals as goal

pub moved-requires-clause-step : goal.moved-requires-clause-step
moved-requires-clause-step g c = move_at g.T.MoveRules.game _ _ c.args.m c.board.ensures.board c.requires.listed
