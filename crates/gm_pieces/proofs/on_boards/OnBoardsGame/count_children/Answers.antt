use Rattle.gm_pieces.proofs.Lower.{◌∙◌, ap, length, List, Position, next_images, board_game, move_rules, move_game_lawful}
use Rattle.gm_game.specs.Children.{set_of}
use Rattle.gm_game.proofs.ChildrenSteps.{board_children}
use Rattle.gm_game.specs.Boards.{board_of}
use Rattle.gm_game.proofs.ChildrenLemmas.{set_itself, canonical_children_once}
use Rattle.gm_pieces.proofs.on_boards.OnBoardsGame.count_children.Goals as goal

pub returns : goal.returns
returns g c =
    let r = g.T.MoveRules.game in
    let ps = next_images (board_game r) (board_of (board_game r) c.args.p) in
    let all = board_children (board_game r) (move_game_lawful r g.met.T.MoveRules.lawful) g.met.T.MoveRules.numbered c.args.p c.requires (set_of ps)
    (set_itself ps) in
    c.count_children.ensures
    ∙ ap (λ (b : g.T.MoveRules.Cells). length (set_of (next_images (board_game r) b))) c.board.ensures.board
    ∙ ap (λ (l : List Position). length l) (canonical_children_once (move_rules r) c.args.p (set_of ps) all)
