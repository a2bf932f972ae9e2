use Rattle.gm_pieces.proofs.Lower.{◌≡◌, subst, next_images, HasSame, board_game, move_rules, move_game_lawful}
use Rattle.std.proofs.Common.{rules}
use Rattle.gm_game.specs.Rules.{at}
use Rattle.gm_game.proofs.ChildrenSteps.{board_results}
use Rattle.gm_pieces.proofs.on_boards.OnBoardsGame.first_results.Goals as goal

pub returns-then-is_none : goal.returns-then-is_none
returns-then-is_none g c =
    let r = g.T.MoveRules.game in
    let first = c.in_ok-index.ensures in
    let p = at c.args.tier c.in_ok-index.index in
    let end : (move_rules r).primitive p ≡ c.end-end.result = search rules in (
      first.0,
      end,
      λ e. board_results (board_game r) (move_game_lawful r g.met.T.MoveRules.lawful) g.met.T.MoveRules.numbered p first.0.3.0 c.fill_results.new.list.items
          (subst (λ (b : g.T.MoveRules.Cells). HasSame (next_images (board_game r) b) c.fill_results.new.list.items) first.1 c.fill_results.ensures),
    )
