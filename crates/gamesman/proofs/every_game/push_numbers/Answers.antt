use Rattle.gamesman.proofs.Lower.{[], ◌∷◌, on_ok_weaker}
use Rattle.gamesman.specs.Games.{countdown_spec, takeaway_spec, wheel_spec}
use Rattle.gamesman.proofs.Lined.{line_first, line_more}
use Rattle.gamesman.proofs.every_game.push_numbers.Goals as goal

pub returns : goal.returns
returns c =
    let start = c.args.page.now.items in
    let e1 = line_first countdown_spec start c.push_game.new.page.items c.in_ok-push_game.ensures in
    let e2 = line_more (countdown_spec ∷ []) (takeaway_spec) start c.push_game.new.page.items c.push_game-2.new.page.items e1 c.in_ok-push_game-2.ensures in
    on_ok_weaker c.push_game-3.result (λ e. line_more (countdown_spec ∷ takeaway_spec ∷ []) (wheel_spec) start c.push_game-2.new.page.items c.push_game-3.new.page.items e2 e)
    c.push_game-3.ensures
