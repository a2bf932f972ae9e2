use Rattle.gamesman.proofs.Lower.{[], ◌∷◌, on_ok_weaker}
use Rattle.gamesman.specs.Games.{hex_three_spec, hexapawn_spec, kpk_spec, toads_spec}
use Rattle.gamesman.proofs.Lined.{line_first, line_more}
use Rattle.gamesman.proofs.every_game.push_chases.Goals as goal

pub returns : goal.returns
returns c =
    let start = c.args.page.now.items in
    let e1 = line_first (kpk_spec) start c.push_game.new.page.items c.in_ok-push_game.ensures in
    let e2 = line_more (kpk_spec ∷ []) (hexapawn_spec) start c.push_game.new.page.items c.push_game-2.new.page.items e1 c.in_ok-push_game-2.ensures in
    let e3 = line_more (kpk_spec ∷ hexapawn_spec ∷ []) (toads_spec) start c.push_game-2.new.page.items c.push_game-3.new.page.items e2 c.in_ok-push_game-3.ensures in
    on_ok_weaker c.push_game-4.result (λ e. line_more (kpk_spec ∷ hexapawn_spec ∷ toads_spec ∷ []) (hex_three_spec) start c.push_game-3.new.page.items c.push_game-4.new.page.items e3 e)
    c.push_game-4.ensures
