use Rattle.gamesman.proofs.Lower.{[], ◌∷◌, on_ok_weaker}
use Rattle.gamesman.specs.Games.{connect_spec, nine_holes_spec, notakto_spec, picaria_spec, tictactoe_misere_spec}
use Rattle.gamesman.proofs.Lined.{line_first, line_more}
use Rattle.gamesman.proofs.every_game.push_rows.Goals as goal

pub returns : goal.returns
returns c =
    let start = c.args.page.now.items in
    let e1 = line_first (connect_spec 4 4) start c.push_game.new.page.items c.in_ok-push_game.ensures in
    let e2 = line_more (connect_spec 4 4 ∷ []) (nine_holes_spec) start c.push_game.new.page.items c.push_game-2.new.page.items e1 c.in_ok-push_game-2.ensures in
    let e3 = line_more (connect_spec 4 4 ∷ nine_holes_spec ∷ []) (picaria_spec) start c.push_game-2.new.page.items c.push_game-3.new.page.items e2 c.in_ok-push_game-3.ensures in
    let e4 = line_more (connect_spec 4 4 ∷ nine_holes_spec ∷ picaria_spec ∷ []) (tictactoe_misere_spec) start c.push_game-3.new.page.items c.push_game-4.new.page.items e3 c.in_ok-push_game-4.ensures in
    on_ok_weaker c.push_game-5.result (λ e. line_more (connect_spec 4 4 ∷ nine_holes_spec ∷ picaria_spec ∷ tictactoe_misere_spec ∷ []) (notakto_spec) start c.push_game-4.new.page.items c.push_game-5.new.page.items e4 e)
    c.push_game-5.ensures
