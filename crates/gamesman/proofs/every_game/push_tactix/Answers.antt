use Rattle.gamesman.proofs.Lower.{[], ◌∷◌, true, false, on_ok_weaker}
use Rattle.gamesman.specs.Games.{tactix_spec}
use Rattle.gamesman.proofs.Lined.{line_first, line_more}
use Rattle.gamesman.proofs.every_game.push_tactix.Goals as goal

pub returns : goal.returns
returns c =
    let start = c.args.page.now.items in
    let e1 = line_first (tactix_spec 4 false) start c.push_game.new.page.items c.in_ok-push_game.ensures in
    let e2 = line_more (tactix_spec 4 false ∷ []) (tactix_spec 4 true) start c.push_game.new.page.items c.push_game-2.new.page.items e1 c.in_ok-push_game-2.ensures in
    let e3 = line_more (tactix_spec 4 false ∷ tactix_spec 4 true ∷ []) (tactix_spec 3 false) start c.push_game-2.new.page.items c.push_game-3.new.page.items e2 c.in_ok-push_game-3.ensures in
    let e4 = line_more (tactix_spec 4 false ∷ tactix_spec 4 true ∷ tactix_spec 3 false ∷ []) (tactix_spec 3 true) start c.push_game-3.new.page.items c.push_game-4.new.page.items e3 c.in_ok-push_game-4.ensures in
    let e5 = line_more (tactix_spec 4 false ∷ tactix_spec 4 true ∷ tactix_spec 3 false ∷ tactix_spec 3 true ∷ []) (tactix_spec 2 false) start c.push_game-4.new.page.items c.push_game-5.new.page.items e4 c.in_ok-push_game-5.ensures in
    let e6 = line_more (tactix_spec 4 false ∷ tactix_spec 4 true ∷ tactix_spec 3 false ∷ tactix_spec 3 true ∷ tactix_spec 2 false ∷ []) (tactix_spec 2 true) start c.push_game-5.new.page.items c.push_game-6.new.page.items e5 c.in_ok-push_game-6.ensures in
    let e7 = line_more (tactix_spec 4 false ∷ tactix_spec 4 true ∷ tactix_spec 3 false ∷ tactix_spec 3 true ∷ tactix_spec 2 false ∷ tactix_spec 2 true ∷ []) (tactix_spec 1 false) start c.push_game-6.new.page.items c.push_game-7.new.page.items e6 c.in_ok-push_game-7.ensures in
    on_ok_weaker c.push_game-8.result (λ e. line_more (tactix_spec 4 false ∷ tactix_spec 4 true ∷ tactix_spec 3 false ∷ tactix_spec 3 true ∷ tactix_spec 2 false ∷ tactix_spec 2 true ∷ tactix_spec 1 false ∷ []) (tactix_spec 1 true) start c.push_game-7.new.page.items c.push_game-8.new.page.items e7 e)
    c.push_game-8.ensures
