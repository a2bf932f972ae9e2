use Rattle.gamesman.proofs.Lower.{[], ◌∷◌, ◌≡◌, ◌++◌, true, false, on_ok_weaker, GameSpec, game_line}
use Rattle.gm_mutorere.specs.laws.RingPictured.{ring_is}
use Rattle.gamesman.specs.Games.{chess_spec, dodgem_spec, hare_spec, mutorere_spec, pong_spec, shisima_spec, tapatan_spec}
use Rattle.gamesman.proofs.Lined.{line_first, line_more}
use Rattle.gamesman.proofs.every_game.push_boards.Goals as goal

pub returns : goal.returns
returns c =
    let start = c.args.page.now.items in
    let e1 = line_first mutorere_spec start c.push_game.new.page.items (ring_is (λ (s : GameSpec). c.push_game.new.page.items ≡ start ++ game_line s) c.in_ok-push_game.ensures) in
    let e2 = line_more (mutorere_spec ∷ []) (hare_spec) start c.push_game.new.page.items c.push_game-2.new.page.items e1 c.in_ok-push_game-2.ensures in
    let e3 = line_more (mutorere_spec ∷ hare_spec ∷ []) (shisima_spec) start c.push_game-2.new.page.items c.push_game-3.new.page.items e2 c.in_ok-push_game-3.ensures in
    let e4 = line_more (mutorere_spec ∷ hare_spec ∷ shisima_spec ∷ []) (pong_spec) start c.push_game-3.new.page.items c.push_game-4.new.page.items e3 c.in_ok-push_game-4.ensures in
    let e5 = line_more (mutorere_spec ∷ hare_spec ∷ shisima_spec ∷ pong_spec ∷ []) (tapatan_spec) start c.push_game-4.new.page.items c.push_game-5.new.page.items e4 c.in_ok-push_game-5.ensures in
    let e6 = line_more (mutorere_spec ∷ hare_spec ∷ shisima_spec ∷ pong_spec ∷ tapatan_spec ∷ []) (dodgem_spec) start c.push_game-5.new.page.items c.push_game-6.new.page.items e5 c.in_ok-push_game-6.ensures in
    let e7 = line_more (mutorere_spec ∷ hare_spec ∷ shisima_spec ∷ pong_spec ∷ tapatan_spec ∷ dodgem_spec ∷ []) (chess_spec false) start c.push_game-6.new.page.items c.push_game-7.new.page.items e6 c.in_ok-push_game-7.ensures in
    on_ok_weaker c.push_game-8.result (λ e. line_more (mutorere_spec ∷ hare_spec ∷ shisima_spec ∷ pong_spec ∷ tapatan_spec ∷ dodgem_spec ∷ chess_spec false ∷ []) (chess_spec true) start c.push_game-7.new.page.items c.push_game-8.new.page.items e7 e)
    c.push_game-8.ensures
