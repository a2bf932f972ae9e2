use Rattle.gamesman.proofs.Lower.{[], ◌∷◌, true, false, on_ok_weaker}
use Rattle.gamesman.specs.Games.{chomp_spec, cram_four_spec, domineering_four_spec, kayles_spec, nim_spec}
use Rattle.gamesman.proofs.Lined.{line_first, line_more}
use Rattle.gamesman.proofs.every_game.push_takings.Goals as goal

pub returns : goal.returns
returns c =
    let start = c.args.page.now.items in
    let e1 = line_first (domineering_four_spec) start c.push_game.new.page.items c.in_ok-push_game.ensures in
    let e2 = line_more (domineering_four_spec ∷ []) (cram_four_spec) start c.push_game.new.page.items c.push_game-2.new.page.items e1 c.in_ok-push_game-2.ensures in
    let e3 = line_more (domineering_four_spec ∷ cram_four_spec ∷ []) (kayles_spec) start c.push_game-2.new.page.items c.push_game-3.new.page.items e2 c.in_ok-push_game-3.ensures in
    let e4 = line_more (domineering_four_spec ∷ cram_four_spec ∷ kayles_spec ∷ []) (nim_spec false) start c.push_game-3.new.page.items c.push_game-4.new.page.items e3 c.in_ok-push_game-4.ensures in
    let e5 = line_more (domineering_four_spec ∷ cram_four_spec ∷ kayles_spec ∷ nim_spec false ∷ []) (nim_spec true) start c.push_game-4.new.page.items c.push_game-5.new.page.items e4 c.in_ok-push_game-5.ensures in
    on_ok_weaker c.push_game-6.result (λ e. line_more (domineering_four_spec ∷ cram_four_spec ∷ kayles_spec ∷ nim_spec false ∷ nim_spec true ∷ []) (chomp_spec) start c.push_game-5.new.page.items c.push_game-6.new.page.items e5 e)
    c.push_game-6.ensures
