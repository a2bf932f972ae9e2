use Rattle.gm_game.proofs.game.Game.fill_results.Goals as goal

pub returns : goal.returns
returns g c = c.fill_children.ensures.exact
