use Rattle.gm_game.proofs.Lower.{◌∙◌, ap, length, List, Position}
use Rattle.gm_game.proofs.ChildrenLemmas.{canonical_children_once}
use Rattle.gm_game.proofs.game.Game.count_children.Goals as goal

pub returns : goal.returns
returns g c = c.len.ensures.value ∙ ap (λ (l : List Position). length l) (canonical_children_once g.Self.Game.rules c.args.p c.fill_children.new.set.items
    c.fill_children.ensures)
