use Rattle.gm_play.proofs.Lower.{◌∙◌, Option, IfSome, ◌≤◌, subst, sym, REMOTENESS, Solved}
use Rattle.gm_play.proofs.Held.{held_own}
use Rattle.gm_play.proofs.Small.{value_small}
use Rattle.gm_play.proofs.known.Known.value.Goals as goal

pub unwrap-requires : goal.unwrap-requires
unwrap-requires g c =
    let known = c.args.self.now in
    c.get.ensures.held.1 (known.legal, held_own g.G.Game.rules known.tables.now known.position.tier known.held)

pub returns-clause-small : goal.returns-clause-small
returns-clause-small g c =
    let known = c.args.self.now in
    let small = value_small g.G.Game.rules known.tables.now known.position c.get.ensures.tables in
    subst (λ (o : Option Solved). IfSome o (λ s. s.remoteness ≤ REMOTENESS)) (sym c.get.ensures.value ∙ c.unwrap.ensures) small
