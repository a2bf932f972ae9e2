use Rattle.gm_counters.proofs.Lower.{sym, subst, ShardState, AreSettledAt}
use Rattle.gm_counters.proofs.FreshLemmas.{present_of}
use Rattle.gm_counters.proofs.ordered.OrderedShard.present.Goals as goal

pub returns : goal.returns
returns g c =
    let r = g.G.Game.rules in
    let s = c.self.inside.children in
    subst (λ (t : ShardState). AreSettledAt r t t.phase t.level c.present.result.now) c.self.view_is
    (subst (AreSettledAt r s s.phase s.level) (sym c.present.ensures) (present_of r s s.phase s.level c.self.inside.queue c.self.invariant.0))
