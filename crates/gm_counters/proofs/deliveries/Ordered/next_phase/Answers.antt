use Rattle.gm_counters.proofs.Lower.{logged, length, ap, subst, sym, ShardState, state_by, first_ties}
use Rattle.gm_counters.specs.Steps.{CanTurn}
use Rattle.gm_counters.proofs.CloseLemmas.{kept_ties}
use Rattle.gm_counters.proofs.deliveries.Ordered.next_phase.Goals as goal

pub invariant_of-self : goal.invariant_of-self
invariant_of-self g c =
    let r = g.G.Game.rules in
    let f = c.self.inside in
    let s : ShardState = state_by f.tier f.lo f.phase f.level (length f.rows.left.items) (logged f.rows.pairs) in
    kept_ties r g.met.G.Game.lawful s f.rows.statuses f.rows.left.items f.delivered c.self.invariant c.args.last.now c.place-place.ensures.last
    (subst (λ (u : ShardState). CanTurn u c.args.last.now) (sym c.self.view_is) c.requires)

pub returns : goal.returns
returns g c = ap first_ties c.self.view_is
