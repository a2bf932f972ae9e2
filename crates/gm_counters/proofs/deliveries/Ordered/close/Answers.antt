use Rattle.gm_counters.proofs.Lower.{logged, ◌≤◌, length, ap, subst, sym, REMOTENESS, ShardState, state_by, IsWhole, at_next_level}
use Rattle.gm_counters.proofs.CloseLemmas.{kept_next}
use Rattle.gm_counters.proofs.deliveries.Ordered.close.Goals as goal

pub invariant_of-self : goal.invariant_of-self
invariant_of-self g c =
    let r = g.G.Game.rules in
    let f = c.self.inside in
    kept_next r (state_by f.tier f.lo f.phase f.level (length f.rows.left.items) (logged f.rows.pairs)) f.rows.statuses f.rows.left.items f.delivered c.self.invariant
    (subst (IsWhole r) (sym c.self.view_is) c.requires.whole)
    (subst (λ (s : ShardState). s.level ≤ REMOTENESS) (sym c.self.view_is) c.requires.fits)

pub returns : goal.returns
returns g c = ap at_next_level c.self.view_is
