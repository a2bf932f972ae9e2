use Rattle.gm_counters.proofs.Lower.{logged, ℕ, length, ◌-◌, ◌<◌, ◌≤◌, subst, sym, ShardState, state_by}
use Rattle.gm_counters.proofs.CounterLemmas.{in_left, counter_read}
use Rattle.gm_counters.proofs.deliveries.Ordered.counter.Goals as goal

pub returns : goal.returns
returns g c =
    let r = g.G.Game.rules in
    let f = c.self.inside in
    counter_read r (state_by f.tier f.lo f.phase f.level (length f.rows.left.items) (logged f.rows.pairs))
    c.args.self.now f.rows.statuses f.rows.left.items f.delivered c.args.index c.index.result.now c.self.invariant c.self.view_is c.requires c.index.ensures

pub overflow_sub-index : goal.overflow_sub-index
overflow_sub-index g c = subst (λ (s : ShardState). s.lo ≤ c.args.index) (sym c.self.view_is) c.requires.0

pub index-requires : goal.index-requires
index-requires g c =
    let r = g.G.Game.rules in
    let f = c.self.inside in
    subst (λ (n : ℕ). c.args.index - f.lo < n) (sym f.rows.left.ok.0)
    (in_left r (state_by f.tier f.lo f.phase f.level (length f.rows.left.items) (logged f.rows.pairs))
    c.args.self.now f.rows.statuses f.rows.left.items f.delivered c.args.index c.self.invariant c.self.view_is c.requires)
