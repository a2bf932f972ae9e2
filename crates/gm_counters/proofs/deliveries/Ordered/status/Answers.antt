use Rattle.gm_counters.proofs.Lower.{logged, ShardState, state_by, ◌≤◌, length, subst, sym}
use Rattle.gm_counters.proofs.CounterLemmas.{in_statuses, status_read}
use Rattle.gm_counters.proofs.deliveries.Ordered.status.Goals as goal

pub overflow_sub-index : goal.overflow_sub-index
overflow_sub-index g c = subst (λ (s : ShardState). s.lo ≤ c.args.index) (sym c.self.view_is) c.requires.0

pub get-requires : goal.get-requires
get-requires g c =
    let r = g.G.Game.rules in
    let f = c.self.inside in
    in_statuses r (state_by f.tier f.lo f.phase f.level (length f.rows.left.items) (logged f.rows.pairs))
    c.args.self.now f.rows.statuses f.rows.left.items f.delivered c.args.index c.self.invariant c.self.view_is c.requires

pub returns : goal.returns
returns g c =
    let r = g.G.Game.rules in
    let f = c.self.inside in
    status_read r (state_by f.tier f.lo f.phase f.level (length f.rows.left.items) (logged f.rows.pairs))
    c.args.self.now f.rows.statuses f.rows.left.items f.delivered c.args.index c.get.result c.self.invariant c.self.view_is c.requires c.get.ensures
