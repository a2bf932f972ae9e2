use Rattle.gm_counters.proofs.Lower.{logged, ◌-◌, length, ap, arith, Hole, ShardState, state_by}
use Rattle.gm_counters.proofs.CounterLemmas.{status_read}
use Rattle.gm_counters.proofs.deliveries.Ordered.skip_holes.Goals as goal

pub returns-clause-holes : goal.returns-clause-holes
returns-clause-holes g c i low high =
    let f = c.self.inside in
    let lo = ap (λ (s : ShardState). s.lo) c.self.view_is in
    let many = ap (λ (s : ShardState). length s.delivered) c.self.view_is in
    let as_many = c.self.invariant.shard.many in
    let inside = c.skip_holes.ensures.high in
    let from = c.requires.low in
    status_read g.G.Game.rules (state_by f.tier f.lo f.phase f.level (length f.rows.left.items) (logged f.rows.pairs))
    c.args.self.now f.rows.statuses f.rows.left.items f.delivered i Hole c.self.invariant c.self.view_is (omega arith, omega arith)
    (c.skip_holes.ensures.holes (i - f.lo) (omega arith) (omega arith))
