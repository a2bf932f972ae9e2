use Rattle.gm_counters.proofs.Lower.{logged, length, ◌≤◌, subst, MOVES, TIER_SIZE, ShardState, pairs_in, state_by}
use Rattle.std.proofs.Common.{◌*◌}
use Rattle.gm_counters.proofs.CloseLemmas.{few_there}
use Rattle.gm_counters.proofs.deliveries.Ordered.delivered.Goals as goal

pub returns-clause-small : goal.returns-clause-small
returns-clause-small g c =
    let r = g.G.Game.rules in
    let f = c.self.inside in
    subst (λ (s : ShardState). pairs_in s ≤ MOVES * TIER_SIZE) c.self.view_is
    (few_there r (state_by f.tier f.lo f.phase f.level (length f.rows.left.items) (logged f.rows.pairs)) f.rows.statuses f.rows.left.items f.delivered c.self.invariant)
