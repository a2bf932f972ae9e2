use Rattle.gm_counters.proofs.Lower.{◌∙◌, ◌+◌, ◌≤◌, length, ap, subst, TIER_SIZE, ShardState, IsGood}
use Rattle.gm_counters.proofs.GoodLemmas.{good_from}
use Rattle.gm_counters.proofs.deliveries.Ordered.range.Goals as goal

pub returns-clause-good : goal.returns-clause-good
returns-clause-good g c = subst (λ (s : ShardState). IsGood g.G.Game.rules s) c.self.view_is (good_from g.met.G.Game.lawful c.self.invariant.shard)

pub returns-clause-count : goal.returns-clause-count
returns-clause-count g c =
    let f = c.self.inside in
    c.len.ensures ∙ f.rows.left.ok.0 ∙ c.self.invariant.as_many ∙ ap (λ (s : ShardState). length s.delivered) c.self.view_is

pub returns-clause-lo : goal.returns-clause-lo
returns-clause-lo g c = ap (λ (s : ShardState). s.lo) c.self.view_is

pub returns-clause-small : goal.returns-clause-small
returns-clause-small g c = subst (λ (s : ShardState). s.lo + length s.delivered ≤ TIER_SIZE) c.self.view_is c.self.invariant.few
