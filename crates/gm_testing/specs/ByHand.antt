-- Shards of a whole tier.
use Rattle.std.specs.Prelude.{◌≡◌, length}
use Rattle.gm_game.specs.Rules.{Rules}
use Rattle.gm_frontier.specs.Counts.{ExpectedData}
use Rattle.gm_counters.specs.State.{ShardState}

-- the shard has every index of its tier
pub record IsOfTier (r : Rules) (s : ShardState) : Type 0 where
  pub lo : s.lo ≡ 0
  pub whole : length s.delivered ≡ r.tier_size s.tier

-- the shard has the whole tier, and the count is for it: it adds the shard's level next
pub record IsCounted (r : Rules) (s : ShardState) (e : ExpectedData) : Type 0 where
  pub lo : s.lo ≡ 0
  pub whole : length s.delivered ≡ r.tier_size s.tier
  pub tier : e.tier ≡ s.tier
  pub from : e.lo ≡ 0
  pub to : e.hi ≡ r.tier_size s.tier
  pub phase : e.phase ≡ s.phase
  pub level : e.level ≡ s.level

-- the tier and the phase are the same
pub record IsLater (s t : ShardState) : Type 0 where
  pub tier : t.tier ≡ s.tier
  pub phase : t.phase ≡ s.phase
