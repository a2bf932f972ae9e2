-- Good shards that have the indexes of a tier.
use Rattle.std.specs.Prelude.{◌≡◌, ℕ}
use Rattle.gm_game.specs.declared.position.Place.{Place}
use Rattle.gm_game.specs.Rules.{Rules}
use Rattle.gm_counters.specs.State.{ShardState, IsInRange}
use Rattle.gm_counters.specs.Good.{IsGood}
use Rattle.gm_counters.specs.Steps.{place_of}

-- a good shard at this place has the index
pub record IsCovered (r : Rules) (place : Place) (i : ℕ) : Type 0 where
  pub shard : ShardState
  pub good : IsGood r shard
  pub mine : IsInRange shard i
  pub here : place_of shard ≡ place
