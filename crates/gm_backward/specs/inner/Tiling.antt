-- Four shards that tile a tier.
use Rattle.std.specs.Prelude.{◌≡◌, ℕ, ◌+◌, ◌++◌, List, Option, suc, length}
use Rattle.gm_game.specs.declared.position.Phase.TheVariants.{Ties, WinLose}
use Rattle.gm_game.specs.declared.position.Solved.{Solved}
use Rattle.gm_game.specs.declared.position.Place.{Place}
use Rattle.gm_game.specs.Rules.{Rules}
use Rattle.gm_frontier.specs.Levels.{place_at}
use Rattle.gm_counters.specs.State.{ShardState}
use Rattle.gm_counters.specs.Steps.{place_of, IsWhole}
use Rattle.gm_table.specs.Solving.{ArePart}
use Rattle.gm_counters.specs.Good.{IsGood}
use Rattle.gm_locks.specs.Spots.{spot_of, Spot}
use Rattle.gm_locks.specs.Rounds.{HasNoneHere}
use Rattle.gm_locks.specs.declared.four.Four.{Four}
use Rattle.gm_backward.specs.inner.Cuts.{cut_at}
use Rattle.gm_backward.specs.declared.cuts.Cuts.{Cuts}

-- tile k of the place's tier
abbrev pub tile_at : Rules → Place → Cuts → ℕ → Spot
tile_at r place cuts k =
    record {
      tier = place.tier;
      lo = cut_at (r.tier_size place.tier) cuts k;
      hi = cut_at (r.tier_size place.tier) cuts (suc k);
      phase = place.phase;
      level = place.level;
    }

-- the four shards are the tiles, and are at the place
pub record AreShardsAt (r : Rules) (place : Place) (cuts : Cuts) (shards : Four ShardState) : Type 0 where
  pub a : spot_of shards.a ≡ tile_at r place cuts 0
  pub b : spot_of shards.b ≡ tile_at r place cuts 1
  pub c : spot_of shards.c ≡ tile_at r place cuts 2
  pub d : spot_of shards.d ≡ tile_at r place cuts 3

-- a shard is that of tile k before the first level
pub record IsTile (r : Rules) (tier : ℕ) (cuts : Cuts) (k : ℕ) (shard : ShardState) : Type 0 where
  pub spot_is : spot_of shard ≡ tile_at r (place_at tier WinLose 0) cuts k
  pub none : HasNoneHere r shard

-- two shards are those of tiles k and k + 1
pub record AreTwo (r : Rules) (tier : ℕ) (cuts : Cuts) (k : ℕ) (low high : ShardState) : Type 0 where
  pub low_is : IsTile r tier cuts k low
  pub high_is : IsTile r tier cuts (k + 1) high

-- the next level of the same phase
abbrev pub next_place : Place → Place
next_place p = record p { level = p.level + 1 }

abbrev pub next_spot : Spot → Spot
next_spot s = record s { level = s.level + 1 }

-- a later place of the same tier and phase
pub record IsLaterPlace (p q : Place) : Type 0 where
  pub tier : q.tier ≡ p.tier
  pub phase : q.phase ≡ p.phase

-- no child at the shards' place is delivered to any of the four
pub record HaveNoneHere (r : Rules) (shards : Four ShardState) : Type 0 where
  pub a : HasNoneHere r shards.a
  pub b : HasNoneHere r shards.b
  pub c : HasNoneHere r shards.c
  pub d : HasNoneHere r shards.d

-- each of the four has every pair of its range whose child is at its place or before
pub record AreWhole (r : Rules) (shards : Four ShardState) : Type 0 where
  pub a : IsWhole r shards.a
  pub b : IsWhole r shards.b
  pub c : IsWhole r shards.c
  pub d : IsWhole r shards.d

-- the four shards are good
pub record AreGood (r : Rules) (shards : Four ShardState) : Type 0 where
  pub a : IsGood r shards.a
  pub b : IsGood r shards.b
  pub c : IsGood r shards.c
  pub d : IsGood r shards.d

-- nothing is left to settle in a shard, which is at this place
pub record IsShardFinished (shard : ShardState) (last : Place) : Type 0 where
  pub last_is : last ≡ place_of shard
  pub ties : shard.phase ≡ Ties

-- the true records of the range of a shard
pub record AreAllOf (r : Rules) (shard : ShardState) (records : List (Option Solved)) : Type 0 where
  pub long : length records ≡ length shard.delivered
  pub are_true : ArePart r shard.tier shard.lo records

-- the true records of two ranges, one after the other
pub record AreRecordsOf (r : Rules) (low high : ShardState) (records : List (Option Solved)) : Type 0 where
  pub first : List (Option Solved)
  pub second : List (Option Solved)
  pub both : records ≡ first ++ second
  pub first_is : AreAllOf r low first
  pub second_is : AreAllOf r high second
