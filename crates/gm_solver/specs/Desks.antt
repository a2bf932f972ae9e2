-- Desks: deliveries to a shard in the order of a level's pairs, by its pass.
use Rattle.std.specs.Prelude.{◌≡◌, ℕ, List, Some, Result}
use Rattle.std.specs.Result.{IsOk}
use Rattle.gm_game.specs.Rules.{Rules}
use Rattle.gm_frontier.specs.Notes.{NoteData}
use Rattle.gm_frontier.specs.Levels.{IsLevel}
use Rattle.gm_frontier.specs.Counts.{ExpectedData, IsNumberBefore}
use Rattle.gm_counters.specs.declared.status.Delivery.{Delivery}
use Rattle.gm_counters.specs.declared.status.Refused.{Refused}
use Rattle.gm_shard.specs.declared.short.Short.{Short}
use Rattle.gm_shard.specs.Closing.{Closes}
use Rattle.gm_counters.specs.State.{ShardState}
use Rattle.gm_counters.specs.Delivery.{Delivers}
use Rattle.gm_counters.specs.Good.{IsGood}
use Rattle.gm_locks.specs.Spots.{Spot, spot_of}
use Rattle.gm_locks.specs.Rounds.{place_of_spot, IsRound}

-- the count is for the spot's tier and range, and the last level that it added is the spot's
pub record IsForSpot (e : ExpectedData) (s : Spot) : Type 0 where
  pub tier : e.tier ≡ s.tier
  pub lo : e.lo ≡ s.lo
  pub hi : e.hi ≡ s.hi
  pub last : e.last ≡ Some (place_of_spot s)

-- the notes are those of the level at the spot's place, and `base` pairs of the range are of earlier levels
pub record IsBegun (r : Rules) (s : Spot) (notes : List NoteData) (base : ℕ) : Type 0 where
  pub level : IsLevel r (place_of_spot s) notes
  pub before : IsNumberBefore r s.tier s.lo s.hi s.phase s.level base

-- no close of the shard by this count returns Short
abbrev pub ClosesSurely : Rules → ExpectedData → ShardState → Type 0
ClosesSurely r e s = (t : ShardState) (answer : Result (Unit {0}) Short) → Closes r e s t answer → IsOk answer

-- one delivery to a good shard at the spot, which leaves a good one there: n of the pairs were delivered to it before, and m are after
pub record IsStep (r : Rules) (s : Spot) (pairs : List (NoteData × ℕ)) (base : ℕ) (note : NoteData) (parent : ℕ)
    (answer : Result Delivery Refused) (n m : ℕ) : Type 0 where
  pub old : ShardState
  pub new : ShardState
  pub old_good : IsGood r old
  pub new_good : IsGood r new
  pub old_spot : spot_of old ≡ s
  pub new_spot : spot_of new ≡ s
  pub old_round : IsRound pairs base old n
  pub new_round : IsRound pairs base new m
  pub event : Delivers r note parent old new answer
