-- Spots: the place of a shard.
use Rattle.std.specs.Prelude.{◌≡◌, ℕ, ◌+◌, ◌<◌, ◌≤◌, ◌==◌, if◌then◌else◌, length, Result, Ok, Err}
use Rattle.gm_game.specs.declared.position.Phase.{Phase}
use Rattle.gm_game.specs.declared.position.Phase.TheVariants.{WinLose}
use Rattle.gm_game.specs.Rules.{Rules}
use Rattle.gm_frontier.specs.Notes.{NoteData, IsNote}
use Rattle.gm_counters.specs.declared.status.Delivery.{Delivery}
use Rattle.gm_counters.specs.declared.status.Delivery.TheVariants.{Fresh, FreshSettled, Repeat}
use Rattle.gm_counters.specs.declared.status.Refused.{Refused}
use Rattle.gm_counters.specs.State.{ShardState}
use Rattle.gm_counters.specs.Delivery.{IsPairHere}

-- a range of a tier at a place
pub record Spot : Type 0 where
  pub tier : ℕ
  pub lo : ℕ
  pub hi : ℕ
  pub phase : Phase
  pub level : ℕ

-- the place of a shard
abbrev pub spot_of : ShardState → Spot
spot_of s = record { tier = s.tier; lo = s.lo; hi = s.lo + length s.delivered; phase = s.phase; level = s.level }

-- no index of tier 0, before the first level
abbrev pub first_spot : Spot
first_spot = record { tier = 0; lo = 0; hi = 0; phase = WinLose; level = 0 }

-- the index lies in the spot's range
abbrev pub IsWithin : Spot → ℕ → Type 0
IsWithin s index = (s.lo ≤ index) × (index < s.hi)

-- the item of shard k
abbrev pub for_shard : {X : Type 0} → ℕ → X → X → X → X → X
for_shard k a b c d = if k == 0 then a else (if k == 1 then b else (if k == 2 then c else d))

-- the tier, range and place are the same
pub record IsSameSpot (s t : ShardState) : Type 0 where
  pub tier : t.tier ≡ s.tier
  pub lo : t.lo ≡ s.lo
  pub size : length t.delivered ≡ length s.delivered
  pub phase : t.phase ≡ s.phase
  pub level : t.level ≡ s.level

-- a note and a parent of it in the shard's range, where the note is at the shard's place
pub record IsDeliverable (r : Rules) (s : ShardState) (pair : NoteData × ℕ) : Type 0 where
  pub is_note : IsNote r pair.0.position pair.0.solved
  pub here : IsPairHere r s pair.0 pair.1

-- by how much a delivery raises the number of pairs
abbrev pub gain : Result Delivery Refused → ℕ
gain (Ok Fresh) = 1
gain (Ok FreshSettled) = 1
gain (Ok Repeat) = 0
gain (Err e) = 0
