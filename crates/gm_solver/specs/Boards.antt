-- Boards: four spots that tile a tier, and what a delivery to one of them answers.
use Rattle.std.specs.Prelude.{ℕ, ◌-◌, ◌≡◌, ◌≤◌, ◌↔◌, Result, Err}
use Rattle.gm_counters.specs.State.{ShardState}
use Rattle.gm_game.specs.declared.limits.TheConstants.{REMOTENESS}
use Rattle.gm_game.specs.Rules.{Rules, IsParent}
use Rattle.gm_frontier.specs.Notes.{NoteData, phase_of}
use Rattle.gm_counters.specs.declared.status.Delivery.{Delivery}
use Rattle.gm_counters.specs.declared.status.Refused.{Refused}
use Rattle.gm_counters.specs.declared.status.Refused.TheVariants.{NotThisLevel, NotMine, NotAParent, TooFar}
use Rattle.gm_counters.specs.Delivery.{Delivers}
use Rattle.gm_counters.specs.Good.{IsGood}
use Rattle.gm_locks.specs.Spots.{Spot, spot_of, IsWithin}

-- a shard and the total of its book
pub record HeldData : Type 0 where
  pub shard : ShardState
  pub book : ℕ

-- a spot follows another one: the same tier and place, and the range goes on where the other ends
pub record IsNextSpot (s t : Spot) : Type 0 where
  pub tier : t.tier ≡ s.tier
  pub phase : t.phase ≡ s.phase
  pub level : t.level ≡ s.level
  pub from : t.lo ≡ s.hi
  pub order : t.lo ≤ t.hi

-- the four spots tile a tier at one place
pub record AreFourTiles (r : Rules) (a b c d : Spot) : Type 0 where
  pub first : a.lo ≡ 0
  pub order : a.lo ≤ a.hi
  pub second : IsNextSpot a b
  pub third : IsNextSpot b c
  pub fourth : IsNextSpot c d
  pub whole : d.hi ≡ r.tier_size a.tier

-- the note is at the spot's place
abbrev pub IsAtPlace : Spot → NoteData → Type 0
IsAtPlace s note = (phase_of note.solved.value ≡ s.phase) × (note.solved.remoteness ≡ s.level)

-- an answer is one of the first three refusals exactly if that refusal's condition holds, in their order, and the fourth only at the limit
pub record IsAnswer (r : Rules) (s : Spot) (note : NoteData) (parent : ℕ) (answer : Result Delivery Refused) : Type 0 where
  pub not_this_level : (answer ≡ Err NotThisLevel) ↔ (IsAtPlace s note → ⊥)
  pub not_mine : (answer ≡ Err NotMine) ↔ (IsAtPlace s note × (IsWithin s parent → ⊥))
  pub not_a_parent : (answer ≡ Err NotAParent) ↔ (IsAtPlace s note × IsWithin s parent × (IsParent r note.position s.tier parent → ⊥))
  pub too_far : answer ≡ Err TooFar → REMOTENESS ≤ s.level

-- one delivery to a good shard at the spot, which leaves a good one there
pub record IsDeliveryAt (r : Rules) (s : Spot) (note : NoteData) (parent : ℕ) (answer : Result Delivery Refused) : Type 0 where
  pub old : ShardState
  pub new : ShardState
  pub old_good : IsGood r old
  pub new_good : IsGood r new
  pub old_spot : spot_of old ≡ s
  pub new_spot : spot_of new ≡ s
  pub event : Delivers r note parent old new answer
