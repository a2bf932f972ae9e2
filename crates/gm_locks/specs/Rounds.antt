-- Deliveries to a shard in the order of a level's pairs.
use Rattle.std.specs.Prelude.{◌≡◌, ℕ, ◌+◌, ◌<◌, ◌≤◌, ◌↔◌, List, Some, Result, Ok, Err, length, slice_get}
use Rattle.std.specs.List.{Contains}
use Rattle.gm_game.specs.declared.limits.TheConstants.{REMOTENESS}
use Rattle.gm_game.specs.declared.position.Position.{Position}
use Rattle.gm_game.specs.declared.position.Place.{Place}
use Rattle.gm_game.specs.Rules.{Rules}
use Rattle.gm_game.specs.Places.{StandsAt}
use Rattle.gm_frontier.specs.Notes.{NoteData}
use Rattle.gm_frontier.specs.Levels.{LevelData, place_at}
use Rattle.gm_frontier.specs.Pairs.{pairs_of}
use Rattle.gm_counters.specs.declared.status.Delivery.{Delivery}
use Rattle.gm_counters.specs.declared.status.Delivery.TheVariants.{Fresh, FreshSettled, Repeat}
use Rattle.gm_counters.specs.declared.status.Refused.{Refused}
use Rattle.gm_counters.specs.declared.status.Refused.TheVariants.{NotThisLevel, NotMine, NotAParent, TooFar}
use Rattle.gm_counters.specs.State.{ShardState, IsInRange, delivered_to, pairs_in}
use Rattle.gm_locks.specs.Spots.{Spot}

-- the pairs of a level's notes into the range of a spot, in the order of a walk
abbrev pub pairs_into : Rules → Spot → List NoteData → List (NoteData × ℕ)
pairs_into r s notes = pairs_of r s.tier s.lo s.hi notes

-- the tier, phase and level of a spot
abbrev pub place_of_spot : Spot → Place
place_of_spot s = place_at s.tier s.phase s.level

-- the first n of these pairs are delivered, and no later one of them is
pub record AreFirst (pairs : List (NoteData × ℕ)) (s : ShardState) (n : ℕ) : Type 0 where
  pub within : n ≤ length pairs
  pub each : (k : ℕ) (pair : NoteData × ℕ) → slice_get pairs k ≡ Some pair → Contains (delivered_to s pair.1) pair.0.position ↔ (k < n)

-- these are delivered besides `base` other pairs
pub record IsRound (pairs : List (NoteData × ℕ)) (base : ℕ) (s : ShardState) (n : ℕ) : Type 0 where
  pub count : pairs_in s ≡ base + n
  pub first : AreFirst pairs s n

-- no delivered child is at the shard's place
abbrev pub HasNoneHere : Rules → ShardState → Type 0
HasNoneHere r s = (i : ℕ) (c : Position) → IsInRange s i → Contains (delivered_to s i) c → StandsAt r s.phase s.level c → ⊥

-- the level is at the spot's place, and has these notes
pub record IsLevelAt (level : LevelData) (s : Spot) (notes : List NoteData) : Type 0 where
  pub place : level.place ≡ place_of_spot s
  pub notes_are : level.notes ≡ notes

-- what a delivery of the next pair answers: the pair is new, or it is too far at the limit
abbrev pub IsNextAnswer : Spot → Result Delivery Refused → Type 0
IsNextAnswer s (Ok Fresh) = Unit {0}
IsNextAnswer s (Ok FreshSettled) = Unit {0}
IsNextAnswer s (Ok Repeat) = ⊥
IsNextAnswer s (Err NotThisLevel) = ⊥
IsNextAnswer s (Err NotMine) = ⊥
IsNextAnswer s (Err NotAParent) = ⊥
IsNextAnswer s (Err TooFar) = REMOTENESS ≤ s.level
