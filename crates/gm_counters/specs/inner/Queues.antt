-- Settled indexes of a shard in the order in which they were settled.
use Rattle.std.specs.Prelude.{◌≡◌, ℕ, ◌+◌, ◌<◌, ◌≤◌, ◌↔◌, List, [], ◌∷◌, length, Some, slice_get, slice_index}
use Rattle.std.specs.List.{Contains}
use Rattle.gm_game.specs.declared.position.Phase.{Phase}
use Rattle.gm_game.specs.declared.position.Phase.TheVariants.{WinLose, Ties}
use Rattle.gm_game.specs.declared.position.Solved.{Solved}
use Rattle.gm_game.specs.Rules.{Rules, at}
use Rattle.gm_frontier.specs.Notes.{NoteData, phase_of}
use Rattle.gm_counters.specs.declared.status.Status.{Status}
use Rattle.gm_counters.specs.declared.status.Status.TheVariants.{Hole, Undecided, Settled}
use Rattle.gm_counters.specs.State.{ShardState, IsInRange, delivered_to}
use Rattle.gm_counters.specs.Status.{StatusIs}

-- what a queue shows: its indexes, the part of the present level, and how many indexes it has room for
pub record QueueData : Type 0 where
  pub indexes : List ℕ
  pub from : ℕ
  pub to : ℕ
  pub room : ℕ

-- the k-th index of the range is settled, in this phase
pub record IsSettledIn (r : Rules) (s : ShardState) (phase : Phase) (k : ℕ) : Type 0 where
  pub within : k < length s.delivered
  pub value : Solved
  pub settled : StatusIs r s (s.lo + k) (Settled value)
  pub phase_is : phase_of value.value ≡ phase

-- the remoteness that is at a place of a queue: below the level before the present part, the level itself in that part, and the next level after it
pub record IsQueuedAt (level : ℕ) (q : QueueData) (place remoteness : ℕ) : Type 0 where
  pub before : place < q.from → remoteness < level
  pub present : q.from ≤ place → place < q.to → remoteness ≡ level
  pub after : q.to ≤ place → remoteness ≡ level + 1

-- no number is at two places
abbrev pub AreDistinct : List ℕ → Type 0
AreDistinct xs = (i j : ℕ) → i < length xs → j < length xs → slice_index xs i ≡ slice_index xs j → i ≡ j

-- the queue has exactly the indexes that are settled in the phase, once each and by level
pub record IsQueue (r : Rules) (s : ShardState) (phase : Phase) (level : ℕ) (q : QueueData) : Type 0 where
  pub listed : (k : ℕ) → Contains q.indexes k ↔ IsSettledIn r s phase k
  pub once : AreDistinct q.indexes
  pub placed : (place k : ℕ) (x : Solved) → slice_get q.indexes place ≡ Some k → StatusIs r s (s.lo + k) (Settled x) → IsQueuedAt level q place x.remoteness
  pub order : q.from ≤ q.to
  pub inside : q.to ≤ length q.indexes
  pub room : length s.delivered ≤ q.room

-- the queue of the present phase, and before the phase of ties also the queue of the ties that have ended
abbrev pub AreQueues : Rules → ShardState → QueueData → QueueData → Type 0
AreQueues r s queue ties = IsQueue r s s.phase s.level queue × (s.phase ≡ WinLose → IsQueue r s Ties 0 ties)

-- the status is a settled one of this phase
abbrev pub HasPhase : Phase → Status → Type 0
HasPhase phase Hole = ⊥
HasPhase phase Undecided = ⊥
HasPhase phase (Settled x) = phase_of x.value ≡ phase

-- no child is delivered to any index of the range
abbrev pub IsEmptied : ShardState → Type 0
IsEmptied s = (i : ℕ) → IsInRange s i → delivered_to s i ≡ []

-- the k-th index of the range is settled, at this place
pub record IsSettledAt (r : Rules) (s : ShardState) (phase : Phase) (level k : ℕ) : Type 0 where
  pub within : k < length s.delivered
  pub value : Solved
  pub settled : StatusIs r s (s.lo + k) (Settled value)
  pub phase_is : phase_of value.value ≡ phase
  pub level_is : value.remoteness ≡ level

-- the list has exactly the indexes of the range that are settled at this place, once each
pub record AreSettledAt (r : Rules) (s : ShardState) (phase : Phase) (level : ℕ) (ks : List ℕ) : Type 0 where
  pub listed : (k : ℕ) → Contains ks k ↔ IsSettledAt r s phase level k
  pub once : AreDistinct ks

-- the note is that of the k-th index of the range, which is settled
pub record IsNoteAtIndex (r : Rules) (s : ShardState) (k : ℕ) (n : NoteData) : Type 0 where
  pub position : n.position ≡ at s.tier (s.lo + k)
  pub settled : StatusIs r s (s.lo + k) (Settled n.solved)

-- the notes are those of these indexes, in order
abbrev pub AreNotesAt : Rules → ShardState → List ℕ → List NoteData → Type 0
AreNotesAt r s [] [] = Unit {0}
AreNotesAt r s [] (n ∷ ns) = ⊥
AreNotesAt r s (k ∷ ks) [] = ⊥
AreNotesAt r s (k ∷ ks) (n ∷ ns) = IsNoteAtIndex r s k n × AreNotesAt r s ks ns
