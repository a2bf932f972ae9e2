-- What one delivery does.
use Rattle.std.specs.Prelude.{◌≡◌, ℕ, ◌+◌, ◌≤◌, ◌<◌, Result, Ok, Err, Bool, true, false, if◌then◌else◌}
use Rattle.std.specs.List.{Contains}
use Rattle.gm_game.specs.declared.limits.TheConstants.{REMOTENESS}
use Rattle.gm_game.specs.declared.position.Solved.{Solved}
use Rattle.gm_game.specs.declared.position.Value.TheVariants.{Lose, Draw, Tie, Win}
use Rattle.gm_game.specs.Records.{solved}
use Rattle.gm_game.specs.Rules.{Rules, IsParent}
use Rattle.gm_frontier.specs.Notes.{NoteData, phase_of}
use Rattle.gm_counters.specs.declared.status.Status.{Status}
use Rattle.gm_counters.specs.declared.status.Status.TheVariants.{Hole, Undecided, Settled}
use Rattle.gm_counters.specs.declared.status.Delivery.{Delivery}
use Rattle.gm_counters.specs.declared.status.Delivery.TheVariants.{Fresh, FreshSettled, Repeat}
use Rattle.gm_counters.specs.declared.status.Refused.{Refused}
use Rattle.gm_counters.specs.declared.status.Refused.TheVariants.{NotThisLevel, NotMine, NotAParent, TooFar}
use Rattle.gm_counters.specs.State.{ShardState, IsInRange, delivered_to, with_pair}
use Rattle.gm_counters.specs.Status.{StatusIs}

-- the note is at the present place
abbrev pub IsThisLevel : ShardState → NoteData → Type 0
IsThisLevel s note = (phase_of note.solved.value ≡ s.phase) × (note.solved.remoteness ≡ s.level)

-- the note and the parent pass the first three tests
pub record IsPairHere (r : Rules) (s : ShardState) (note : NoteData) (parent : ℕ) : Type 0 where
  pub is_level : IsThisLevel s note
  pub is_mine : IsInRange s parent
  pub is_parent : IsParent r note.position s.tier parent

-- the status of the parent is settled in the step from s to t, in the present phase and one move above the present level
pub record IsSettledNow (r : Rules) (s t : ShardState) (parent : ℕ) : Type 0 where
  pub was_open : StatusIs r s parent Undecided
  pub value : Solved
  pub phase : phase_of value.value ≡ s.phase
  pub remoteness : value.remoteness ≡ s.level + 1
  pub settled : StatusIs r t parent (Settled value)

-- the parent has the same status in s and in t
pub record KeepsStatus (r : Rules) (s t : ShardState) (parent : ℕ) : Type 0 where
  pub status : Status
  pub before : StatusIs r s parent status
  pub after : StatusIs r t parent status

-- what a delivery of the note to the parent answers, and the state that it leaves
abbrev pub Delivers : Rules → NoteData → ℕ → ShardState → ShardState → Result Delivery Refused → Type 0
Delivers r note parent s t (Err NotThisLevel) = (t ≡ s) × (IsThisLevel s note → ⊥)
Delivers r note parent s t (Err NotMine) = (t ≡ s) × IsThisLevel s note × (IsInRange s parent → ⊥)
Delivers r note parent s t (Err NotAParent) = (t ≡ s) × IsThisLevel s note × IsInRange s parent × (IsParent r note.position s.tier parent → ⊥)
Delivers r note parent s t (Err TooFar) = (t ≡ s) × IsPairHere r s note parent × (Contains (delivered_to s parent) note.position → ⊥)
    × IsSettledNow r s (with_pair s note.position parent) parent × (REMOTENESS < s.level + 1)
Delivers r note parent s t (Ok Repeat) = (t ≡ s) × IsPairHere r s note parent × Contains (delivered_to s parent) note.position
Delivers r note parent s t (Ok Fresh) = (t ≡ with_pair s note.position parent) × IsPairHere r s note parent
    × (Contains (delivered_to s parent) note.position → ⊥) × KeepsStatus r s t parent
Delivers r note parent s t (Ok FreshSettled) = (t ≡ with_pair s note.position parent) × IsPairHere r s note parent
    × (Contains (delivered_to s parent) note.position → ⊥) × IsSettledNow r s t parent × (s.level + 1 ≤ REMOTENESS)

-- the numbers of the refusals
abbrev pub refused_number : Refused → ℕ
refused_number NotThisLevel = 1
refused_number NotMine = 2
refused_number NotAParent = 3
refused_number TooFar = 4

-- a delivery that added its pair
abbrev pub IsAdded : Result Delivery Refused → Type 0
IsAdded (Err e) = ⊥
IsAdded (Ok Fresh) = Unit {0}
IsAdded (Ok FreshSettled) = Unit {0}
IsAdded (Ok Repeat) = ⊥

-- the status after a note is delivered, where `last` says whether its position is the last child
abbrev pub next_status : Status → Solved → Bool → Status
next_status Hole note last = Hole
next_status Undecided note last =
    elim note.value [
      | Lose ↦ Settled (solved Win (note.remoteness + 1))
      | Draw ↦ Undecided
      | Tie ↦ Settled (solved Tie (note.remoteness + 1))
      | Win ↦ if last then Settled (solved Lose (note.remoteness + 1)) else Undecided
    ]
next_status (Settled x) note last = Settled x

-- whether a status is settled in the step from one to the next
abbrev pub is_settling : Status → Status → Bool
is_settling Hole next = false
is_settling Undecided Hole = false
is_settling Undecided Undecided = false
is_settling Undecided (Settled x) = true
is_settling (Settled x) next = false
