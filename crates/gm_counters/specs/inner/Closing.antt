-- What a shard answers of its level and of its positions.
use Rattle.std.specs.Prelude.{◌≡◌, ℕ, ◌+◌, List, Option, None, Some, slice_get}
use Rattle.gm_game.specs.declared.position.Solved.{Solved}
use Rattle.gm_game.specs.Rules.{Rules, at}
use Rattle.gm_game.specs.Records.{solved}
use Rattle.gm_game.specs.declared.position.Value.TheVariants.{Draw}
use Rattle.gm_frontier.specs.Notes.{NoteData}
use Rattle.gm_counters.specs.declared.status.Status.{Status}
use Rattle.gm_counters.specs.declared.status.Status.TheVariants.{Hole, Undecided, Settled}
use Rattle.gm_counters.specs.State.{ShardState}
use Rattle.gm_counters.specs.Status.{StatusIs}

-- the note of an index that is settled
abbrev pub IsNoteOf : Rules → ShardState → ℕ → Option NoteData → Type 0
IsNoteOf r s index None = (x : Solved) → StatusIs r s index (Settled x) → ⊥
IsNoteOf r s index (Some note) = (note.position ≡ at s.tier index) × StatusIs r s index (Settled note.solved)

-- the record of a status, where what is undecided is a draw
abbrev pub record_of_status : Status → Option Solved
record_of_status Hole = None
record_of_status Undecided = Some (solved Draw 0)
record_of_status (Settled x) = Some x

-- the records of the indexes from one on, where what is undecided is a draw
abbrev pub AreFinal : Rules → ShardState → ℕ → List (Option Solved) → Type 0
AreFinal r s index records = (k : ℕ) (o : Option Solved) → slice_get records k ≡ Some o
    → (status : Status) × StatusIs r s (index + k) status × (o ≡ record_of_status status)
