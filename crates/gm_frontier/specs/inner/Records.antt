-- Notes as records of a table.
use Rattle.std.specs.Prelude.{ℕ, List, [], map, None, Some, IsSome, unwrap_or}
use Rattle.std.specs.List.{Contains}
use Rattle.gm_game.specs.declared.position.Value.TheVariants.{Draw}
use Rattle.gm_game.specs.declared.position.Place.{Place}
use Rattle.gm_game.specs.Rules.{Rules, at}
use Rattle.gm_game.specs.Records.{solved}
use Rattle.gm_table.specs.Tables.{TableData, table_of, record_at}
use Rattle.gm_table.specs.Levels.{indexes_at}
use Rattle.gm_frontier.specs.Notes.{NoteData, IsNote}

-- the note of an index by its record
abbrev pub note_of : TableData → ℕ → NoteData
note_of t index = record { position = at t.tier index; solved = unwrap_or (record_at t.records index) (solved Draw 0) }

-- the notes of these indexes
abbrev pub notes_at : TableData → List ℕ → List NoteData
notes_at t indexes = map (note_of t) indexes

-- the index has a record of a decided position
abbrev pub IsRecorded : Rules → TableData → ℕ → Type 0
IsRecorded r t index = IsSome (record_at t.records index) × IsNote r (note_of t index).position (note_of t index).solved

-- each of these indexes has a record of a decided position
abbrev pub AreRecorded : Rules → TableData → List ℕ → Type 0
AreRecorded r t indexes = (index : ℕ) → Contains indexes index → IsRecorded r t index

-- the notes of a tier at a place, by the tier's table; none if the table isn't held
abbrev pub notes_of_tier : List TableData → Place → ℕ → List NoteData
notes_of_tier entries place tier = elim (table_of entries tier) [ None ↦ [] | Some t ↦ notes_at t (indexes_at place.phase place.level t.records) ]
