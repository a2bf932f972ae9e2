-- Parts of a level: the notes of a run, or those of a table's records at some indexes.
use Rattle.std.specs.Prelude.{List}
use Rattle.gm_game.specs.Rules.{Rules}
use Rattle.gm_frontier.specs.Notes.{NoteData}
use Rattle.gm_frontier.specs.inner.Records.{notes_at, AreRecorded}
use Rattle.gm_frontier.specs.declared.part.Source.{Source}
use Rattle.gm_frontier.specs.declared.part.Source.TheVariants.{Listed, Recorded}

-- the notes of a source
abbrev pub notes_from : {G : Type 0} → Source G → List NoteData
notes_from (Listed notes) = notes.now
notes_from (Recorded table indexes) = notes_at table.now indexes.now

-- each index of a source has a record
abbrev pub IsSource : {G : Type 0} → Rules → Source G → Type 0
IsSource r (Listed notes) = Unit {0}
IsSource r (Recorded table indexes) = AreRecorded r table.now indexes.now
