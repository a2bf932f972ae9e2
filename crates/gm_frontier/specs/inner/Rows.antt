-- What an iterator over pairs has left.
use Rattle.std.specs.Prelude.{ℕ, List, [], map, take, drop, Option, None, Some, ◌-◌}
use Rattle.gm_frontier.specs.Notes.{NoteData}

-- the note in hand with each of these indexes
abbrev pub row_pairs : Option NoteData → List ℕ → List (NoteData × ℕ)
row_pairs None indexes = []
row_pairs (Some n) indexes = map (λ i. (n, i)) indexes

-- the notes with numbers from one up to another
abbrev pub stretch : ℕ → ℕ → List NoteData → List NoteData
stretch from to notes = take (to - from) (drop from notes)
