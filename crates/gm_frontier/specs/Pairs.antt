-- The pairs of a level: a note, and the index of a parent in the level's tier.
use Rattle.std.specs.Prelude.{ℕ, Bool, List, map, filter, take, drop, nat_lt, ◌*◌, ◌&&◌, nat_le}
use Rattle.std.specs.List.{flat_map}
use Rattle.gm_game.specs.declared.position.Place.{Place}
use Rattle.gm_game.specs.Rules.{Rules, IsParent}
use Rattle.gm_frontier.specs.Notes.{NoteData, IsNoteAt}

-- whether an index is in the range
abbrev pub is_within : ℕ → ℕ → ℕ → Bool
is_within lo hi i = nat_le lo i && nat_lt i hi

-- the pairs of a note with each of these indexes that is in the range
abbrev pub pairs_with : NoteData → ℕ → ℕ → List ℕ → List (NoteData × ℕ)
pairs_with n lo hi parents = map (λ i. (n, i)) (filter (is_within lo hi) parents)

-- the pairs of a note with each of its parents in the range, ascending
abbrev pub pairs_of_note : Rules → ℕ → ℕ → ℕ → NoteData → List (NoteData × ℕ)
pairs_of_note r tier lo hi n = pairs_with n lo hi (r.parents n.position tier)

-- the pairs of the notes, in order
abbrev pub pairs_of : Rules → ℕ → ℕ → ℕ → List NoteData → List (NoteData × ℕ)
pairs_of r tier lo hi notes = flat_map (pairs_of_note r tier lo hi) notes

-- the notes of a piece, if each piece but the last has n of them
abbrev pub piece_of : ℕ → ℕ → List NoteData → List NoteData
piece_of piece n notes = take n (drop (piece * n) notes)

-- the note is one of the place, and the position of its tier with this index is a parent
pub record IsPairAt (r : Rules) (place : Place) (pair : NoteData × ℕ) : Type 0 where
  pub note : IsNoteAt r place pair.0
  pub is_parent : IsParent r pair.0.position place.tier pair.1
