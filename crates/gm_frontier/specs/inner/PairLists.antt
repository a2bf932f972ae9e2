-- What a list of pairs is made of.
use Rattle.std.specs.Prelude.{ℕ, List}
use Rattle.std.specs.List.{Contains}
use Rattle.gm_game.specs.Rules.{Rules}
use Rattle.gm_frontier.specs.Notes.{NoteData, IsNote}
use Rattle.gm_frontier.specs.declared.pair_list.Pair.{Pair}

-- the note of a pair, and the index of the parent
abbrev pub pair_of : Pair → NoteData × ℕ
pair_of pair = (record { position = pair.position; solved = pair.solved }, pair.parent)

-- each has the position and the value of a note
abbrev pub ArePairs : Rules → List Pair → Type 0
ArePairs r pairs = (pair : Pair) → Contains pairs pair → IsNote r pair.position pair.solved
