-- Boards of cells as the masks of their pieces: one cell changed, the sides exchanged, patterns filled.
use Rattle.std.proofs.Common.{ℕ, ◌^◌, List, [], ◌∷◌}
use Rattle.std.specs.Prelude.{bit_or}
use Rattle.gm_board.specs.declared.cell.Cell.{Cell}
use Rattle.gm_board.specs.declared.cell.Cell.TheVariants.{Empty, Mine, Theirs}

-- the cell as the other side sees it
abbrev pub turned : Cell → Cell
turned Empty = Empty
turned Mine = Theirs
turned Theirs = Mine

-- ---- patterns
-- the mask of a list of cells
abbrev pub pattern_mask : List ℕ → ℕ
pattern_mask [] = 0
pattern_mask (k ∷ l) = bit_or (2 ^ k) (pattern_mask l)
