-- Boards of cells, as the player to move sees them: what is on a cell, and how many cells pass a test.
use Rattle.std.specs.Prelude.{ℕ, Bool, true, false, List, get_or}
use Rattle.std.specs.List.{count_by}
use Rattle.gm_board.specs.declared.cell.Cell.{Cell}
use Rattle.gm_board.specs.declared.cell.Cell.TheVariants.{Empty, Mine, Theirs}

-- whether a piece of the mover's is on a cell
abbrev pub is_mine : Cell → Bool
is_mine Empty = false
is_mine Mine = true
is_mine Theirs = false

-- whether a piece of the opponent's is on a cell
abbrev pub is_theirs : Cell → Bool
is_theirs Empty = false
is_theirs Mine = false
is_theirs Theirs = true

-- whether no piece is on a cell
abbrev pub is_empty : Cell → Bool
is_empty Empty = true
is_empty Mine = false
is_empty Theirs = false

-- whether a piece of either side is on a cell
abbrev pub is_taken : Cell → Bool
is_taken Empty = false
is_taken Mine = true
is_taken Theirs = true

-- what is on the cell with this number
abbrev pub cell_at : List Cell → ℕ → Cell
cell_at b k = get_or b k Empty

-- how many cells pass a test
unfoldable pub number_of : (Cell → Bool) → List Cell → ℕ
number_of p b = count_by p b
