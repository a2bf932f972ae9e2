-- The texts of boards on which two sides have pieces.
use Rattle.std.specs.Prelude.{ℕ, List, map}
use Rattle.gm_board.specs.declared.cell.Cell.{Cell}
use Rattle.gm_board.specs.declared.cell.Cell.TheVariants.{Empty, Mine, Theirs}

-- the byte of a cell: `x` for a piece of the mover's, `o` for one of the opponent's, `.` for an empty cell
abbrev pub cell_char : Cell → ℕ
cell_char Empty = 46
cell_char Mine = 120
cell_char Theirs = 111

-- the text of a board: its cells in order
unfoldable pub cells_text : List Cell → List ℕ
cells_text b = map cell_char b
