-- Boards on which two sides have pieces: a board is a list of cells, as the player to move sees them.
use Rattle.std.specs.Prelude.{◌≡◌, ℕ, ◌<◌, List, map, reverse, length, set, fold, min}
use Rattle.gm_board.specs.declared.cell.Cell.{Cell}
use Rattle.gm_board.specs.declared.cell.Cell.TheVariants.{Empty, Mine, Theirs}
use Rattle.gm_board.specs.Arrangements.{arrangement, arrangement_index}
use Rattle.gm_board.specs.BoardMasks.{turned}
use Rattle.gm_board.specs.Cells.{cell_at}
use Rattle.gm_board.specs.Permutations.{permute}

-- ---- moves of a piece
-- a piece of the mover's is on the first cell, and no piece on the second
pub record IsStep (b : List Cell) (a c : ℕ) : Type 0 where
  pub from_below : a < length b
  pub to_below : c < length b
  pub mine : cell_at b a ≡ Mine
  pub free : cell_at b c ≡ Empty

-- no piece is on the first cell, and a piece of the opponent's, who can have moved it, is on the second
pub record WasStep (d : List Cell) (a c : ℕ) : Type 0 where
  pub there : cell_at d c ≡ Theirs
  pub left : cell_at d a ≡ Empty

-- the board after the mover's piece has gone from one cell to another, as the other player sees it
abbrev pub mover_gone : List Cell → ℕ → ℕ → List Cell
mover_gone b a c = map turned (set (set b a Empty) c Mine)

-- the board before the opponent's piece went from one cell to another, as the opponent saw it
abbrev pub brought_back : List Cell → ℕ → ℕ → List Cell
brought_back d a c = set (set (map turned d) c Empty) a Mine

-- ---- indexes
-- the index of a board among those on which each side has as many pieces: the lowest cell comes first in a board, and the highest in an arrangement
unfoldable pub board_index : List Cell → ℕ
board_index b = arrangement_index (reverse b)

-- the board of n cells with m pieces of the mover's and t of the opponent's that has this index
unfoldable pub board_numbered : ℕ → ℕ → ℕ → ℕ → List Cell
board_numbered n m t i = reverse (arrangement n m t i)

-- the least of the indexes of a board and its images
abbrev pub least_index_under : List (List ℕ) → List Cell → ℕ
least_index_under symmetries b = fold min (board_index b) (map board_index (map (λ g. permute Empty g b) symmetries))
