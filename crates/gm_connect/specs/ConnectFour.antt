-- The rules of Connect Four on boards: a board is a list of cells as the player to move sees them, row by row, the top row first.
use Rattle.std.specs.Prelude.{ℕ, ◌+◌, ◌-◌, ◌*◌, ◌/◌, ◌%◌, Bool, not, ◌&&◌, ◌||◌, ◌==◌, nat_le, nat_lt, List, [], ◌∷◌, ◌++◌, map, replicate, length, set, if◌then◌else◌, Option, None, Some}
use Rattle.std.specs.List.{list_all, range_with_len}
use Rattle.gm_game.specs.declared.position.End.{End}
use Rattle.gm_game.specs.declared.position.End.TheVariants.{Lose, Tie}
use Rattle.gm_game.specs.Rules.{Rules}
use Rattle.gm_board.specs.declared.cell.Cell.{Cell}
use Rattle.gm_board.specs.declared.cell.Cell.TheVariants.{Empty, Mine}
use Rattle.gm_board.specs.BoardMasks.{turned}
use Rattle.gm_board.specs.Cells.{is_mine, is_theirs, is_empty, is_taken, cell_at, number_of}
use Rattle.gm_board.specs.Patterns.{has_filled}
use Rattle.gm_board.specs.Permutations.{permute}
use Rattle.gm_pieces.specs.MoveGames.{MoveGame, move_rules}
use Rattle.gm_stacks.specs.Heights.{total, middle_heights}
use Rattle.gm_stacks.specs.Stacks.{mirror, height_of, heights, has_piece, stacked_boards, stacked_index, stacked_board}
use Rattle.gm_connect.specs.declared.size.Size.{Size}
use Rattle.gm_connect.specs.Lines.{lines}
use Rattle.gm_connect.specs.Sizes.{size_of, name_of, columns, rows, middle, cells, middle_cells, outer_cells}

-- how many pieces the mover has
abbrev pub mine : List Cell → ℕ
mine b = number_of is_mine b

-- how many pieces the opponent has
abbrev pub theirs : List Cell → ℕ
theirs b = number_of is_theirs b

-- how many pieces there are
abbrev pub pieces : List Cell → ℕ
pieces b = mine b + theirs b

-- whether all cells of a line pass the test
unfoldable pub has_line : Size → (Cell → Bool) → List Cell → Bool
has_line s p b = has_filled Empty (lines s) p b

-- whether a cell is in the bottom row or above a piece
abbrev pub is_supported : Size → List Cell → ℕ → Bool
is_supported s b k = nat_le (cells s) (k + columns s) || is_taken (cell_at b (k + columns s))

-- whether each piece stands on the bottom or on a piece
unfoldable pub all_stand : Size → List Cell → Bool
all_stand s b = list_all (λ k. is_empty (cell_at b k) || is_supported s b k) (range_with_len 0 (cells s))

-- on a legal board the mover has half of the pieces, rounded down, each piece stands on the bottom or on a piece, and the mover has no line
unfoldable pub legal : Size → List Cell → Bool
legal s b = length b == cells s && (mine b == pieces b / 2 && (all_stand s b && not (has_line s is_mine b)))

-- how the last move has ended the game, if it has: the mover has lost if the opponent has a line
unfoldable pub end_by_last_move : Size → List Cell → Option End
end_by_last_move s b = if has_line s is_theirs b then Some Lose else None

-- how many pieces a column has
abbrev pub height : Size → List Cell → ℕ → ℕ
height s b c = height_of (columns s) (rows s) (has_piece b) c

-- the cell of a column that is the n-th from below
abbrev pub cell_up : Size → ℕ → ℕ → ℕ
cell_up s c n = (rows s - n) * columns s + c

-- the cell on which a piece comes to lie that is dropped into a column: the one above the column's pieces
unfoldable pub landing : Size → List Cell → ℕ → ℕ
landing s b c = cell_up s c (height s b c + 1)

-- the cell of a column's topmost piece; below the board if the column has no piece
unfoldable pub topmost : Size → List Cell → ℕ → ℕ
topmost s b c = cell_up s c (height s b c)

-- whether a piece can be dropped into a column: the column's cell in the top row is empty
unfoldable pub can_move : Size → List Cell → ℕ → Bool
can_move s b c = is_empty (cell_at b c)

-- the board after a piece was dropped into a column, as the other player sees it
abbrev pub play : Size → List Cell → ℕ → List Cell
play s b c = map turned (set b (landing s b c) Mine)

-- whether the last piece can have been dropped into a column: the column's topmost piece is the opponent's
unfoldable pub can_have_led_here : Size → List Cell → ℕ → Bool
can_have_led_here s d c = is_theirs (cell_at d (topmost s d c))

-- the board before the topmost piece of a column was dropped, as the player who dropped it saw it
abbrev pub undo : Size → List Cell → ℕ → List Cell
undo s d c = set (map turned d) (topmost s d c) Empty

-- left and right as they are, and exchanged
unfoldable pub mirrors : Size → List (List ℕ)
mirrors s = range_with_len 0 (cells s) ∷ mirror (columns s) (rows s) ∷ []

-- how many pieces are in the middle columns that are numbered apart
unfoldable pub middle_pieces : Size → List Cell → ℕ
middle_pieces s b = total (middle_heights (middle s) (heights (columns s) (rows s) (has_piece b)))

-- how many numbers of pieces the middle columns can have
abbrev pub middle_range : Size → ℕ
middle_range s = middle_cells s + 1

-- the tier: how many pieces the other columns have, and how many the middle ones
abbrev pub tier_of : Size → List Cell → ℕ
tier_of s b = (pieces b - middle_pieces s b) * middle_range s + middle_pieces s b

-- how many pieces the other columns have in a tier, and how many the middle ones
abbrev pub outer_in : Size → ℕ → ℕ
outer_in s t = t / middle_range s

abbrev pub middle_in : Size → ℕ → ℕ
middle_in s t = t % middle_range s

abbrev pub pieces_in : Size → ℕ → ℕ
pieces_in s t = outer_in s t + middle_in s t

-- how many indexes a tier has
unfoldable pub size_at : Size → ℕ → ℕ
size_at s t = if nat_le (outer_in s t) (outer_cells s) then stacked_boards (columns s) (rows s) (middle s) (outer_in s t) (middle_in s t) (pieces_in s t / 2) else 0

-- the tiers with one more piece, on the middle columns and on the others, unless they are full
unfoldable pub child_tiers_of : Size → ℕ → List ℕ
child_tiers_of s t =
    (if nat_lt (middle_in s t) (middle_cells s) && nat_le (outer_in s t) (outer_cells s) then (t + 1) ∷ [] else [])
    ++ (if nat_lt (outer_in s t) (outer_cells s) then (t + middle_range s) ∷ [] else [])

-- the index of a board
abbrev pub index_of : Size → List Cell → ℕ
index_of s b = stacked_index (columns s) (rows s) (middle s) b

-- the board of a tier with an index
abbrev pub board_at : Size → ℕ → ℕ → List Cell
board_at s t i = stacked_board (columns s) (rows s) (middle s) (outer_in s t) (middle_in s t) (pieces_in s t / 2) i

-- the game: a move is a column, the board is empty at the start, and left and right may be exchanged; a line ends the game, and a full board without a line is a tie
abbrev pub connect_four : Size → MoveGame (List Cell) (List ℕ)
connect_four s = record {
  name = name_of s;
  start = replicate (cells s) Empty;
  legal = legal s;
  end_by_last_move = end_by_last_move s;
  end_if_no_move = λ b. Tie;
  move_number_bound = λ t. columns s;
  can_move = can_move s;
  moved = play s;
  can_have_led_here = λ t d c. can_have_led_here s d c;
  undo = λ t d c. undo s d c;
  symmetries = mirrors s;
  image = λ g b. permute Empty g b;
  tier = tier_of s;
  index = index_of s;
  board = board_at s;
  size = size_at s;
  child_tiers = child_tiers_of s;
  tier_rank = λ t. cells s - pieces_in s t;
}

-- the rules of the game with these columns and rows
abbrev pub connect_rules : ℕ → ℕ → Rules
connect_rules w h = move_rules (connect_four (size_of w h))
