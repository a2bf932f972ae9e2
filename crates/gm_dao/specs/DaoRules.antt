-- The rules of Dao on boards: a board is a list of sixteen cells as the player to move sees them.
use Rattle.std.specs.Prelude.{ℕ, ◌+◌, ◌-◌, ◌/◌, ◌%◌, Bool, true, ◌&&◌, ◌||◌, ◌==◌, List, [], ◌∷◌, ◌++◌, length, if◌then◌else◌}
use Rattle.gm_dao.specs.Lower.{max, not, nat_le, nat_lt, map, codes, Option, None, Some, filter, list_any, range_with_len, End, Rules, Theirs, arrangements, cell_in, from_point, to_point, mover_gone, brought_back, board_index, board_numbered, least_index_under, MoveGame, move_rules}
use Rattle.gm_game.specs.declared.position.End.TheVariants.{Lose, Win}
use Rattle.gm_board.specs.declared.cell.Cell.{Cell}
use Rattle.gm_board.specs.declared.cell.Cell.TheVariants.{Empty, Mine}
use Rattle.gm_board.specs.Patterns.{fills, has_filled}
use Rattle.gm_board.specs.Permutations.{permute}
use Rattle.gm_board.specs.Squares.{square_symmetries}
use Rattle.gm_board.specs.Cells.{is_mine, is_theirs, is_empty, is_taken, cell_at, number_of}

-- ---- rows and columns
-- how far two numbers are from each other
abbrev pub distance : ℕ → ℕ → ℕ
distance x y = (x - y) + (y - x)

-- how far apart two cells are in rows
abbrev pub rows_apart : ℕ → ℕ → ℕ
rows_apart a c = distance (a / 4) (c / 4)

-- how far apart two cells are in columns
abbrev pub columns_apart : ℕ → ℕ → ℕ
columns_apart a c = distance (a % 4) (c % 4)

-- ---- formations
-- the square of side 2 with this cell as its first
abbrev pub small_square : ℕ → ℕ → List ℕ
small_square row column = cell_in 4 row column ∷ cell_in 4 row (column + 1) ∷ cell_in 4 (row + 1) column ∷ cell_in 4 (row + 1) (column + 1) ∷ []

-- the corners of the board
abbrev pub corners : List ℕ
corners = 0 ∷ 3 ∷ 12 ∷ 15 ∷ []

-- the rows, the columns, the squares of side 2 and the four corners
unfoldable pub formations : List (List ℕ)
formations =
    map (λ row. map (λ column. cell_in 4 row column) (range_with_len 0 4)) (range_with_len 0 4)
    ++ map (λ column. map (λ row. cell_in 4 row column) (range_with_len 0 4)) (range_with_len 0 4)
    ++ map (λ k. small_square (k / 3) (k % 3)) (range_with_len 0 9)
    ++ corners ∷ []

-- whether all cells of a formation pass the test
unfoldable pub has_formation : (Cell → Bool) → List Cell → Bool
has_formation p b = has_filled Empty formations p b

-- a legal board has sixteen cells, four pieces of each side, and no formation of the mover's
unfoldable pub legal : List Cell → Bool
legal b = length b == 16 && (number_of is_mine b == 4 && (number_of is_theirs b == 4 && not (has_formation is_mine b)))

-- ---- corners
-- the cells next to a cell, in its row, its column and its diagonals: three cells next to a corner
unfoldable pub around : ℕ → List ℕ
around k = filter (λ j. not (j == k) && (nat_le (rows_apart k j) 1 && nat_le (columns_apart k j) 1)) (range_with_len 0 16)

-- whether a piece of the mover's is on a cell, and the opponent's pieces on all cells next to it
abbrev pub is_trapped : List Cell → ℕ → Bool
is_trapped b k = is_mine (cell_at b k) && fills Empty is_theirs b (around k)

-- whether a piece of the mover's is trapped in a corner
unfoldable pub has_trapped : List Cell → Bool
has_trapped b = list_any (is_trapped b) corners

-- ---- slides
-- the number that is n steps from x in the direction of y; x itself where x and y are equal
abbrev pub toward : ℕ → ℕ → ℕ → ℕ
toward x y n = if nat_lt x y then x + n else (if nat_lt y x then x - n else x)

-- whether these steps stay within the four rows or columns
abbrev pub stays : ℕ → ℕ → ℕ → Bool
stays x y n = if nat_lt x y then nat_lt (x + n) 4 else (if nat_lt y x then nat_le n x else true)

-- whether c lies in one of the eight directions from a: in its row, its column or one of its diagonals
unfoldable pub in_line : ℕ → ℕ → Bool
in_line a c = nat_lt a 16 && (nat_lt c 16 && (not (a == c) && (rows_apart a c == 0 || (columns_apart a c == 0 || rows_apart a c == columns_apart a c))))

-- how many steps it is from one cell to the other
abbrev pub steps_apart : ℕ → ℕ → ℕ
steps_apart a c = max (rows_apart a c) (columns_apart a c)

-- the cell n steps from a in the direction of c
abbrev pub step_cell : ℕ → ℕ → ℕ → ℕ
step_cell a c n = cell_in 4 (toward (a / 4) (c / 4) n) (toward (a % 4) (c % 4) n)

-- the cells on the way from a to c: those after a, the last of which is c
unfoldable pub path : ℕ → ℕ → List ℕ
path a c = map (step_cell a c) (range_with_len 1 (steps_apart a c))

-- the cell after c on the way from a, if the board goes on there
unfoldable pub beyond : ℕ → ℕ → List ℕ
beyond a c =
    if stays (a / 4) (c / 4) (steps_apart a c + 1) && stays (a % 4) (c % 4) (steps_apart a c + 1)
    then step_cell a c (steps_apart a c + 1) ∷ []
    else []

-- whether a piece slides from a to c, as far as it can in this direction: all cells on the way are empty, and the cell after c is taken or off the board
abbrev pub slides : List Cell → ℕ → ℕ → Bool
slides b a c = in_line a c && (fills Empty is_empty b (path a c) && fills Empty is_taken b (beyond a c))

-- ---- moves
-- whether a piece of the mover's slides from a to c
abbrev pub can_go : List Cell → ℕ → ℕ → Bool
can_go b a c = is_mine (cell_at b a) && slides b a c

-- whether the move with this number can be made
unfoldable pub can_move : List Cell → ℕ → Bool
can_move b m = can_go b (from_point m) (to_point m)

-- all numbers of moves are below this number
abbrev pub move_number_bound : ℕ
move_number_bound = 256

-- how the last move has ended the game, if it has: the mover loses if the opponent has a formation, which is tested first, and wins if a piece of the
-- mover's is trapped in a corner
unfoldable pub end_by_last_move : List Cell → Option End
end_by_last_move b = if has_formation is_theirs b then Some Lose else (if has_trapped b then Some Win else None)

-- a move, after which the roles swap
unfoldable pub play : List Cell → ℕ → List Cell
play b m = mover_gone b (from_point m) (to_point m)

-- ---- moves back
-- whether the move can have led to d: a piece of the opponent's is where it ended, and none where it began
unfoldable pub can_have_led_here : List Cell → ℕ → Bool
can_have_led_here d m = in_line (from_point m) (to_point m) && (is_theirs (cell_at d (to_point m)) && is_empty (cell_at d (from_point m)))

-- the board before the move with this number
unfoldable pub undo : List Cell → ℕ → List Cell
undo d m = brought_back d (from_point m) (to_point m)

-- ---- the game
-- the name, padded with zeros
abbrev pub dao_name : List ℕ
dao_name = codes "dao" ++ 0 ∷ 0 ∷ 0 ∷ 0 ∷ 0 ∷ 0 ∷ 0 ∷ 0 ∷ 0 ∷ 0 ∷ 0 ∷ 0 ∷ 0 ∷ []

-- the starting board: the mover's pieces are on one diagonal, the opponent's on the other
abbrev pub start_board : List Cell
start_board =
    Mine ∷ Empty ∷ Empty ∷ Theirs
    ∷ Empty ∷ Mine ∷ Theirs ∷ Empty
    ∷ Empty ∷ Theirs ∷ Mine ∷ Empty
    ∷ Theirs ∷ Empty ∷ Empty ∷ Mine ∷ []

-- the board with this index
abbrev pub board_at : ℕ → List Cell
board_at i = board_numbered 16 4 4 i

-- the least of the indexes of a board and its images
abbrev pub least_index_of : List Cell → ℕ
least_index_of b = least_index_under (square_symmetries 4) b

-- Dao: there is one tier, a player who can't move has lost, and the symmetries are the turns and reflections of the square
abbrev pub dao : MoveGame (List Cell) (List ℕ)
dao = record {
  name = dao_name;
  start = start_board;
  legal = legal;
  end_by_last_move = end_by_last_move;
  end_if_no_move = λ b. Lose;
  move_number_bound = λ t. move_number_bound;
  can_move = can_move;
  moved = play;
  can_have_led_here = λ t d m. can_have_led_here d m;
  undo = λ t d m. undo d m;
  symmetries = square_symmetries 4;
  image = λ g b. permute Empty g b;
  tier = λ b. 0;
  index = board_index;
  board = λ t i. board_at i;
  size = λ t. if t == 0 then arrangements 16 4 4 else 0;
  child_tiers = λ t. [];
  tier_rank = λ t. 0;
}

-- the rules of Dao's positions
abbrev pub dao_rules : Rules
dao_rules = move_rules dao
