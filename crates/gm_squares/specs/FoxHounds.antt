-- The rules of Fox and Hounds on the 32 dark squares of a chess board: four hounds, which only go forwards, hunt a fox.
use Rattle.std.specs.Prelude.{ℕ, zero, suc, ◌+◌, ◌*◌, ◌/◌, ◌%◌, ◌^◌, Bool, true, false, not, ◌&&◌, ◌||◌, ◌==◌, nat_lt, nat_le, bit_xor, count_ones, List, [], ◌∷◌, ◌++◌, codes, slice_index, Option, None, Some, if◌then◌else◌}
use Rattle.std.specs.Int.{trailing_zeros, w32}
use Rattle.std.specs.List.{flat_map}
use Rattle.gm_game.specs.declared.position.End.{End}
use Rattle.gm_game.specs.declared.position.End.TheVariants.{Lose, Win}
use Rattle.gm_game.specs.Rules.{Rules}
use Rattle.gm_board.specs.Arrangements.{arrangement_index}
use Rattle.gm_board.specs.Masks.{has_cell}
use Rattle.gm_board.specs.Pieces.{cells_of, mine_mask, their_mask}
use Rattle.gm_pieces.specs.MoveGames.{MoveGame, move_rules}
use Rattle.gm_squares.specs.Squares.{goes_on_board, beside, square_text, square_in}
use Rattle.gm_squares.specs.declared.chase.Chase.{Chase}

-- the dark squares are numbered from 0, four in a row, from a1 to h8; a dark square as one of the chess board
abbrev pub dark : ℕ → ℕ
dark s = 2 * s + s / 4 % 2

-- ---- boards
-- whether a man of a side is on a square: a hound, or else the fox
abbrev pub has_man : Bool → Chase → ℕ → Bool
has_man hounds b k = if hounds then has_cell b.hounds k else (k == b.fox)

-- a legal board has four hounds, and the fox on a square without a hound
unfoldable pub legal : Chase → Bool
legal b = nat_lt b.hounds (2 ^ 32) && (count_ones b.hounds == 4 && (nat_lt b.fox 32 && not (has_man true b b.fox)))

-- ---- moves: the number of a move is four times the square that the man leaves, plus 0 or 1 if it goes backwards to the left or right, 2 or 3 if forwards
unfoldable pub from_square : ℕ → ℕ
from_square m = m / 4

-- the way on the chess board: 0, 2, 6 or 8
unfoldable pub way : ℕ → ℕ
way m = m % 4 / 2 * 6 + m % 2 * 2

unfoldable pub to_square : ℕ → ℕ
to_square m = beside (way m) (dark (from_square m)) / 2

-- whether a move of a side stays on the board, and goes forwards if it is a hound's
abbrev pub leads : Bool → ℕ → Bool
leads hounds m = goes_on_board (way m) (dark (from_square m)) && (not hounds || nat_le 2 (m % 4))

-- whether a side has a man on a, and c is free
unfoldable pub can_go : Bool → Chase → ℕ → ℕ → Bool
can_go hounds b a c = has_man hounds b a && (not (has_man true b c) && not (has_man false b c))

-- the mask with one square more, or one less if it has this one
abbrev pub toggled : ℕ → ℕ → ℕ
toggled m k = bit_xor m (2 ^ k)

-- the board after a man of a side has gone from a to c; it is the other side's turn
abbrev pub gone : Bool → Chase → ℕ → ℕ → Chase
gone hounds b a c = record {
  hounds_move = not b.hounds_move;
  hounds = if hounds then toggled (toggled b.hounds a) c else b.hounds;
  fox = if hounds then b.fox else c;
}

-- a man of the side to move goes to a free square
unfoldable pub can_move : Chase → ℕ → Bool
can_move b m = leads b.hounds_move m && can_go b.hounds_move b (from_square m) (to_square m)

unfoldable pub moved : Chase → ℕ → Chase
moved b m = gone b.hounds_move b (from_square m) (to_square m)

-- a move is taken back by the same man, which goes from the square that the move leads to
unfoldable pub can_have_led_here : Chase → ℕ → Bool
can_have_led_here d m = leads (not d.hounds_move) m && can_go (not d.hounds_move) d (to_square m) (from_square m)

unfoldable pub undo : Chase → ℕ → Chase
undo d m = gone (not d.hounds_move) d (to_square m) (from_square m)

-- a fox that is past the hounds has won: the lowest hound's row is not below the fox's
unfoldable pub end_by_last_move : Chase → Option End
end_by_last_move b = if nat_le (b.fox / 4) (trailing_zeros w32 b.hounds / 4) then Some (if b.hounds_move then Lose else Win) else None

-- ---- indexes: twice the index of the arrangement of four hounds and the fox, and one if the hounds are to move
unfoldable pub index : Chase → ℕ
index b = 2 * arrangement_index (cells_of 32 b.hounds (2 ^ b.fox)) + (if b.hounds_move then 1 else 0)

unfoldable pub board : ℕ → Chase
board i = record { hounds_move = i % 2 == 1; hounds = mine_mask 32 4 1 (i / 2); fox = trailing_zeros w32 (their_mask 32 4 1 (i / 2)) }

-- ---- texts
-- the lowest n squares of a mask, ascending
unfoldable pub squares_of : ℕ → ℕ → List ℕ
squares_of zero m = []
squares_of (suc n) m = trailing_zeros w32 m ∷ squares_of n (toggled m (trailing_zeros w32 m))

-- the text of a hound's square, with a space before it
abbrev pub hound_text : ℕ → List ℕ
hound_text k = 32 ∷ 104 ∷ square_text (dark k)

abbrev pub side_char : Bool → ℕ
side_char hounds_move = if hounds_move then 104 else 102

-- the text of a board: `f` and the square of the fox, `h` and the square of each hound, `f` or `h` for the side to move
unfoldable pub board_text : Chase → List ℕ
board_text b = 102 ∷ square_text (dark b.fox) ++ flat_map hound_text (squares_of 4 b.hounds) ++ 32 ∷ side_char b.hounds_move ∷ []

-- the text of a move: its two squares with `-` between them
unfoldable pub step_text : ℕ → List ℕ
step_text m = square_text (dark (from_square m)) ++ 45 ∷ square_text (dark (to_square m))

-- the dark square at a place of a text, and the board with a text, if there is one
abbrev pub dark_in : List ℕ → ℕ → ℕ
dark_in t k = square_in t k / 2 % 32

unfoldable pub told : List ℕ → Chase
told t = record {
  hounds_move = slice_index t 20 == 104;
  hounds = toggled (toggled (toggled (toggled 0 (dark_in t 17)) (dark_in t 13)) (dark_in t 9)) (dark_in t 5);
  fox = dark_in t 1;
}

-- ---- the game
-- the hounds are on a1, c1, e1 and g1, and the fox, which moves first, is on d8
abbrev pub start : Chase
start = record { hounds_move = false; hounds = 15; fox = 29 }

-- Fox and Hounds: a fox that is past the hounds has won, which is tested first, and then a side that can't move has lost; there is one tier and no symmetry
abbrev pub fox_and_hounds : MoveGame Chase ℕ
fox_and_hounds = record {
  name = codes "foxhounds" ++ 0 ∷ 0 ∷ 0 ∷ 0 ∷ 0 ∷ 0 ∷ 0 ∷ [];
  start = start;
  legal = legal;
  end_by_last_move = end_by_last_move;
  end_if_no_move = λ b. Lose;
  move_number_bound = λ t. 128;
  can_move = can_move;
  moved = moved;
  can_have_led_here = λ t d m. can_have_led_here d m;
  undo = λ t d m. undo d m;
  symmetries = 0 ∷ [];
  image = λ x b. b;
  tier = λ b. 0;
  index = index;
  board = λ t i. board i;
  size = λ t. if t == 0 then 2013760 else 0;
  child_tiers = λ t. [];
  tier_rank = λ t. 0;
}

-- the rules of the positions of Fox and Hounds
abbrev pub foxhounds_rules : Rules
foxhounds_rules = move_rules fox_and_hounds
