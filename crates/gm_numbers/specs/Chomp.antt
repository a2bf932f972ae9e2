-- The rules of Chomp on a bar of 4 rows of 7 squares. A board is the number whose digits are the lengths of the rows, of radix 8, the top row's first. Rows, columns
-- and squares are counted from 0 here, and from 1 in texts: square 7*r + c is in row r and column c.
use Rattle.std.specs.Prelude.{ℕ, ◌+◌, ◌*◌, ◌/◌, ◌%◌, min, Bool, ◌&&◌, ◌==◌, nat_le, nat_lt, List, [], ◌∷◌, ◌++◌, codes, None, if◌then◌else◌}
use Rattle.std.specs.List.{range_with_len}
use Rattle.gm_game.specs.declared.position.End.TheVariants.{Win}
use Rattle.gm_game.specs.declared.position.Position.{Position}
use Rattle.gm_game.specs.Rules.{Rules}
use Rattle.gm_pieces.specs.MoveGames.{MoveGame, move_rules}
use Rattle.gm_numbers.specs.Digits.{digit, four_text, digit_in, pair_text}

-- ---- the bar
-- the weight of a row's digit
unfoldable pub weight : ℕ → ℕ
weight row = if row == 0 then 512 else (if row == 1 then 64 else (if row == 2 then 8 else 1))

-- how many squares a row has
unfoldable pub row_of : ℕ → ℕ → ℕ
row_of b row = digit (weight row) 8 b

-- no row is longer than the one above it
unfoldable pub legal : ℕ → Bool
legal b = nat_lt b 4096 && (nat_le (row_of b 1) (row_of b 0) && (nat_le (row_of b 2) (row_of b 1) && nat_le (row_of b 3) (row_of b 2)))

-- whether a square is there
unfoldable pub has_square : ℕ → ℕ → Bool
has_square b k = nat_lt (k % 7) (row_of b (k / 7))

-- how many squares of a row are left after a bite at a square: those to the right of it and below it are gone too
unfoldable pub left_of : ℕ → ℕ → ℕ → ℕ
left_of b k row = if nat_lt row (k / 7) then row_of b row else min (row_of b row) (k % 7)

-- the bar after a bite at a square
unfoldable pub bitten : ℕ → ℕ → ℕ
bitten b k = 512 * left_of b k 0 + 64 * left_of b k 1 + 8 * left_of b k 2 + left_of b k 3

-- ---- moves
-- The bar after a bite does not tell how long the lower rows were. So the number of a move has the rows below the first too: it is 28 times the number of their
-- three digits, and the square. The length of the first row is the tier.
unfoldable pub can_move : ℕ → ℕ → Bool
can_move b m = m / 28 == b % 512 && has_square b (m % 28)

unfoldable pub moved : ℕ → ℕ → ℕ
moved b m = bitten b (m % 28)

-- the bar of a tier from which the move with this number was made
abbrev pub undo : ℕ → ℕ → ℕ
undo t m = 512 * t + m / 28

unfoldable pub can_have_led_here : ℕ → ℕ → ℕ → Bool
can_have_led_here t d m = nat_lt t 8 && (legal (undo t m) && (has_square (undo t m) (m % 28) && bitten (undo t m) (m % 28) == d))

-- ---- tiers
unfoldable pub size_at : ℕ → ℕ
size_at t = if nat_lt t 8 then 512 else 0

-- a bite in the first row leads to a tier of a shorter one
unfoldable pub child_tiers_of : ℕ → List ℕ
child_tiers_of t = if nat_lt t 8 then range_with_len 0 t else []

-- ---- texts
unfoldable pub board_text : ℕ → List ℕ
board_text b = four_text (row_of b 0) (row_of b 1) (row_of b 2) (row_of b 3)

unfoldable pub number_in : List ℕ → ℕ
number_in text = digit_in text 0 * 512 + digit_in text 2 * 64 + digit_in text 4 * 8 + digit_in text 6

-- the row and the column of the square
unfoldable pub step_text : ℕ → List ℕ
step_text m = pair_text (m % 28 / 7 + 1) (m % 28 % 7 + 1)

-- ---- the game
abbrev pub chomp_name : List ℕ
chomp_name = codes "chomp" ++ 0 ∷ 0 ∷ 0 ∷ 0 ∷ 0 ∷ 0 ∷ 0 ∷ 0 ∷ 0 ∷ 0 ∷ 0 ∷ []

-- Chomp: whoever takes the last square, at the upper left, loses, so that a player who can't move wins
abbrev pub chomp : MoveGame ℕ ℕ
chomp = record {
  name = chomp_name;
  start = 4095;
  legal = legal;
  end_by_last_move = λ b. None;
  end_if_no_move = λ b. Win;
  move_number_bound = λ t. 14336;
  can_move = can_move;
  moved = moved;
  can_have_led_here = can_have_led_here;
  undo = λ t d m. undo t m;
  symmetries = 0 ∷ [];
  image = λ x b. b;
  tier = λ b. b / 512;
  index = λ b. b % 512;
  board = λ t i. 512 * t + i;
  size = size_at;
  child_tiers = child_tiers_of;
  tier_rank = λ t. t;
}

abbrev pub chomp_rules : Rules
chomp_rules = move_rules chomp

abbrev pub chomp_text : Position → List ℕ
chomp_text p = board_text (512 * p.tier + p.index)

abbrev pub chomp_move : Position → ℕ → List ℕ
chomp_move p m = step_text m
