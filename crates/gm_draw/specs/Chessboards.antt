-- The board of chess: sixty-four squares, light and dark. A position's text has a word for each man, its letter and the name of its square, and each of
-- these words is followed by a space.
use Rattle.std.specs.Prelude.{ℕ, ◌+◌, ◌-◌, ◌/◌, ◌%◌, Bool, ◌&&◌, ◌==◌, List, [], ◌∷◌, map, codes, if◌then◌else◌}
use Rattle.std.specs.List.{range_with_len}
use Rattle.gm_draw.specs.Templates.{is_slot, spread}

-- the names of the squares, from the eighth rank down, each rank from left to right
abbrev pub square_name : ℕ → List ℕ
square_name k = (97 + k % 8) ∷ (56 - k / 8) ∷ []

unfoldable pub chess_points : List (List ℕ)
chess_points = map square_name (range_with_len 0 64)

-- the board, with a slot for each square
unfoldable pub chess_board : List ℕ
chess_board =
    codes "    a b c d e f g h\n8   A A A A A A A A\n7   A A A A A A A A\n6   A A A A A A A A\n5   A A A A A A A A\n4   A A A A A A A A\n3   A A A A A A A A\n2   A A A A A A A A\n1   A A A A A A A A"

-- the letter of the file and the digit of the rank of the square at a point of the board's diagram
abbrev pub file_at : ℕ → ℕ
file_at x = 94 + x / 40

abbrev pub rank_at : ℕ → ℕ
rank_at y = 58 - y / 40

-- whether the square at a point is dark
abbrev pub is_dark : ℕ → ℕ → Bool
is_dark x y = (x / 40 + y / 40) % 2 == 0

-- the letter of the man on the square of a file and a rank, by a position's text; 0 if there is none
unfoldable pub man_on : ℕ → ℕ → List ℕ → ℕ
man_on file rank [] = 0
man_on file rank (a ∷ []) = 0
man_on file rank (a ∷ b ∷ []) = 0
man_on file rank (a ∷ b ∷ c ∷ []) = 0
man_on file rank (man ∷ f ∷ r ∷ space ∷ rest) = if f == file && r == rank then man else man_on file rank rest

-- the letter of the man on the square at a point
abbrev pub man_at : List ℕ → ℕ → ℕ → ℕ
man_at text x y = man_on (file_at x) (rank_at y) text

-- the byte of a square's drawing: its man, or `.` on a light square and `:` on a dark one
abbrev pub square_byte : ℕ → Bool → ℕ
square_byte man dark = if man == 0 then (if dark then 58 else 46) else man

-- the byte of a drawing for a byte of the board at a point
abbrev pub chess_byte : List ℕ → ℕ → ℕ → ℕ → List ℕ
chess_byte text x y b = (if is_slot b then square_byte (man_at text x y) (is_dark x y) else b) ∷ []

-- the board with the men of a position's text
unfoldable pub chess_drawing : List ℕ → List ℕ
chess_drawing text = spread (chess_byte text) 40 40 chess_board
