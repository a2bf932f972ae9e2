-- The squares of a chess board, from a1 to h8: a square is a number below 64, eight times its row plus its file.
use Rattle.std.specs.Prelude.{ℕ, ◌+◌, ◌-◌, ◌*◌, ◌/◌, ◌%◌, Bool, ◌&&◌, nat_lt, nat_le, List, [], ◌∷◌, slice_index}

-- a way is a number below 9: three times its step in rows, plus its step in files, with one added to each step; 4 is not a way
-- whether there is a next square on this way, and which
unfoldable pub goes_on_board : ℕ → ℕ → Bool
goes_on_board d s = nat_lt s 64 && (nat_le 1 (s / 8 + d / 3) && (nat_le (s / 8 + d / 3) 8 && (nat_le 1 (s % 8 + d % 3) && nat_le (s % 8 + d % 3) 8)))

unfoldable pub beside : ℕ → ℕ → ℕ
beside d s = 8 * (s / 8 + d / 3 - 1) + (s % 8 + d % 3 - 1)

-- the text of a square: the letter of its file, and the number of its rank
abbrev pub square_text : ℕ → List ℕ
square_text s = (97 + s % 8) ∷ (49 + s / 8) ∷ []

-- the square whose text is at a place
abbrev pub square_in : List ℕ → ℕ → ℕ
square_in t k = 8 * (slice_index t (k + 1) - 49) + (slice_index t k - 97)
