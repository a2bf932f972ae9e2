-- Numbers of four digits of mixed radix, and the texts of their digits.
use Rattle.std.specs.Prelude.{ℕ, ◌+◌, ◌-◌, ◌/◌, ◌%◌, List, [], ◌∷◌, slice_index}

-- the digit of a number with this weight and this radix
abbrev pub digit : ℕ → ℕ → ℕ → ℕ
digit weight radix n = n / weight % radix

-- the text of four digits, with spaces between them
abbrev pub four_text : ℕ → ℕ → ℕ → ℕ → List ℕ
four_text a b c d = (48 + a) ∷ 32 ∷ (48 + b) ∷ 32 ∷ (48 + c) ∷ 32 ∷ (48 + d) ∷ []

-- the digit whose byte a text has at this place, or some number if the byte is no digit
abbrev pub digit_in : List ℕ → ℕ → ℕ
digit_in text place = slice_index text place - 48

-- the text of two numbers of one digit, with `-` between them
abbrev pub pair_text : ℕ → ℕ → List ℕ
pair_text a b = (48 + a) ∷ 45 ∷ (48 + b) ∷ []
