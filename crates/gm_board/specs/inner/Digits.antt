-- Numbers in mixed radix, the first digit most significant.
use Rattle.std.proofs.Common.{ℕ, ◌+◌, ◌*◌, ◌/◌, ◌%◌, ◌<◌, List, [], ◌∷◌, length, get_or}

-- how many numbers there are: the product of the radices
abbrev pub radix_size : List ℕ → ℕ
radix_size [] = 1
radix_size (r ∷ rs) = r * radix_size rs

-- the number that has these digits: each digit counts as many times as there are numbers of the digits after it
abbrev pub digits_number : List ℕ → List ℕ → ℕ
digits_number [] ds = 0
digits_number (r ∷ rs) [] = 0
digits_number (r ∷ rs) (d ∷ ds) = d * radix_size rs + digits_number rs ds

-- the digits of a number
abbrev pub number_digits : List ℕ → ℕ → List ℕ
number_digits [] i = []
number_digits (r ∷ rs) i = i / radix_size rs ∷ number_digits rs (i % radix_size rs)

-- each digit is below its radix
abbrev pub AreBelow : List ℕ → List ℕ → Type 0
AreBelow rs ds = (k : ℕ) → k < length rs → get_or ds k 0 < get_or rs k 0
