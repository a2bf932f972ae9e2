-- The points of a move come back from its number, and its number from them.
use Rattle.std.specs.Prelude.{◌≡◌, ◌+◌, ◌*◌, ◌/◌, ◌%◌, ◌<◌}
use Rattle.std.proofs.Common.{ℕ, ap, ◌∙◌, arith}
use Rattle.std.proofs.lemmas.Nat.{div-mul-add, mod-mul-add}
use Rattle.gm_pieces.specs.Steps.{step_number, from_point, to_point}

in_order : (a b : ℕ) → 16 * a + b ≡ a * 16 + b
in_order a b = omega arith

-- the points come back from the number
pub from_back : (a b : ℕ) → b < 16 → from_point (step_number a b) ≡ a
unfolding from_point
from_back a b l = ap (λ (n : ℕ). n / 16) (in_order a b) ∙ div-mul-add a 16 b l

-- the point that the move goes to
pub to_back : (a b : ℕ) → b < 16 → to_point (step_number a b) ≡ b
unfolding to_point
to_back a b l = ap (λ (n : ℕ). n % 16) (in_order a b) ∙ mod-mul-add a 16 b l

-- the number comes back from the points
pub number_back : (m : ℕ) → step_number (from_point m) (to_point m) ≡ m
unfolding from_point to_point
number_back m = omega arith

-- moves between the same points are one
pub same_step : (m n : ℕ) → from_point m ≡ from_point n → to_point m ≡ to_point n → m ≡ n
same_step m n e f = omega (arith, e, f, number_back m, number_back n)

-- a move that leaves a point below n has a number below 16 times n
pub number_below : (m n : ℕ) → from_point m < n → m < 16 * n
unfolding from_point
number_below m n l = omega arith
