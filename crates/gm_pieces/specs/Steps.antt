-- Moves from one point to another, by their numbers.
use Rattle.std.proofs.Common.{ℕ, ◌+◌, ◌*◌, ◌/◌, ◌%◌}

-- the number of the move from one point to another, of at most 16 points
abbrev pub step_number : ℕ → ℕ → ℕ
step_number a b = 16 * a + b

-- the point that a move leaves
unfoldable pub from_point : ℕ → ℕ
from_point m = m / 16

-- the point that a move goes to
unfoldable pub to_point : ℕ → ℕ
to_point m = m % 16
