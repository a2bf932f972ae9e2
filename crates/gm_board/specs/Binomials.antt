-- Binomial coefficients, and bounds on them.
use Rattle.std.proofs.Common.{ℕ, zero, suc, ◌+◌}

-- the number of subsets of k elements of a set of n elements
unfoldable pub binomial : ℕ → ℕ → ℕ
binomial n zero = 1
binomial zero (suc k) = 0
binomial (suc n) (suc k) = binomial n k + binomial n (suc k)
