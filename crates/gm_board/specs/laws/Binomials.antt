-- What follows from the definitions of specs/Binomials.antt.
use Rattle.std.proofs.Math.Pow.{pow_mono}
use Rattle.std.proofs.Common.{◌≡◌, ℕ, zero, suc, ◌+◌, ◌^◌, ◌<◌, ◌≤◌, refl, arith, pow_pos, pow-suc}
use Rattle.gm_board.specs.Binomials.{binomial}

-- exactly one subset is empty
pub binomial_zero : (n : ℕ) → binomial n zero ≡ 1
unfolding binomial
binomial_zero zero = refl
binomial_zero (suc n) = refl

-- the empty set has no subset but itself
pub binomial_none : (k : ℕ) → binomial zero (suc k) ≡ 0
unfolding binomial
binomial_none k = refl

-- the rule of Pascal's triangle
pub pascal : (n k : ℕ) → binomial (suc n) (suc k) ≡ binomial n k + binomial n (suc k)
unfolding binomial
pascal n k = refl

-- a larger set has at least as many subsets
pub binomial_grows : (n k : ℕ) → binomial n k ≤ binomial (suc n) k
binomial_grows n zero = omega (arith, binomial_zero n, binomial_zero (suc n))
binomial_grows n (suc k) = omega (arith, pascal n k)

-- no subset is larger than its set
pub binomial_past : (n k : ℕ) → n < k → binomial n k ≡ 0
binomial_past n zero l = absurd (omega arith)
binomial_past zero (suc k) l = binomial_none k
binomial_past (suc n) (suc k) l = omega (arith, pascal n k, binomial_past n k (omega arith), binomial_past n (suc k) (omega arith))

-- two neighbours in a row add up to at most a power of two
binomial_neighbours : (n k : ℕ) → binomial n k + binomial n (suc k) ≤ 2 ^ n
binomial_neighbours zero zero = omega (arith, binomial_zero 0, binomial_none 0)
binomial_neighbours zero (suc k) = omega (arith, binomial_none k, binomial_none (suc k))
binomial_neighbours (suc n) zero =
    omega (arith, binomial_zero (suc n), binomial_zero n, pascal n 0, binomial_neighbours n 0, pow_pos n, pow-suc 2 n)
binomial_neighbours (suc n) (suc k) =
    omega (arith, pascal n k, pascal n (suc k), binomial_neighbours n k, binomial_neighbours n (suc k), pow-suc 2 n)

-- the binomial coefficients of sets of up to 32 elements fit 32 bits
pub binomial_small : (n k : ℕ) → n ≤ 32 → binomial n k < 2 ^ 32
binomial_small zero zero l = omega (arith, binomial_zero 0)
binomial_small zero (suc k) l = omega (arith, binomial_none k)
binomial_small (suc n) zero l = omega (arith, binomial_zero (suc n))
binomial_small (suc n) (suc k) l =
    let h : n ≤ 31 = omega arith in
    let p : 2 ^ n ≤ 2 ^ 31 = pow_mono h in
    omega (arith, pascal n k, binomial_neighbours n k, p)
