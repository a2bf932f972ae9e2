-- Sums of ways, up and down.
use Rattle.std.proofs.Common.{◌≡◌, ℕ, zero, suc, ◌+◌, ◌-◌, ap, arith}
use Rattle.gm_stacks.specs.Heights.{sum_down, sum_up, stackings}

-- as many terms
as_many : (f : ℕ → ℕ) (m n : ℕ) → m ≡ n → sum_up f m ≡ sum_up f n
as_many f m n e = ap (sum_up f) e

-- one more term
pub one_more : (f : ℕ → ℕ) (n : ℕ) → sum_up f (n + 1) ≡ sum_up f n + f n
one_more f n = as_many f (n + 1) (suc n) (omega arith)

-- the terms from s down and those below them are all up to s
pub down_and_up : (f : ℕ → ℕ) (x s : ℕ) → sum_down f x s + sum_up f (s + 1 - x) ≡ sum_up f (s + 1)
down_and_up f zero s = let e = as_many f (s + 1 - 0) (s + 1) (omega arith) in omega (arith, e)
down_and_up f (suc x) zero = let e = as_many f (0 + 1 - suc x) 0 (omega arith) in omega (arith, e, one_more f 0)
down_and_up f (suc x) (suc s) =
    let e = as_many f (suc s + 1 - suc x) (s + 1 - x) (omega arith) in
    let d = as_many f (suc s) (s + 1) (omega arith) in
    omega (arith, e, d, down_and_up f x s, one_more f (suc s))

-- the ways for one more column: all on the others, but those that leave too many for the first
pub next_column : (h k s : ℕ) → stackings h (suc k) s + sum_up (stackings h k) (s - h) ≡ sum_up (stackings h k) (s + 1)
unfolding stackings
next_column h k s =
    let f = stackings h k in
    let e = as_many f (s - h) (s + 1 - suc h) (omega arith) in omega (arith, e, down_and_up f (suc h) s)

-- one column more, as far as n
pub next_sum : (h k n : ℕ) → sum_up (stackings h (suc k)) (n + 1) + sum_up (stackings h k) (n - h)
    ≡ sum_up (stackings h (suc k)) n + sum_up (stackings h k) (n + 1)
next_sum h k n = omega (arith, one_more (stackings h (suc k)) n, next_column h k n)

-- on no columns only no pieces can stand
pub no_column : (h n : ℕ) → sum_up (stackings h 0) (suc n) ≡ 1
unfolding stackings
no_column h zero = omega arith
no_column h (suc n) = omega (arith, no_column h n)
