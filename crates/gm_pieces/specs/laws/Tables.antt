-- Tests that computing shows to pass at all numbers below a bound.
use Rattle.std.specs.Prelude.{◌≡◌, ◌<◌}
use Rattle.std.proofs.Common.{ℕ, Bool, true, false, not, refl}
use Rattle.std.specs.List.{list_all, range_with_len}
use Rattle.gm_board.specs.laws.Lists.{contains_range}
use Rattle.gm_board.specs.laws.Permutations.{all_at}

-- one that passes at all numbers below n passes at each
pub at_below : (n : ℕ) (p : ℕ → Bool) → list_all p (range_with_len 0 n) ≡ true → (k : ℕ) → k < n → p k ≡ true
at_below n p e k l = all_at p (range_with_len 0 n) k e (contains_range n k l)

-- a test of two numbers, at all below n and m
abbrev pub at_all : ℕ → ℕ → (ℕ → ℕ → Bool) → Bool
at_all n m p = list_all (λ a. list_all (p a) (range_with_len 0 m)) (range_with_len 0 n)

-- one that passes at all of them passes at each two
pub at_each : (n m : ℕ) (p : ℕ → ℕ → Bool) → at_all n m p ≡ true → (a b : ℕ) → a < n → b < m → p a b ≡ true
at_each n m p e a b l k = at_below m (p a) (at_below n (λ x. list_all (p x) (range_with_len 0 m)) e a l) b k

-- two tests have the same answer
abbrev pub agree : Bool → Bool → Bool
agree true y = y
agree false y = not y

pub agree_same : (x y : Bool) → agree x y ≡ true → x ≡ y
agree_same true true e = refl
agree_same true false e = absurd (let z : ⊥ = cc in z)
agree_same false true e = absurd (let z : ⊥ = cc in z)
agree_same false false e = refl
