-- How many numbers below a bound pass a test, as sums.
use Rattle.std.specs.Prelude.{◌≡◌, ◌+◌, ◌*◌, ◌/◌, ◌<◌, ◌≤◌, ◌∷◌}
use Rattle.gm_pieces.specs.Common.{ℕ, zero, suc, Bool, true, false, List, [], length, refl, sym, ap, ap₂, ◌∙◌, arith, inl, inr, cases_Bool, filter, filter_few, filter_in, filter_out, range_with_len, length-append, bit_weight}

-- what a function gives for the first n numbers
abbrev pub total : (ℕ → ℕ) → ℕ → ℕ
total f zero = 0
total f (suc n) = total f n + f n

pub total_same : (f g : ℕ → ℕ) (n : ℕ) → ((k : ℕ) → k < n → f k ≡ g k) → total f n ≡ total g n
total_same f g zero h = refl
total_same f g (suc n) h = ap₂ (λ (x y : ℕ). x + y) (total_same f g n (λ k l. h k (omega (arith, l)))) (h n (omega arith))

pub total_add : (f g : ℕ → ℕ) (n : ℕ) → total (λ k. f k + g k) n ≡ total f n + total g n
total_add f g zero = refl
total_add f g (suc n) = let i = total_add f g n in omega (arith, i)

total_le : (f g : ℕ → ℕ) (n : ℕ) → ((k : ℕ) → k < n → f k ≤ g k) → total f n ≤ total g n
total_le f g zero h = omega arith
total_le f g (suc n) h = omega (arith, total_le f g n (λ k l. h k (omega (arith, l))), h n (omega arith))

-- the first m numbers, and k more
total_split : (f : ℕ → ℕ) (m k : ℕ) → total f (m + k) ≡ total f m + total (λ i. f (m + i)) k
total_split f m zero = let e : m + 0 ≡ m = omega arith in rw e (omega arith)
total_split f m (suc k) = let e : m + suc k ≡ suc (m + k) = omega arith in rw e (omega (arith, total_split f m k))

-- numbers that pass, as a sum
pub passed : (p : ℕ → Bool) (n : ℕ) → length (filter p (range_with_len 0 n)) ≡ total (λ k. bit_weight (p k)) n
passed p zero = refl
passed p (suc n) =
    let i = passed p n in
    let own = ap (λ (k : ℕ). length (filter p (range_with_len 0 k))) (let f : suc n ≡ n + 1 = omega arith in f) in
    elim (cases_Bool (p n)) [
      | inl t ↦ (
          let x = ap (λ (xs : List ℕ). length xs) (filter_in p n t) ∙ length-append (filter p (range_with_len 0 n)) (n ∷ []) in
          let w : bit_weight (p n) ≡ 1 = rw t refl in
          omega (arith, i, own, x, w))
      | inr t ↦ (
          let x = ap (λ (xs : List ℕ). length xs) (filter_out p n t) in
          let w : bit_weight (p n) ≡ 0 = rw t refl in
          omega (arith, i, own, x, w))
    ]

-- tests that agree pass equally many numbers
pub same_number : (p q : ℕ → Bool) (n : ℕ) → ((k : ℕ) → k < n → p k ≡ q k) → length (filter p (range_with_len 0 n)) ≡ length (filter q (range_with_len 0 n))
same_number p q n h = passed p n ∙ total_same (λ k. bit_weight (p k)) (λ k. bit_weight (q k)) n (λ k l. ap bit_weight (h k l)) ∙ sym (passed q n)

-- the numbers from m on, by their distance from m
pub number_from : (p q : ℕ → Bool) (m k : ℕ) → ((i : ℕ) → i < k → q i ≡ p (m + i)) → length (filter p (range_with_len 0 (m + k))) ≡ length
    (filter p (range_with_len 0 m)) + length (filter q (range_with_len 0 k))
number_from p q m k h =
    let rest = total_same (λ i. bit_weight (q i)) (λ i. bit_weight (p (m + i))) k (λ i l. ap bit_weight (h i l)) in
    omega (arith, passed p (m + k), passed p m, passed q k, total_split (λ i. bit_weight (p i)) m k, rest)

-- no more of sixteen numbers pass
pub sixteen_most : (p : ℕ → Bool) → length (filter p (range_with_len 0 16)) ≤ 16
sixteen_most p = filter_few p (λ k. true) (λ k e. refl) (range_with_len 0 16)

weight_le : (x y : Bool) → (x ≡ true → y ≡ true) → bit_weight x ≤ bit_weight y
weight_le true y h = rw (h refl) (omega arith)
weight_le false y h = omega arith

blocks_sum : (p q : ℕ → Bool) (n : ℕ) → ((m : ℕ) → m < 16 * n → p m ≡ true → q (m / 16) ≡ true) → total (λ m. bit_weight (p m)) (16 * n) ≤ 16 * total
    (λ k. bit_weight (q k)) n
blocks_sum p q zero h = omega arith
blocks_sum p q (suc n) h =
    let e : 16 * suc n ≡ 16 * n + 16 = omega arith in
    let sixteen : total (λ i. bit_weight (q n)) 16 ≡ 16 * bit_weight (q n) = omega arith in
    let block =
    total_le (λ i. bit_weight (p (16 * n + i))) (λ i. bit_weight (q n)) 16
    (λ i l. weight_le (p (16 * n + i)) (q n) (λ t. ap q (let d : n ≡ (16 * n + i) / 16 = omega (arith, l) in d) ∙ h (16 * n + i) (omega (arith, l)) t)) in
    rw e (omega (arith, total_split (λ m. bit_weight (p m)) (16 * n) 16, block, sixteen, blocks_sum p q n (λ m l. h m (omega (arith, l)))))

-- at most sixteen numbers for each n that passes the second test
pub blocks_few : (p q : ℕ → Bool) (n : ℕ) → ((m : ℕ) → m < 16 * n → p m ≡ true → q (m / 16) ≡ true) → length (filter p (range_with_len 0 (16 * n))) ≤ 16 *
    length (filter q (range_with_len 0 n))
blocks_few p q n h = omega (arith, passed p (16 * n), passed q n, blocks_sum p q n h)
