-- How many numbers below a bound pass a test, by blocks of numbers.
use Rattle.std.proofs.Common.{◌≡◌, ℕ, zero, suc, ◌+◌, ◌*◌, ◌<◌, ◌≤◌, Bool, true, false, List, [], ◌∷◌, length, ap, ◌∙◌, arith, inl, inr}
use Rattle.std.proofs.lemmas.Bool.{cases_Bool}
use Rattle.std.specs.List.{filter, range_with_len}
use Rattle.gm_pieces.specs.Common.{filter_in, filter_out, length-append}

-- how many numbers below n pass a test
abbrev pub count : (ℕ → Bool) → ℕ → ℕ
count p n = length (filter p (range_with_len 0 n))

one_more : (p : ℕ → Bool) (n : ℕ) → p n ≡ true → count p (n + 1) ≡ count p n + 1
one_more p n e = ap (λ (xs : List ℕ). length xs) (filter_in p n e) ∙ length-append (filter p (range_with_len 0 n)) (n ∷ [])

no_more : (p : ℕ → Bool) (n : ℕ) → p n ≡ false → count p (n + 1) ≡ count p n
no_more p n e = ap (λ (xs : List ℕ). length xs) (filter_out p n e)

-- the next number of a block
next : (p : ℕ → Bool) (a k : ℕ) → count p (a + suc k) ≡ count p (a + k + 1)
next p a k = ap (count p) (let e : a + suc k ≡ a + k + 1 = omega arith in e)

-- none of the next k numbers passes
pub none_in : (p : ℕ → Bool) (a k : ℕ) → ((i : ℕ) → i < k → p (a + i) ≡ false) → count p (a + k) ≡ count p a
none_in p a zero h = ap (count p) (let e : a + zero ≡ a = omega arith in e)
none_in p a (suc k) h = next p a k ∙ no_more p (a + k) (h k (omega arith)) ∙ none_in p a k (λ i l. h i (omega arith))

-- at most one of the next k numbers passes
abbrev pub IsLone : (ℕ → Bool) → ℕ → ℕ → Type 0
IsLone p a k = (i j : ℕ) → i < k → j < k → p (a + i) ≡ true → p (a + j) ≡ true → i ≡ j

pub one_in : (p : ℕ → Bool) (a k : ℕ) → IsLone p a k → count p (a + k) ≤ count p a + 1
one_in p a zero h = let e = ap (count p) (let z : a + zero ≡ a = omega arith in z) in omega (arith, e)
one_in p a (suc k) h = elim (cases_Bool (p (a + k))) [
  | inl e ↦
      let others : (i : ℕ) → i < k → p (a + i) ≡ false = λ i l. elim (cases_Bool (p (a + i))) [
        | inl f ↦ absurd (let z : i ≡ k = h i k (omega arith) (omega arith) f e in omega (arith, z, l))
        | inr f ↦ f
      ] in
      let n = none_in p a k others in
      let m = next p a k ∙ one_more p (a + k) e in
      omega (arith, n, m)
  | inr e ↦
      let n = one_in p a k (λ i j l m f g. h i j (omega arith) (omega arith) f g) in
      let m = next p a k ∙ no_more p (a + k) e in
      omega (arith, n, m)
]

-- if at most one number of each block of w passes, and none of a block whose number fails another test, no more pass than blocks pass the other test
pub blocks : (p q : ℕ → Bool) (w n : ℕ) → ((r : ℕ) → q r ≡ false → (i : ℕ) → i < w → p (w * r + i) ≡ false) → ((r : ℕ) → IsLone p (w * r) w)
    → count p (w * n) ≤ count q n
blocks p q w zero out lone = let e = ap (count p) (let z : w * zero ≡ 0 = omega arith in z) in omega (arith, e)
blocks p q w (suc n) out lone =
    let e = ap (count p) (let z : w * suc n ≡ w * n + w = omega arith in z) in
    let f = ap (count q) (let z : suc n ≡ n + 1 = omega arith in z) in
    let b = blocks p q w n out lone in
    elim (cases_Bool (q n)) [
      | inl t ↦ let a = one_in p (w * n) w (lone n) in let c = one_more q n t in omega (arith, a, b, c, e, f)
      | inr t ↦ let a = none_in p (w * n) w (out n t) in let c = no_more q n t in omega (arith, a, b, c, e, f)
    ]
