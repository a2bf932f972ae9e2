-- Lists of numbers in which no number stands twice.
use Rattle.gm_counters.proofs.Lower.{◌≡◌, ℕ, zero, suc, ◌<◌, ◌≤◌, inl, inr, List, [], ◌∷◌, ◌++◌, length, get_or, refl, sym, ap, subst, ◌∙◌, arith, Contains, get_or_append_left, cases_lt, cases_eq, IsPermutation, IsNonDecreasing, Contains-get_or, AreDistinct}
use Rattle.std.proofs.Common.{◌⊎◌, length-append}
use Rattle.std.specs.List.{range_with_len, swap}
use Rattle.std.proofs.Math.Seq.{get_or-append_seam}
use Rattle.std.proofs.lemmas.Grind.{get_or_default_zero}
use Rattle.std.proofs.lemmas.List.Edits.{length-swap, Swapped, swapped_from_swap}
use Rattle.std.proofs.lemmas.List.Sorted.{IsPermutation-keeps}
use Rattle.std.proofs.lemmas.List.FromFn.{length-range_with_len, get_or-range_with_len}
use Rattle.gm_game.proofs.Counts.{HasNoRepeats, no_longer}

pub distinct_none : AreDistinct []
distinct_none i j l m e = absurd (omega arith)

-- one more that is not there
pub distinct_push : (xs : List ℕ) (x : ℕ) → AreDistinct xs → (Contains xs x → ⊥) → AreDistinct (xs ++ x ∷ [])
distinct_push xs x d new i j l m e =
    let n = length-append xs (x ∷ []) in
    let last = get_or-append_seam xs x [] 0 in
    elim (cases_lt i (length xs)) [
      | inl a ↦ elim (cases_lt j (length xs)) [
        | inl b ↦ d i j a b (sym (get_or_append_left xs (x ∷ []) 0 i a) ∙ e ∙ get_or_append_left xs (x ∷ []) 0 j b)
        | inr b ↦ let z : j ≡ length xs = omega arith in
            let q : get_or xs i 0 ≡ x = sym (get_or_append_left xs (x ∷ []) 0 i a) ∙ e ∙ ap (λ (k : ℕ). get_or (xs ++ x ∷ []) k 0) z ∙ last in
            absurd (new (subst (Contains xs) q (Contains-get_or xs i 0 a)))
      ]
      | inr a ↦ elim (cases_lt j (length xs)) [
        | inl b ↦ let z : i ≡ length xs = omega arith in
            let q : get_or xs j 0 ≡ x = sym (get_or_append_left xs (x ∷ []) 0 j b) ∙ sym e ∙ ap (λ (k : ℕ). get_or (xs ++ x ∷ []) k 0) z ∙ last in
            absurd (new (subst (Contains xs) q (Contains-get_or xs j 0 b)))
        | inr b ↦ omega arith
      ]
    ]

-- numbers below n, one of which is not there, are fewer than n
no_repeats : (xs : List ℕ) → AreDistinct xs → HasNoRepeats xs
no_repeats [] d = tt
no_repeats (x ∷ xs) d = (
  λ h. (let m : h.0 < length xs = h.1 in let z : 0 ≡ suc h.0 = d 0 (suc h.0) (omega arith) (omega arith) (sym h.2 ∙ get_or_default_zero xs h.0 x m) in
      omega arith),
  no_repeats xs (λ i j l m e. let z : suc i ≡ suc j = d (suc i) (suc j) (omega arith) (omega arith) e in omega arith),
)

range_has : (n x : ℕ) → x < n → Contains (range_with_len 0 n) x
range_has n x l = let a = length-range_with_len 0 n in let b = get_or-range_with_len 0 n x x l in (x, omega arith, omega arith)

-- numbers below n are at most n
pub distinct_few : (n : ℕ) (xs : List ℕ) → AreDistinct xs → ((x : ℕ) → Contains xs x → x < n) → length xs ≤ n
distinct_few n xs d below =
    let a = length-range_with_len 0 n in
    let few : length xs ≤ length (range_with_len 0 n) = no_longer xs (range_with_len 0 n) (no_repeats xs d) (λ x h. range_has n x (below x h)) in
    omega arith

pub fewer_than : (n k : ℕ) (xs : List ℕ) → AreDistinct xs → ((x : ℕ) → Contains xs x → x < n) → k < n → (Contains xs k → ⊥) → length xs < n
fewer_than n k xs d below l new =
    let a = length-range_with_len 0 n in
    let few : length (k ∷ xs) ≤ length (range_with_len 0 n) =
    no_longer (k ∷ xs) (range_with_len 0 n) (new, no_repeats xs d) (λ x h. range_has n x (below_more x h)) in
    omega arith
  where
    below_more : (x : ℕ) → Contains (k ∷ xs) x → x < n
    below_more x (zero, m, e) = omega (arith, e)
    below_more x (suc i, m, e) = below x (i, omega arith, e)

-- which place of a list is at place k once the places i and j are exchanged
abbrev Exchanged : ℕ → ℕ → ℕ → ℕ → Type 0
Exchanged i j k o = ((k ≡ i) × (o ≡ j)) ⊎ (((k ≡ j) × (o ≡ i)) ⊎ ((k ≡ o) × (k ≡ i → ⊥) × (k ≡ j → ⊥)))

exchanged_once : (i j k l o : ℕ) → Exchanged i j k o → Exchanged i j l o → k ≡ l
exchanged_once i j k l o (inl a) (inl b) = a.0 ∙ sym b.0
exchanged_once i j k l o (inl a) (inr (inl b)) = (let x = a.0 in let y = a.1 in let z = b.0 in let w = b.1 in omega arith)
exchanged_once i j k l o (inl a) (inr (inr b)) = absurd (b.2 (b.0 ∙ a.1))
exchanged_once i j k l o (inr (inl a)) (inl b) = (let x = a.0 in let y = a.1 in let z = b.0 in let w = b.1 in omega arith)
exchanged_once i j k l o (inr (inl a)) (inr (inl b)) = a.0 ∙ sym b.0
exchanged_once i j k l o (inr (inl a)) (inr (inr b)) = absurd (b.1 (b.0 ∙ a.1))
exchanged_once i j k l o (inr (inr a)) (inl b) = absurd (a.2 (a.0 ∙ b.1))
exchanged_once i j k l o (inr (inr a)) (inr (inl b)) = absurd (a.1 (a.0 ∙ b.1))
exchanged_once i j k l o (inr (inr a)) (inr (inr b)) = a.0 ∙ sym b.0

exchanged_at : (xs ys : List ℕ) (i j : ℕ) → i < length xs → j < length xs → Swapped (λ k. get_or xs k 0) (λ k. get_or ys k 0) i j → (k : ℕ) → k < length xs
    → (o : ℕ) × (o < length xs) × (get_or ys k 0 ≡ get_or xs o 0) × Exchanged i j k o
exchanged_at xs ys i j l m s k h = elim (cases_eq k i) [
  | inl e ↦ (j, m, ap (λ (x : ℕ). get_or ys x 0) e ∙ s.0, inl (e, refl))
  | inr n ↦ elim (cases_eq k j) [
    | inl e ↦ (i, l, ap (λ (x : ℕ). get_or ys x 0) e ∙ s.1, inr (inl (e, refl)))
    | inr q ↦ (k, h, s.2 k n q, inr (inr (refl, n, q)))
  ]
]

-- in another order
distinct_swap : (xs : List ℕ) (i j : ℕ) → i < length xs → j < length xs → AreDistinct xs → AreDistinct (swap xs i j)
distinct_swap xs i j l m d a b p q e =
    let n = length-swap xs i j in
    let s = swapped_from_swap xs (swap xs i j) i j 0 l m refl in
    let x = exchanged_at xs (swap xs i j) i j l m s a (omega arith) in
    let y = exchanged_at xs (swap xs i j) i j l m s b (omega arith) in
    let o : x.0 ≡ y.0 = d x.0 y.0 x.1 y.1 (sym x.2 ∙ e ∙ y.2) in
    exchanged_once i j a b y.0 (subst (Exchanged i j a) o x.3) y.3

pub distinct_permuted : (xs ys : List ℕ) → IsPermutation xs ys → AreDistinct xs → AreDistinct ys
distinct_permuted xs ys p d = IsPermutation-keeps xs AreDistinct d (λ l i j a b h. distinct_swap l i j a b h) ys p

-- and ascending
pub distinct_ascending : (xs : List ℕ) → AreDistinct xs → IsNonDecreasing xs → (i j : ℕ) → i < j → j < length xs → get_or xs i 0 < get_or xs j 0
distinct_ascending xs d up i j l m =
    let le = up i j 0 (omega arith) m in
    elim (cases_eq (get_or xs i 0) (get_or xs j 0)) [
      | inl e ↦ absurd (let z : i ≡ j = d i j (omega arith) m e in omega arith)
      | inr n ↦ omega arith
    ]
