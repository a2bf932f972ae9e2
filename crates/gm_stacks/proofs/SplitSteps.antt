-- The steps of taking the heights of the middle columns and of the others one by one.
use Rattle.std.proofs.Common.{◌≡◌, ℕ, zero, suc, ◌+◌, ◌-◌, ◌/◌, ◌<◌, ◌≤◌, List, [], ◌∷◌, length, drop, get_or, sym, ap, ap₂, ◌∙◌, arith, inl, inr}
use Rattle.std.proofs.lemmas.Bool.{cases_lt}
use Rattle.std.proofs.lemmas.List.{drop_all, drop_more, length-drop}
use Rattle.gm_stacks.specs.Heights.{stackings, total, unrank_heights, side, all_heights}
use Rattle.gm_stacks.specs.laws.HeightRanks.{ranked}
use Rattle.gm_stacks.specs.laws.SplitRanks.{at_left, at_middle, at_right}

-- how many of the others are before a column
abbrev pub before : ℕ → ℕ → ℕ → ℕ
before w k c = c - (c - side w k) + (c - (side w k + k))

-- what is left of the heights of the middle columns and of the others from some column on
pub record AreLeft (w k c : ℕ) (ms os xs ys : List ℕ) : Type 0 where
  pub middle : xs ≡ drop (c - side w k) ms
  pub outer : ys ≡ drop (before w k c) os

-- from the first column on all are left
pub all_left : (w k : ℕ) (ms os : List ℕ) → AreLeft w k 0 ms os ms os
all_left w k ms os = record {
  middle = ap (λ (i : ℕ). drop i ms) (let z : 0 ≡ 0 - side w k = omega arith in z);
  outer = ap (λ (i : ℕ). drop i os) (let z : 0 ≡ before w k 0 = omega arith in z);
}

-- past the last column none is
pub none_left : (w k : ℕ) (ms os : List ℕ) → k ≤ w → length ms ≡ k → length os ≡ w - k → AreLeft w k w ms os [] []
none_left w k ms os wide m n = record {
  middle = sym (drop_all (w - side w k) ms (omega (arith, wide, m)));
  outer = sym (drop_all (before w k w) os (omega (arith, wide, n)));
}

same_head : (x y : ℕ) (xs ys : List ℕ) → x ∷ xs ≡ y ∷ ys → x ≡ y
same_head x y xs ys e = cc

same_tail : (x y : ℕ) (xs ys : List ℕ) → x ∷ xs ≡ y ∷ ys → xs ≡ ys
same_tail x y xs ys e = cc

-- a list with a first height has a column
some : (h j s r y : ℕ) (zs : List ℕ) → r < stackings h j s → unrank_heights h j s r ≡ y ∷ zs → 0 < j
some h j s r y zs i e = let n = (ranked h j s r i).columns in let q = ap length e in omega (arith, n, q)

-- a middle column
abbrev pub IsMiddle : ℕ → ℕ → ℕ → Type 0
IsMiddle w k c = (side w k ≤ c) × (c < side w k + k)

module _ (w k c : ℕ) (ms os : List ℕ) (wide : k ≤ w) (m : length ms ≡ k) (n : length os ≡ w - k) (l : c < w) where
  half_is : length os / 2 ≡ side w k
  half_is = ap (λ (x : ℕ). x / 2) n

  -- ---- a middle column has the next of their heights
  middle_next : IsMiddle w k c → drop (c - side w k) ms ≡ get_or (all_heights ms os) c 0 ∷ drop (c + 1 - side w k) ms
  middle_next d =
      let i = d.0 in
      let j = d.1 in
      drop_more ms (c - side w k) 0 (omega (arith, m, i, j))
      ∙ ap₂ (λ (x : ℕ) (xs : List ℕ). x ∷ xs)
      (sym (at_middle ms os c (omega (arith, half_is, i)) (omega (arith, half_is, m, j)) ∙ ap (λ (q : ℕ). get_or ms (c - q) 0) half_is))
      (ap (λ (q : ℕ). drop q ms) (let z : c - side w k + 1 ≡ c + 1 - side w k = omega (arith, i) in z))

  middle_same : IsMiddle w k c → before w k c ≡ before w k (c + 1)
  middle_same d = let i = d.0 in let j = d.1 in omega (arith, i, j)

  -- ---- another has the next of theirs
  outer_next : (IsMiddle w k c → ⊥) → drop (before w k c) os ≡ get_or (all_heights ms os) c 0 ∷ drop (before w k (c + 1)) os
  outer_next d = elim (cases_lt c (side w k)) [
    | inl i ↦
        ap (λ (q : ℕ). drop q os) (let z : before w k c ≡ c = omega (arith, i) in z)
        ∙ drop_more os c 0 (omega (arith, n, i, wide))
        ∙ ap₂ (λ (x : ℕ) (xs : List ℕ). x ∷ xs) (sym (at_left ms os c (omega (arith, half_is, i))))
        (ap (λ (q : ℕ). drop q os) (let z : c + 1 ≡ before w k (c + 1) = omega (arith, i) in z))
    | inr i ↦ elim (cases_lt c (side w k + k)) [
      | inl j ↦ absurd (d (i, j))
      | inr j ↦
          ap (λ (q : ℕ). drop q os) (let z : before w k c ≡ c - k = omega (arith, j) in z)
          ∙ drop_more os (c - k) 0 (omega (arith, n, j, l, wide))
          ∙ ap₂ (λ (x : ℕ) (xs : List ℕ). x ∷ xs)
          (sym (at_right ms os c (omega (arith, half_is, m, j)) ∙ ap (λ (q : ℕ). get_or os (c - q) 0) m))
          (ap (λ (q : ℕ). drop q os) (let z : c - k + 1 ≡ before w k (c + 1) = omega (arith, j) in z))
    ]
  ]

  outer_same : (IsMiddle w k c → ⊥) → drop (c - side w k) ms ≡ drop (c + 1 - side w k) ms
  outer_same d = elim (cases_lt c (side w k)) [
    | inl i ↦ ap (λ (q : ℕ). drop q ms) (let z : c - side w k ≡ c + 1 - side w k = omega (arith, i) in z)
    | inr i ↦ elim (cases_lt c (side w k + k)) [
      | inl j ↦ absurd (d (i, j))
      | inr j ↦ drop_all (c - side w k) ms (omega (arith, m, j)) ∙ sym (drop_all (c + 1 - side w k) ms (omega (arith, m, j)))
    ]
  ]

  -- ---- the heights of a column are taken
  module _ (xs ys : List ℕ) (a : AreLeft w k c ms os xs ys) where
    pub middle_taken : IsMiddle w k c → (x : ℕ) (zs : List ℕ) → xs ≡ x ∷ zs → AreLeft w k (c + 1) ms os zs ys × (get_or (all_heights ms os) c 0 ≡ x)
    middle_taken d x zs e =
        let both : get_or (all_heights ms os) c 0 ∷ drop (c + 1 - side w k) ms ≡ x ∷ zs = sym (middle_next d) ∙ sym a.middle ∙ e in (
          record { middle = sym (same_tail _ _ _ _ both); outer = a.outer ∙ ap (λ (q : ℕ). drop q os) (middle_same d) },
          same_head _ _ _ _ both,
        )

    pub outer_taken : (IsMiddle w k c → ⊥) → (x : ℕ) (zs : List ℕ) → ys ≡ x ∷ zs → AreLeft w k (c + 1) ms os xs zs × (get_or (all_heights ms os) c 0 ≡ x)
    outer_taken d x zs e =
        let both : get_or (all_heights ms os) c 0 ∷ drop (before w k (c + 1)) os ≡ x ∷ zs = sym (outer_next d) ∙ sym a.outer ∙ e in (
          record { middle = a.middle ∙ outer_same d; outer = sym (same_tail _ _ _ _ both) },
          same_head _ _ _ _ both,
        )

    -- there is one
    pub middle_some : IsMiddle w k c → (h j s r : ℕ) → r < stackings h j s → xs ≡ unrank_heights h j s r → 0 < j
    middle_some d h j s r i e = some h j s r _ _ i (sym e ∙ a.middle ∙ middle_next d)

    pub outer_some : (IsMiddle w k c → ⊥) → (h j s r : ℕ) → r < stackings h j s → ys ≡ unrank_heights h j s r → 0 < j
    outer_some d h j s r i e = some h j s r _ _ i (sym e ∙ a.outer ∙ outer_next d)

  -- ---- the heights of a column are put before others
  module _ (xs ys : List ℕ) (a : AreLeft w k (c + 1) ms os xs ys) (x : ℕ) (e : x ≡ get_or (all_heights ms os) c 0) where
    pub middle_put : IsMiddle w k c → AreLeft w k c ms os (x ∷ xs) ys
    middle_put d = record {
      middle = ap₂ (λ (y : ℕ) (zs : List ℕ). y ∷ zs) e a.middle ∙ sym (middle_next d);
      outer = a.outer ∙ ap (λ (q : ℕ). drop q os) (sym (middle_same d));
    }

    pub outer_put : (IsMiddle w k c → ⊥) → AreLeft w k c ms os xs (x ∷ ys)
    outer_put d = record {
      middle = a.middle ∙ sym (outer_same d);
      outer = ap₂ (λ (y : ℕ) (zs : List ℕ). y ∷ zs) e a.outer ∙ sym (outer_next d);
    }

-- ---- a part of a list has no more heights and pieces than the list
total_rest : (i : ℕ) (hs : List ℕ) → total (drop i hs) ≤ total hs
total_rest zero hs = omega arith
total_rest (suc i) [] = omega arith
total_rest (suc i) (x ∷ hs) = omega (arith, total_rest i hs)

pub part_few : (h j s r x i : ℕ) (zs : List ℕ) → r < stackings h j s → x ∷ unrank_heights h j s r ≡ drop i zs → (j < length zs) × (s + x ≤ total zs)
part_few h j s r x i zs l e =
    let is = ranked h j s r l in
    let a = is.columns in
    let b = is.all in
    let p = ap length e in
    let q = ap total e in
    let n = length-drop i zs in
    let t = total_rest i zs in
    (omega (arith, a, p, n), omega (arith, b, q, t))
