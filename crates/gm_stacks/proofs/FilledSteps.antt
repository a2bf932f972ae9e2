-- The steps of filling columns by the rank of their heights.
use Rattle.std.proofs.Common.{◌≡◌, ℕ, ◌+◌, ◌-◌, ◌*◌, ◌/◌, ◌%◌, ◌^◌, ◌<◌, ◌≤◌, ◌≢◌, Bool, false, ◌&&◌, ◌||◌, eqb, eq-eqb, ltb, lt-ltb, leb, le-leb, List, ◌∷◌, length, get_or, w32, sym, ap, ap₂, ◌∙◌, arith, inl, inr, mod-lt, pow_pos, mul-le-mul_right}
use Rattle.std.proofs.lemmas.Bool.{cases_eq, cases_lt, ne_eqb}
use Rattle.std.proofs.lemmas.Bool.Decides.{nat_tests}
use Rattle.std.proofs.lemmas.Nat.{div-mul-add, mod-mul-add, div-add-mod', or_lt}
use Rattle.std.proofs.lemmas.Nat.Bits.{bit_at_above, bit_at-zero, bit_at_set_same, bit_at_set_other}
use Rattle.std.specs.Prelude.{bit_or}
use Rattle.gm_board.specs.Masks.{has_cell}
use Rattle.gm_board.specs.laws.Arrangements.{pos_of_lt_mul}
use Rattle.gm_board.specs.laws.Lists.{and_false}
use Rattle.gm_board.specs.laws.MaskChanges.{with_within, has_or}
use Rattle.gm_stacks.specs.Heights.{stackings, split_stackings, unrank_heights, unrank_split, all_heights}
use Rattle.gm_stacks.specs.Stacks.{is_filled}
use Rattle.gm_stacks.specs.laws.HeightRanks.{ranked}
use Rattle.gm_stacks.specs.laws.SplitRanks.{middle_below, outer_below}
use Rattle.gm_stacks.proofs.ColumnSteps.{cell_within}
use Rattle.gm_stacks.proofs.SplitSteps.{AreLeft, IsMiddle, all_left, middle_taken, outer_taken, middle_some, outer_some}

not_below : (a b : ℕ) → b ≤ a → ltb a b ≡ false
not_below a b l = grind (arith, nat_tests)

not_le : (a b : ℕ) → b < a → leb a b ≡ false
not_le a b l = grind (arith, nat_tests)

-- ---- one column
-- whether a cell is in the column, among its lowest cells
abbrev pub is_low : ℕ → ℕ → ℕ → ℕ → ℕ → Bool
is_low w h column x k = eqb (k % w) column && leb h (k / w + x)

-- the mask has those above some row
pub record IsColumn (w h column x row mask : ℕ) : Type 0 where
  pub from : h ≤ row + x
  pub within : mask < 2 ^ (h * w)
  pub cells : (k : ℕ) → has_cell mask k ≡ (ltb k (row * w) && is_low w h column x k)

-- a cell above a row
row_below : (w row k : ℕ) → k < row * w → k / w < row
row_below w row k l = elim (cases_lt (k / w) row) [
  | inl h ↦ h
  | inr h ↦ absurd (let a : row * w ≤ k / w * w = mul-le-mul_right w h in let b = div-add-mod' k w in omega (arith, a, b, l))
]

-- no cell is taken yet
pub no_column : (w h column x : ℕ) → x ≤ h → IsColumn w h column x (h - x) 0
no_column w h column x l = record {
  from = omega arith;
  within = pow_pos (h * w);
  cells = λ k. ap (λ (v : ℕ). eqb v 1) (bit_at-zero k) ∙ sym (none k);
}
  where
    none : (k : ℕ) → (ltb k ((h - x) * w) && is_low w h column x k) ≡ false
    none k = elim (cases_lt k ((h - x) * w)) [
      | inl i ↦
          let r = row_below w (h - x) k i in
          ap (λ (b : Bool). ltb k ((h - x) * w) && (eqb (k % w) column && b)) (not_le h (k / w + x) (omega arith))
          ∙ ap (λ (b : Bool). ltb k ((h - x) * w) && b) (and_false (eqb (k % w) column)) ∙ and_false (ltb k ((h - x) * w))
      | inr i ↦ ap (λ (b : Bool). b && is_low w h column x k) (not_below k ((h - x) * w) i)
    ]

-- one row more
pub column_more : (w h column x row mask : ℕ) → IsColumn w h column x row mask → h * w ≤ 25 → row < h → column < w
    → IsColumn w h column x (row + 1) (bit_or mask (1 * 2 ^ (row * w + column) % 2 ^ 32))
column_more w h column x row mask c few l m =
    let cell = row * w + column in
    let inside = cell_within h w row column l m in
    let c32 : cell < 32 = omega (arith, inside, few) in
    record {
      from = omega (arith, c.from);
      within = with_within mask cell (h * w) c.within (omega (arith, few)) inside;
      cells = λ k. elim (cases_eq k cell) [
        | inl e ↦
            let low : cell < (row + 1) * w = omega (arith, m) in
            ap (has_cell (bit_or mask (1 * 2 ^ cell % 2 ^ 32))) e
            ∙ eq-eqb _ _ (bit_at_set_same w32 mask cell c32)
            ∙ sym (ap (λ (j : ℕ). ltb j ((row + 1) * w) && is_low w h column x j) e
            ∙ ap₂ (λ (a b : Bool). a && b) (lt-ltb cell ((row + 1) * w) low)
            (ap₂ (λ (a b : Bool). a && b) (eq-eqb _ _ (mod-mul-add row w column m))
            (ap (λ (i : ℕ). leb h (i + x)) (div-mul-add row w column m) ∙ le-leb h (row + x) c.from)))
        | inr e ↦ ap (λ (v : ℕ). eqb v 1) (bit_at_set_other w32 mask cell c32 k e) ∙ c.cells k ∙ same k e
      ];
    }
  where
    same : (k : ℕ) → k ≢ row * w + column → (ltb k (row * w) && is_low w h column x k) ≡ (ltb k ((row + 1) * w) && is_low w h column x k)
    same k e = elim (cases_lt k (row * w)) [
      | inl i ↦ ap (λ (b : Bool). b && is_low w h column x k) (lt-ltb k (row * w) i ∙ sym (lt-ltb k ((row + 1) * w) (omega (arith, i))))
      | inr i ↦ elim (cases_lt k ((row + 1) * w)) [
        | inl j ↦
            let r = row_below w (row + 1) k j in
            let above : (k / w) * w ≤ row * w = mul-le-mul_right w (let z : k / w ≤ row = omega (arith, r) in z) in
            let d = div-add-mod' k w in
            let pos = pos_of_lt_mul k (row + 1) w j in
            let p = mod-lt k pos in
            let out : k % w ≢ column = other k e i r d p in
            let none : is_low w h column x k ≡ false = ap (λ (b : Bool). b && leb h (k / w + x)) (ne_eqb (k % w) column out) in
            ap (λ (b : Bool). ltb k (row * w) && b) none ∙ and_false (ltb k (row * w))
            ∙ sym (ap (λ (b : Bool). ltb k ((row + 1) * w) && b) none ∙ and_false (ltb k ((row + 1) * w)))
        | inr j ↦ ap (λ (b : Bool). b && is_low w h column x k) (not_below k (row * w) i ∙ sym (not_below k ((row + 1) * w) j))
      ]
    ]
      where
        other : (k : ℕ) → k ≢ row * w + column → row * w ≤ k → k / w < row + 1 → k / w * w + k % w ≡ k → k % w < w → k % w ≢ column
        other k e i r d p q = elim (cases_lt (k / w) row) [
          | inl s ↦ let up : (k / w + 1) * w ≤ row * w = mul-le-mul_right w (let z : k / w + 1 ≤ row = omega (arith, s) in z) in omega (arith, up, i, d, p)
          | inr s ↦ let same : k / w ≡ row = omega (arith, r, s) in let z : k / w * w ≡ row * w = ap (λ (v : ℕ). v * w) same in e (omega (arith, z, d, q))
        ]

-- all rows are done
pub column_done : (w h column x row mask : ℕ) → IsColumn w h column x row mask → h ≤ row → (k : ℕ) → k < h * w → has_cell mask k ≡ is_low w h column x k
column_done w h column x row mask c l k i =
    let up : h * w ≤ row * w = mul-le-mul_right w l in
    c.cells k ∙ ap (λ (b : Bool). b && is_low w h column x k) (lt-ltb k (row * w) (omega (arith, i, up)))

-- ---- all columns
-- the heights of the middle columns, and of the others, by a rank
abbrev pub inner : ℕ → ℕ → ℕ → ℕ → ℕ → ℕ → List ℕ
inner w h k n m rank = unrank_heights h k m (rank / stackings h (w - k) n)

abbrev pub others : ℕ → ℕ → ℕ → ℕ → ℕ → ℕ → List ℕ
others w h k n m rank = unrank_heights h (w - k) n (rank % stackings h (w - k) n)

-- what holds when the columns before some column are filled, by the heights of a rank
pub record IsFilling (w h k n m rank c p q : ℕ) (xs ys : List ℕ) (taken : ℕ) : Type 0 where
  pub inner_rows : p ≡ h
  pub other_rows : q ≡ h
  pub left : AreLeft w k c (inner w h k n m rank) (others w h k n m rank) xs ys
  pub within : taken < 2 ^ (h * w)
  pub cells : (i : ℕ) → has_cell taken i ≡ (ltb i (h * w) && (ltb (i % w) c && is_filled w h (unrank_split h w k n m rank) i))

-- no column is filled yet
pub filling : (w h k n m rank p q : ℕ) (xs ys : List ℕ) → p ≡ h → q ≡ h → xs ≡ inner w h k n m rank → ys ≡ others w h k n m rank
    → IsFilling w h k n m rank 0 p q xs ys 0
filling w h k n m rank p q xs ys d e f g =
    let a = all_left w k (inner w h k n m rank) (others w h k n m rank) in
    record {
      inner_rows = d;
      other_rows = e;
      left = record { middle = f ∙ a.middle; outer = g ∙ a.outer };
      within = pow_pos (h * w);
      cells = λ i. ap (λ (v : ℕ). eqb v 1) (bit_at-zero i) ∙ sym (ap (λ (b : Bool). ltb i (h * w) && (b && is_filled w h (unrank_split h w k n m rank) i))
          (not_below (i % w) 0 (omega arith)) ∙ and_false (ltb i (h * w)));
    }

-- the tests of one more column
tests_more : (m c : ℕ) (a b : Bool) → (m ≡ c → a ≡ b) → ((ltb m c && a) || (eqb m c && b)) ≡ (ltb m (c + 1) && a)
tests_more m c a b e = elim (cases_lt m c) [
  | inl l ↦ grind (arith, nat_tests)
  | inr l ↦ elim (cases_eq m c) [
    | inl q ↦ let z = e q in grind (arith, nat_tests)
    | inr q ↦ grind (arith, nat_tests)
  ]
]

-- the cells of one more column
merged : (w h column x taken mask : ℕ) (hs : List ℕ) → ((k : ℕ) → has_cell taken k ≡ (ltb k (h * w) && (ltb (k % w) column && is_filled w h hs k)))
    → mask < 2 ^ (h * w) → ((k : ℕ) → k < h * w → has_cell mask k ≡ is_low w h column x k) → get_or hs column 0 ≡ x → (k : ℕ)
    → (has_cell taken k || has_cell mask k) ≡ (ltb k (h * w) && (ltb (k % w) (column + 1) && is_filled w h hs k))
merged w h column x taken mask hs c m s here k = elim (cases_lt k (h * w)) [
  | inl l ↦
      ap₂ (λ (a b : Bool). a || b) (c k ∙ ap (λ (b : Bool). b && (ltb (k % w) column && is_filled w h hs k)) (lt-ltb k (h * w) l)) (s k l)
      ∙ tests_more (k % w) column (is_filled w h hs k) (leb h (k / w + x))
      (λ q. ap (λ (v : ℕ). leb h (k / w + v)) (ap (λ (j : ℕ). get_or hs j 0) q ∙ here))
      ∙ sym (ap (λ (b : Bool). b && (ltb (k % w) (column + 1) && is_filled w h hs k)) (lt-ltb k (h * w) l))
  | inr l ↦
      ap₂ (λ (a b : Bool). a || b) (c k ∙ ap (λ (b : Bool). b && (ltb (k % w) column && is_filled w h hs k)) (not_below k (h * w) l))
      (ap (λ (v : ℕ). eqb v 1) (bit_at_above mask (h * w) k m l))
      ∙ sym (ap (λ (b : Bool). b && (ltb (k % w) (column + 1) && is_filled w h hs k)) (not_below k (h * w) l))
]

-- one column more
module _ (w h k n m rank c p q : ℕ) (xs ys : List ℕ) (taken : ℕ) (f : IsFilling w h k n m rank c p q xs ys taken) (wide : k ≤ w)
    (r : rank < split_stackings h w k n m) (l : c < w) where
  inner_long : length (inner w h k n m rank) ≡ k
  inner_long = (ranked h k m (rank / stackings h (w - k) n) (middle_below h w k n m wide rank r)).columns

  others_long : length (others w h k n m rank) ≡ w - k
  others_long = (ranked h (w - k) n (rank % stackings h (w - k) n) (outer_below h w k n m wide rank r)).columns

  -- there is a height for it
  pub inner_some : IsMiddle w k c → (j s i : ℕ) → i < stackings p j s → xs ≡ unrank_heights p j s i → 0 < j
  inner_some d j s i b e =
      middle_some w k c (inner w h k n m rank) (others w h k n m rank) wide inner_long others_long l xs ys f.left d p j s i b e

  pub others_some : (IsMiddle w k c → ⊥) → (j s i : ℕ) → i < stackings q j s → ys ≡ unrank_heights q j s i → 0 < j
  others_some d j s i b e =
      outer_some w k c (inner w h k n m rank) (others w h k n m rank) wide inner_long others_long l xs ys f.left d q j s i b e

  -- its cells are filled
  module _ (x mask : ℕ) (zs : List ℕ) (z : ℕ) (b : mask < 2 ^ (h * w)) (s : (i : ℕ) → i < h * w → has_cell mask i ≡ is_low w h c x i) where
    more : get_or (all_heights (inner w h k n m rank) (others w h k n m rank)) c 0 ≡ x → (i : ℕ)
        → has_cell (bit_or taken mask) i ≡ (ltb i (h * w) && (ltb (i % w) (c + 1) && is_filled w h (unrank_split h w k n m rank) i))
    unfolding unrank_split
    more here i = has_or taken mask i ∙ merged w h c x taken mask (unrank_split h w k n m rank) f.cells b s here i

    pub inner_filled : IsMiddle w k c → z ≡ p → xs ≡ x ∷ zs → IsFilling w h k n m rank (c + 1) z q zs ys (bit_or taken mask)
    inner_filled d e g =
        let t = middle_taken w k c (inner w h k n m rank) (others w h k n m rank) wide inner_long others_long l xs ys f.left d x zs g in
        record { inner_rows = e ∙ f.inner_rows; other_rows = f.other_rows; left = t.0; within = or_lt (h * w) taken mask f.within b; cells = more t.1 }

    pub others_filled : (IsMiddle w k c → ⊥) → z ≡ q → ys ≡ x ∷ zs → IsFilling w h k n m rank (c + 1) p z xs zs (bit_or taken mask)
    others_filled d e g =
        let t = outer_taken w k c (inner w h k n m rank) (others w h k n m rank) wide inner_long others_long l xs ys f.left d x zs g in
        record { inner_rows = f.inner_rows; other_rows = e ∙ f.other_rows; left = t.0; within = or_lt (h * w) taken mask f.within b; cells = more t.1 }

-- all columns are filled
pub fill_done : (w h k n m rank c p q : ℕ) (xs ys : List ℕ) (taken : ℕ) → IsFilling w h k n m rank c p q xs ys taken → w ≤ c → (i : ℕ) → i < h * w
    → has_cell taken i ≡ is_filled w h (unrank_split h w k n m rank) i
fill_done w h k n m rank c p q xs ys taken f l i j =
    let pos = pos_of_lt_mul i h w j in
    let b = mod-lt i pos in
    f.cells i ∙ ap₂ (λ (x y : Bool). x && (y && is_filled w h (unrank_split h w k n m rank) i)) (lt-ltb i (h * w) j)
    (lt-ltb (i % w) c (omega (arith, b, l)))
