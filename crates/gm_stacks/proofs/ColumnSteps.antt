-- The steps of counting, ranking and unranking the heights of columns.
use Rattle.std.proofs.Common.{◌≡◌, ℕ, suc, ◌+◌, ◌-◌, ◌*◌, ◌/◌, ◌^◌, ◌<◌, ◌≤◌, Bool, true, false, cond, List, [], ◌∷◌, length, get_or, refl, sym, ap, ap₂, ◌∙◌, subst, arith, mul-le-mul_right}
use Rattle.std.proofs.lemmas.Nat.Bits.{bit_at-lt, shr_and_one}
use Rattle.std.specs.Prelude.{bit_and}
use Rattle.gm_board.specs.Masks.{has_cell, bit_weight}
use Rattle.gm_board.specs.laws.Masks.{weight_bit}
use Rattle.gm_stacks.specs.Heights.{stackings, total, rank_heights, unrank_heights, rank_split, side, middle_heights, outer_heights, all_heights}
use Rattle.gm_stacks.specs.Stacks.{how_many, height_of, heights}
use Rattle.gm_stacks.specs.laws.Columns.{how_many_le, heights_length, heights_at, heights_total}
use Rattle.gm_stacks.specs.laws.HeightRanks.{ranked}
use Rattle.gm_stacks.specs.laws.SplitRanks.{middle_length, outer_length, all_back, total_parts}
use Rattle.gm_stacks.proofs.SplitSteps.{before, AreLeft, IsMiddle, none_left, middle_put, outer_put, part_few}

-- a cell of a row and a column is one of the board
pub cell_within : (h w r c : ℕ) → r < h → c < w → r * w + c < h * w
cell_within h w r c l k = let up : (r + 1) * w ≤ h * w = mul-le-mul_right w (let z : r + 1 ≤ h = omega arith in z) in omega (arith, up, k)

-- a bit is 0 or 1
pub bit_small : (m k : ℕ) → bit_and (m / 2 ^ k) 1 ≤ 1
bit_small m k = let e = shr_and_one m k in let l = bit_at-lt m k in omega (arith, e, l)

-- one row more
pub one_row : (p : ℕ → ℕ) (m n k : ℕ) → k ≡ n + 1 → how_many (λ r. has_cell m (p r)) k ≡ how_many (λ r. has_cell m (p r)) n + bit_and (m / 2 ^ p n) 1
one_row p m n k e =
    ap (how_many (λ r. has_cell m (p r))) (let z : k ≡ suc n = omega arith in z)
    ∙ (let b : bit_weight (has_cell m (p n)) ≡ bit_and (m / 2 ^ p n) 1 = weight_bit m (p n) ∙ sym (shr_and_one m (p n)) in omega (arith, b, weighed (has_cell m (p n))))
  where
    weighed : (x : Bool) → cond x 1 0 ≡ bit_weight x
    weighed true = refl
    weighed false = refl

-- what holds when the columns from some on are ranked
pub record IsRanking (w h k : ℕ) (p : ℕ → Bool) (c a b : ℕ) (xs ys : List ℕ) : Type 0 where
  pub middle_rows : a ≡ h
  pub outer_rows : b ≡ h
  pub left : AreLeft w k c (middle_heights k (heights w h p)) (outer_heights k (heights w h p)) xs ys

module _ (w h k : ℕ) (p : ℕ → Bool) (wide : k ≤ w) where
  abbrev hs : List ℕ
  hs = heights w h p

  abbrev ms : List ℕ
  ms = middle_heights k hs

  abbrev os : List ℕ
  os = outer_heights k hs

  inside : k ≤ length hs
  inside = let n = heights_length w h p in omega (arith, n, wide)

  ms_long : length ms ≡ k
  ms_long = middle_length k hs inside

  os_long : length os ≡ w - k
  os_long = outer_length k hs inside ∙ ap (λ (n : ℕ). n - k) (heights_length w h p)

  -- nothing is ranked yet
  pub ranking : (a b : ℕ) (xs ys : List ℕ) → a ≡ h → b ≡ h → xs ≡ [] → ys ≡ [] → IsRanking w h k p w a b xs ys
  ranking a b xs ys d e f g =
      let z = none_left w k ms os wide ms_long os_long in
      record { middle_rows = d; outer_rows = e; left = record { middle = f ∙ z.middle; outer = g ∙ z.outer } }

  -- one column more
  module _ (c a b : ℕ) (xs ys : List ℕ) (r : IsRanking w h k p c a b xs ys) (low : 0 < c) (high : c ≤ w) (x : ℕ) (e : x ≡ height_of w h p (c - 1)) where
    column : c - 1 < w
    column = omega (arith, low, high)

    now : AreLeft w k (c - 1 + 1) ms os xs ys
    now = subst (λ (v : ℕ). AreLeft w k v ms os xs ys) (let z : c ≡ c - 1 + 1 = omega (arith, low) in z) r.left

    here : x ≡ get_or (all_heights ms os) (c - 1) 0
    here = e ∙ sym (heights_at w h p (c - 1) column) ∙ ap (λ (zs : List ℕ). get_or zs (c - 1) 0) (sym (all_back k hs inside))

    few : total ms + total os ≤ h * w
    few = let t = total_parts k hs inside in let s = heights_total w h p in let n = how_many_le p (h * w) in omega (arith, t, s, n)

    pub middle_ranked : IsMiddle w k (c - 1) → (z : ℕ) (zs : List ℕ) → z ≡ a → zs ≡ x ∷ xs → IsRanking w h k p (c - 1) z b zs ys
    middle_ranked d z zs f g =
        let t = middle_put w k (c - 1) ms os wide ms_long os_long column xs ys now x here d in
        record { middle_rows = f ∙ r.middle_rows; outer_rows = r.outer_rows; left = record { middle = g ∙ t.middle; outer = t.outer } }

    pub outer_ranked : (IsMiddle w k (c - 1) → ⊥) → (z : ℕ) (zs : List ℕ) → z ≡ b → zs ≡ x ∷ ys → IsRanking w h k p (c - 1) a z xs zs
    outer_ranked d z zs f g =
        let t = outer_put w k (c - 1) ms os wide ms_long os_long column xs ys now x here d in
        record { middle_rows = r.middle_rows; outer_rows = f ∙ r.outer_rows; left = record { middle = t.middle; outer = g ∙ t.outer } }

    -- there are fewer columns than the board has, and no more pieces than cells
    pub middle_few : IsMiddle w k (c - 1) → (j s i : ℕ) → i < stackings a j s → xs ≡ unrank_heights a j s i → (j < w) × (s + x ≤ h * w)
    middle_few d j s i l f =
        let t = middle_put w k (c - 1) ms os wide ms_long os_long column xs ys now x here d in
        let z = part_few a j s i x (c - 1 - side w k) ms l (ap (λ (zs : List ℕ). x ∷ zs) (sym f) ∙ t.middle) in
        let n = z.0 in
        let m = z.1 in
        (omega (arith, n, ms_long, wide), omega (arith, m, few))

    pub outer_few : (IsMiddle w k (c - 1) → ⊥) → (j s i : ℕ) → i < stackings b j s → ys ≡ unrank_heights b j s i → (j < w) × (s + x ≤ h * w)
    outer_few d j s i l f =
        let t = outer_put w k (c - 1) ms os wide ms_long os_long column xs ys now x here d in
        let z = part_few b j s i x (before w k (c - 1)) os l (ap (λ (zs : List ℕ). x ∷ zs) (sym f) ∙ t.outer) in
        let n = z.0 in
        let m = z.1 in
        (omega (arith, n, os_long, wide), omega (arith, m, few))

-- the rank of a list by those of its parts
pub rank_by : (h k : ℕ) (zs : List ℕ) (a ca pa ra b cb pb rb ways : ℕ) → a ≡ h → b ≡ h → ra < stackings a ca pa → rb < stackings b cb pb
    → unrank_heights a ca pa ra ≡ middle_heights k zs → unrank_heights b cb pb rb ≡ outer_heights k zs → ways ≡ stackings h cb pb → ra * ways + rb ≡ rank_split h k zs
unfolding rank_split
rank_by h k zs a ca pa ra b cb pb rb ways ea eb la lb fa fb e =
    let x = ranked a ca pa ra la in
    let y = ranked b cb pb rb lb in
    ap₂ (λ (u v : ℕ). u + v)
    (ap₂ (λ (u v : ℕ). u * v) (sym x.back ∙ ap₂ rank_heights ea fa)
    (e ∙ ap₂ (stackings h) (sym y.columns ∙ ap length fb) (sym y.all ∙ ap total fb)))
    (sym y.back ∙ ap₂ rank_heights eb fb)
