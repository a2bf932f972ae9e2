-- Tiers of Connect Four: a move puts one more piece into the middle columns that are numbered apart, or into the others; left and right exchanged keeps both numbers.
use Rattle.std.specs.Prelude.{◌≡◌, ◌+◌, ◌-◌, ◌*◌, ◌/◌, ◌%◌, ◌<◌, ◌≤◌, ◌≢◌, ◌∷◌, ◌++◌, ◌&&◌}
use Rattle.gm_pieces.specs.Common.{ℕ, Bool, true, false, List, [], length, set, inl, inr, refl, sym, ap, ap₂, ◌∙◌, subst, arith, cond, eqb, eqb-true, eq-eqb, ne_eqb, leb, leb-true, le-leb, ltb, ltb-true, lt-ltb, cases_eq, cases_lt, cond-true, cond_both, and_both, and_left, and_right, lone_in, contains_cases, get_or-set_same, get_or-set_other, Contains, IsAscending, range_with_len, Contains-append_left, Contains-append_right, Cell, Empty, Mine, cell_at, is_taken, permute, image_cell, div-mul-add, mod-mul-add}
use Rattle.std.proofs.Common.{zero, suc, mod-lt, mul-le-mul_right}
use Rattle.std.proofs.lemmas.List.Elements.{Contains-append_cases}
use Rattle.std.proofs.Math.Nat.{mul-le-mul}
use Rattle.std.proofs.lemmas.Nat.{div-add-mod'}
use Rattle.gm_board.specs.laws.Permutations.{permute_identity}
use Rattle.gm_board.specs.laws.Turned.{cell_turned}
use Rattle.gm_stacks.specs.Heights.{middle_heights}
use Rattle.gm_stacks.specs.Stacks.{how_many, heights, has_piece, mirror}
use Rattle.gm_stacks.specs.laws.Columns.{same_many}
use Rattle.gm_stacks.specs.laws.Mirrors.{mirror_at}
use Rattle.gm_connect.specs.declared.size.Size.{Size}
use Rattle.gm_connect.specs.declared.size.Size.TheVariants.{FourByFour, FiveByFour, FourByFive, FourBySix, FiveByFive, SixByFour}
use Rattle.gm_connect.specs.ConnectFour.{pieces, height, mirrors, middle_pieces, middle_range, tier_of, outer_in, middle_in, pieces_in, child_tiers_of}
use Rattle.gm_connect.specs.Sizes.{columns, rows, middle, cells, middle_cells, outer_cells}
use Rattle.gm_connect.specs.laws.SizeFacts.{right}
use Rattle.gm_connect.specs.laws.BoardFacts.{few_cells, Stand, parts, outer_back, middle_back, group}
use Rattle.gm_connect.specs.laws.DropFacts.{CanDrop, dropped, inside, taken_turned}

-- ---- the middle columns
-- how many pieces are in the middle columns, if each column has f pieces
abbrev pub middle_sum : Size → (ℕ → ℕ) → ℕ
middle_sum FourByFour f = 0
middle_sum FiveByFour f = 0
middle_sum FourByFive f = 0
middle_sum FourBySix f = 0
middle_sum FiveByFive f = f 2
middle_sum SixByFour f = f 2 + f 3

middle_by : (s : Size) (b : List Cell) → middle_pieces s b ≡ middle_sum s (height s b)
unfolding middle_pieces middle_heights heights columns rows middle
middle_by FourByFour b = refl
middle_by FiveByFour b = refl
middle_by FourByFive b = refl
middle_by FourBySix b = refl
middle_by FiveByFive b = omega arith
middle_by SixByFour b = omega arith

middle_more : (s : Size) (f g d : ℕ → ℕ) → ((i : ℕ) → i < columns s → g i ≡ f i + d i) → middle_sum s g ≡ middle_sum s f + middle_sum s d
unfolding columns
middle_more FourByFour f g d h = refl
middle_more FiveByFour f g d h = refl
middle_more FourByFive f g d h = refl
middle_more FourBySix f g d h = refl
middle_more FiveByFive f g d h = h 2 (omega arith)
middle_more SixByFour f g d h = let a = h 2 (omega arith) in let b = h 3 (omega arith) in omega (arith, a, b)

-- one for a column, and none for others
abbrev pub one_at : ℕ → ℕ → ℕ
one_at c i = cond (eqb i c) 1 0

one_le : (x : Bool) → cond x 1 0 ≤ 1
one_le true = omega arith
one_le false = omega arith

one_of : (x y : Bool) → (x ≡ true → y ≡ true → ⊥) → cond x 1 0 + cond y 1 0 ≤ 1
one_of true true h = absurd (h refl refl)
one_of true false h = omega arith
one_of false y h = let a = one_le y in omega (arith, a)

pub middle_once : (s : Size) (c : ℕ) → middle_sum s (one_at c) ≤ 1
middle_once FourByFour c = omega arith
middle_once FiveByFour c = omega arith
middle_once FourByFive c = omega arith
middle_once FourBySix c = omega arith
middle_once FiveByFive c = one_le (eqb 2 c)
middle_once SixByFour c = one_of (eqb 2 c) (eqb 3 c) (λ a b. let x = eqb-true 2 c a in let y = eqb-true 3 c b in omega (arith, x, y))

-- ---- a move
-- one more number below n passes a test
one_more : (p q : ℕ → Bool) (n x : ℕ) → x < n → p x ≡ false → q x ≡ true → ((r : ℕ) → r < n → r ≢ x → q r ≡ p r) → how_many q n ≡ how_many p n + 1
one_more p q zero x l a b c = absurd (omega (arith, l))
one_more p q (suc n) x l a b c = elim (cases_lt x n) [
  | inl e ↦
      let i = one_more p q n x e a b (λ r j d. c r (omega (arith, j)) d) in
      let f = c n (omega arith) (λ d. omega (arith, d, e)) in
      rw f (omega (arith, i))
  | inr e ↦
      let z : n ≡ x = omega (arith, e, l) in
      let i = same_many q p n (λ r j. c r (omega (arith, j)) (λ d. omega (arith, d, j, z))) in
      let f : p n ≡ false = ap p z ∙ a in
      let g : q n ≡ true = ap q z ∙ b in
      rw (f, g) (omega (arith, i))
]

module _ (s : Size) (b : List Cell) (k : ℕ) (n : length b ≡ cells s) (st : Stand s b) (d : CanDrop s b k) where
  -- the other cells are as they were
  others : (j : ℕ) → j ≢ k → has_piece (dropped b k) j ≡ has_piece b j
  others j e = ap is_taken (cell_turned (set b k Mine) j) ∙ taken_turned (cell_at (set b k Mine) j) ∙ ap is_taken (get_or-set_other b k j Mine Empty e)

  here : has_piece (dropped b k) k ≡ true
  here = ap is_taken (cell_turned (set b k Mine) k) ∙ taken_turned (cell_at (set b k Mine) k)
      ∙ ap is_taken (get_or-set_same b k Mine Empty (inside s b k n st d))

  -- the column has one more piece, and the others as many as before
  height_after : (i : ℕ) → i < columns s → height s (dropped b k) i ≡ height s b i + one_at (k % columns s) i
  height_after i l = elim (cases_eq i (k % columns s)) [
    | inl e ↦
        let w = columns s in
        let whole : k / w * w + k % w ≡ k = div-add-mod' k w in
        let cell : k / w * w + i ≡ k = ap (λ (c : ℕ). k / w * w + c) e ∙ whole in
        let more = one_more (λ r. has_piece b (r * w + i)) (λ r. has_piece (dropped b k) (r * w + i)) (rows s) (k / w) (row whole)
        (ap (has_piece b) cell ∙ ap is_taken d.free) (ap (has_piece (dropped b k)) cell ∙ here)
        (λ r j o. others (r * w + i) (λ z. o (same_row r i l (z ∙ sym cell)))) in
        more ∙ ap (λ (x : ℕ). height s b i + x) (sym (ap (λ (x : Bool). cond x 1 0) (eq-eqb i (k % w) e)))
    | inr e ↦
        let w = columns s in
        same_many (λ r. has_piece (dropped b k) (r * w + i)) (λ r. has_piece b (r * w + i)) (rows s)
        (λ r j. others (r * w + i) (λ z. e (sym (mod-mul-add r w i l) ∙ ap (λ (x : ℕ). x % w) z)))
        ∙ (let z : height s b i ≡ height s b i + 0 = omega arith in z)
        ∙ ap (λ (x : ℕ). height s b i + x) (sym (ap (λ (x : Bool). cond x 1 0) (ne_eqb i (k % w) e)))
  ]
    where
      same_row : (r i : ℕ) → i < columns s → r * columns s + i ≡ k / columns s * columns s + i → r ≡ k / columns s
      same_row r i l e = sym (div-mul-add r (columns s) i l) ∙ ap (λ (x : ℕ). x / columns s) e ∙ div-mul-add (k / columns s) (columns s) i l

      row : k / columns s * columns s + k % columns s ≡ k → k / columns s < rows s
      row e = elim (cases_lt (k / columns s) (rows s)) [
        | inl r ↦ r
        | inr r ↦ absurd (let up : rows s * columns s ≤ k / columns s * columns s = mul-le-mul_right (columns s) r in let l = d.below in omega (arith, up, e, l))
      ]

  -- the middle columns have one more piece, or as many
  pub middle_after : middle_pieces s (dropped b k) ≡ middle_pieces s b + middle_sum s (one_at (k % columns s))
  middle_after =
      middle_by s (dropped b k)
      ∙ middle_more s (height s b) (height s (dropped b k)) (one_at (k % columns s)) height_after
      ∙ ap (λ (x : ℕ). x + middle_sum s (one_at (k % columns s))) (sym (middle_by s b))

-- ---- numbers of tiers
-- there are few of them
pub range_low : (s : Size) → middle_cells s ≤ 25
range_low s = let a = (right s).parts in let n = few_cells s in omega (arith, a, n)

pub middle_low : (s : Size) (t : ℕ) → middle_in s t ≤ middle_cells s
middle_low s t = let m = mod-lt t (let z : 0 < middle_range s = omega arith in z) in omega (arith, m)

pub digits_few : (s : Size) (t : ℕ) → outer_in s t + middle_in s t ≤ t
digits_few s t = let e = div-add-mod' t (middle_range s) in omega (arith, e)

pub tier_low : (s : Size) (t : ℕ) → outer_in s t ≤ outer_cells s → t < 1000
tier_low s t l =
    let e = div-add-mod' t (middle_range s) in
    let m = middle_low s t in
    let n = range_low s in
    let a = (right s).parts in
    let c = few_cells s in
    let up = mul-le-mul (let z : outer_in s t ≤ 25 = omega (arith, l, a, c) in z) (let z : middle_range s ≤ 26 = omega (arith, n) in z) in
    omega (arith, e, m, n, up)

-- ---- child tiers
next_digit : (o r m : ℕ) → (o + 1) * r + m ≡ o * r + m + r
next_digit o r m = omega arith

-- one more piece leads to a child tier
pub tier_after : (s : Size) (b d : List Cell) (x : ℕ) → length b ≡ cells s → length d ≡ cells s → pieces d ≡ pieces b + 1
    → middle_pieces s d ≡ middle_pieces s b + x → x ≤ 1 → Contains (child_tiers_of s (tier_of s b)) (tier_of s d)
unfolding child_tiers_of
tier_after s b d x n l p q few =
    let r = middle_range s in
    let m = middle_pieces s b in
    let o = pieces b - m in
    let t = tier_of s b in
    let before = parts s b n in
    let after = parts s d l in
    let among = before.among in
    let out = before.outer_few in
    let out' = after.outer_few in
    let mid' = after.middle_few in
    let ob = outer_back s b n in
    let mb = middle_back s b n in
    elim (cases_lt x 1) [
      | inl z ↦
          let same : middle_pieces s d ≡ m = omega (arith, q, z) in
          let less : outer_in s t < outer_cells s = omega (arith, p, same, out', among, ob) in
          let one : pieces d - middle_pieces s d ≡ o + 1 = omega (arith, p, same, among) in
          let e : tier_of s d ≡ t + r = ap₂ (λ (u v : ℕ). u * r + v) one same ∙ next_digit o r m in
          Contains-append_right _ _ (tier_of s d)
          (subst (λ (ts : List ℕ). Contains ts (tier_of s d)) (sym (cond-true _ _ _ (lt-ltb (outer_in s t) (outer_cells s) less)))
          (0, omega arith, sym e))
      | inr z ↦
          let more : middle_pieces s d ≡ m + 1 = omega (arith, q, z, few) in
          let less : middle_in s t < middle_cells s = omega (arith, more, mid', mb) in
          let room : outer_in s t ≤ outer_cells s = omega (arith, out, ob) in
          let one : pieces d - middle_pieces s d ≡ o = omega (arith, p, more) in
          let e : tier_of s d ≡ t + 1 = ap₂ (λ (u v : ℕ). u * r + v) one more ∙ (let y : o * r + (m + 1) ≡ o * r + m + 1 = omega arith in y) in
          Contains-append_left _ _ (tier_of s d)
          (subst (λ (ts : List ℕ). Contains ts (tier_of s d))
          (sym (cond-true _ _ _ (and_both _ _ (lt-ltb (middle_in s t) (middle_cells s) less) (le-leb (outer_in s t) (outer_cells s) room))))
          (0, omega arith, sym e))
    ]

module _ (s : Size) (t : ℕ) where
  abbrev r : ℕ
  r = middle_range s

  digits : t / r * r + t % r ≡ t
  digits = div-add-mod' t r

  -- whether the middle columns have room, and whether the others have
  abbrev middle_room : Bool
  middle_room = ltb (middle_in s t) (middle_cells s) && leb (outer_in s t) (outer_cells s)

  abbrev outer_room : Bool
  outer_room = ltb (outer_in s t) (outer_cells s)

  in_middle : middle_room ≡ true → middle_in s t < middle_cells s
  in_middle e = ltb-true (middle_in s t) (middle_cells s) (and_left (ltb (middle_in s t) (middle_cells s)) (leb (outer_in s t) (outer_cells s)) e)

  low : t % r < r
  low = mod-lt t (let z : 0 < r = omega arith in z)

  -- a child tier has one more piece, and a tier with a child is not full
  child_pieces : (u : ℕ) → Contains (child_tiers_of s t) u → (pieces_in s u ≡ pieces_in s t + 1) × (pieces_in s t < cells s)
  unfolding child_tiers_of
  child_pieces u c = elim (Contains-append_cases (cond middle_room ((t + 1) ∷ []) []) (cond outer_room ((t + r) ∷ []) []) u c) [
    | inl i ↦
        let h = lone_in middle_room (t + 1) u i in
        let m = in_middle h.0 in
        let o = leb-true (outer_in s t) (outer_cells s) (and_right (ltb (middle_in s t) (middle_cells s)) (leb (outer_in s t) (outer_cells s)) h.0) in
        let all = (right s).parts in
        let e : u ≡ t / r * r + (t % r + 1) = (let f = h.1 in omega (arith, f, digits)) in
        let next : t % r + 1 < r = omega (arith, m) in (
          ap (pieces_in s) e ∙ ap₂ (λ (x y : ℕ). x + y) (div-mul-add (t / r) r (t % r + 1) next) (mod-mul-add (t / r) r (t % r + 1) next)
              ∙ (let y : t / r + (t % r + 1) ≡ t / r + t % r + 1 = omega arith in y),
          omega (arith, m, o, all),
        )
    | inr i ↦
        let h = lone_in outer_room (t + r) u i in
        let o = ltb-true (outer_in s t) (outer_cells s) h.0 in
        let all = (right s).parts in
        let e : u ≡ (t / r + 1) * r + t % r = sym h.1 ∙ ap (λ (x : ℕ). x + r) (sym digits) ∙ sym (next_digit (t / r) r (t % r)) in (
          ap (pieces_in s) e ∙ ap₂ (λ (x y : ℕ). x + y) (div-mul-add (t / r + 1) r (t % r) low) (mod-mul-add (t / r + 1) r (t % r) low)
              ∙ (let y : t / r + 1 + t % r ≡ t / r + t % r + 1 = omega arith in y),
          (let l = low in omega (arith, l, o, all)),
        )
  ]

  -- a child tier has a lower rank
  pub lower : (u : ℕ) → Contains (child_tiers_of s t) u → cells s - pieces_in s u < cells s - pieces_in s t
  lower u c = let h = child_pieces u c in let e = h.0 in let l = h.1 in omega (arith, e, l)

  -- the child tiers ascend, and are at most two
  pub ascending : IsAscending (child_tiers_of s t)
  unfolding child_tiers_of
  ascending = cond_both middle_room ((t + 1) ∷ []) []
      (λ (xs : List ℕ). IsAscending (xs ++ cond outer_room ((t + r) ∷ []) []))
      (λ e. let m = in_middle e in cond_both outer_room ((t + r) ∷ []) [] (λ (ys : List ℕ). IsAscending ((t + 1) ∷ ys))
      (λ f. (omega (arith, m), tt)) (λ f. tt))
      (λ e. cond_both outer_room ((t + r) ∷ []) [] IsAscending (λ f. tt) (λ f. tt))

  pub tiers_few : length (child_tiers_of s t) ≤ 16
  unfolding child_tiers_of
  tiers_few = cond_both middle_room ((t + 1) ∷ []) []
      (λ (xs : List ℕ). length (xs ++ cond outer_room ((t + r) ∷ []) []) ≤ 16)
      (λ e. cond_both outer_room ((t + r) ∷ []) [] (λ (ys : List ℕ). length ((t + 1) ∷ ys) ≤ 16) (λ f. omega arith) (λ f. omega arith))
      (λ e. cond_both outer_room ((t + r) ∷ []) [] (λ (ys : List ℕ). length ys ≤ 16) (λ f. omega arith) (λ f. omega arith))

-- ---- left and right exchanged
-- a column of the image is that as far from the other side
height_mirrored : (s : Size) (b : List Cell) (i : ℕ) → Contains (mirrors s) (mirror (columns s) (rows s)) → i < columns s
    → height s (permute Empty (mirror (columns s) (rows s)) b) i ≡ height s b (columns s - 1 - i)
height_mirrored s b i c l =
    let w = columns s in
    let g = mirror w (rows s) in
    same_many (λ r. has_piece (permute Empty g b) (r * w + i)) (λ r. has_piece b (r * w + (w - 1 - i))) (rows s)
    (λ r j.
    let up : (r + 1) * w ≤ rows s * w = mul-le-mul_right w (let z : r + 1 ≤ rows s = omega (arith, j) in z) in
    let low : r * w + i < cells s = omega (arith, up, l) in
    ap is_taken (image_cell (cells s) (mirrors s) (group s) g b c (r * w + i) low ∙ ap (cell_at b) (mirror_at w (rows s) (r * w + i) low
    ∙ ap₂ (λ (x y : ℕ). x * w + (w - 1 - y)) (div-mul-add r w i l) (mod-mul-add r w i l))))

middle_mirrored : (s : Size) (f g : ℕ → ℕ) → ((i : ℕ) → i < columns s → g i ≡ f (columns s - 1 - i)) → middle_sum s g ≡ middle_sum s f
unfolding columns
middle_mirrored FourByFour f g h = refl
middle_mirrored FiveByFour f g h = refl
middle_mirrored FourByFive f g h = refl
middle_mirrored FourBySix f g h = refl
middle_mirrored FiveByFive f g h = h 2 (omega arith)
middle_mirrored SixByFour f g h = let a = h 2 (omega arith) in let b = h 3 (omega arith) in omega (arith, a, b)

-- the image has as many pieces in the middle columns
pub image_middle : (s : Size) (g : List ℕ) (b : List Cell) → Contains (mirrors s) g → length b ≡ cells s → middle_pieces s (permute Empty g b) ≡ middle_pieces s b
unfolding mirrors
image_middle s g b c e =
    elim (contains_cases (range_with_len 0 (cells s)) (mirror (columns s) (rows s) ∷ []) g c) [
      | inl i ↦ ap (λ (x : List ℕ). middle_pieces s (permute Empty x b)) (sym i) ∙ ap (middle_pieces s) (permute_identity Empty (cells s) b e)
      | inr d ↦ elim (contains_cases (mirror (columns s) (rows s)) [] g d) [
        | inl i ↦
            ap (λ (x : List ℕ). middle_pieces s (permute Empty x b)) (sym i)
            ∙ middle_by s (permute Empty (mirror (columns s) (rows s)) b)
            ∙ middle_mirrored s (height s b) (height s (permute Empty (mirror (columns s) (rows s)) b)) (λ j l. height_mirrored s b j (1, omega arith, refl) l)
            ∙ sym (middle_by s b)
        | inr f ↦ absurd (let l = f.1 in omega (arith, l))
      ]
    ]
