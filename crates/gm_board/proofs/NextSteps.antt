-- The subset with the next rank: its lowest run of members goes up by a cell at its end, and its other members to the bottom.
use Rattle.gm_board.proofs.Lower.{◌≡◌, ℕ, zero, suc, ◌+◌, ◌-◌, ◌/◌, ◌%◌, ◌^◌, ◌<◌, ◌≤◌, Bool, true, false, eqb, List, [], ◌∷◌, ◌++◌, length, refl, sym, ap, ap₂, ◌∙◌, subst, arith, inl, inr, count_ones, bit_at, trailing_zeros, cases_lt, one_shl, pow_mono, binomial, binomial_zero, pascal, members, rank, has_cell, tests_of, mask_of, mask_unrank, tests_none, tests_more, tests_length, mask_below, tests_mask, members_small, mask_unrank_rank}
use Rattle.std.proofs.Common.{pow-suc, ◌*◌, w32}
use Rattle.std.specs.Int.{trailing_ones}
use Rattle.std.proofs.lemmas.Nat.{shr-shr, shr_le, pow_pos}
use Rattle.std.proofs.lemmas.Nat.Bits.{bit_at-trailing_zeros, bit_at-trailing_ones, bit_at_above}
use Rattle.gm_board.specs.laws.Binomials.{binomial_past}
use Rattle.gm_board.specs.laws.Masks.{mask_tests_small, mask_unrank_below, mask_unrank_ones, mask_rank_unrank}
use Rattle.gm_board.specs.Masks.{mask_rank}

-- n members, and n cells that are none, above others
abbrev ones : ℕ → List Bool → List Bool
ones zero bs = bs
ones (suc n) bs = true ∷ ones n bs

abbrev zeros : ℕ → List Bool → List Bool
zeros zero bs = bs
zeros (suc n) bs = false ∷ zeros n bs

ones_are : (n : ℕ) (bs : List Bool) → (length (ones n bs) ≡ n + length bs) × (members (ones n bs) ≡ n + members bs)
ones_are zero bs = (omega arith, omega arith)
ones_are (suc n) bs = let (l, m) = ones_are n bs in (omega arith, omega arith)

-- what n cells that are none do to the length, and leave as it is
record AreZeros (n : ℕ) (xs bs : List Bool) : Type 0 where
  long : length xs ≡ n + length bs
  members_same : members xs ≡ members bs
  rank_same : rank xs ≡ rank bs
  mask_same : mask_of xs ≡ mask_of bs

zeros_are : (n : ℕ) (bs : List Bool) → AreZeros n (zeros n bs) bs
zeros_are zero bs = record { long = omega arith; members_same = refl; rank_same = refl; mask_same = refl }
zeros_are (suc n) bs = let h = zeros_are n bs in record { long = omega arith; members_same = h.members_same; rank_same = h.rank_same; mask_same = h.mask_same }

mask_ones : (n : ℕ) (bs : List Bool) → mask_of (ones n bs) + 2 ^ length bs ≡ 2 ^ (n + length bs) + mask_of bs
mask_ones zero bs =
    let e : 2 ^ (0 + length bs) ≡ 2 ^ length bs = ap (λ (k : ℕ). 2 ^ k) (let z : 0 + length bs ≡ length bs = omega arith in z) in
    omega (arith, e)
mask_ones (suc n) bs =
    let h = mask_ones n bs in
    let l : 2 ^ length (ones n bs) ≡ 2 ^ (n + length bs) = ap (λ (k : ℕ). 2 ^ k) (ones_are n bs).0 in
    let e : 2 ^ (suc n + length bs) ≡ 2 ^ suc (n + length bs) = ap (λ (k : ℕ). 2 ^ k) (let z : suc n + length bs ≡ suc (n + length bs) = omega arith in z) in
    let p = pow-suc 2 (n + length bs) in
    omega (arith, h, l, e, p)

-- the rank of members just above cells that are none
climbs : (a b : ℕ) → suc (rank (ones b (zeros a []))) ≡ binomial (a + b) b
climbs a zero = ap suc (zeros_are a []).rank_same ∙ sym (binomial_zero (a + 0))
climbs a (suc b) =
    let h = climbs a b in
    let (long, many) = ones_are b (zeros a []) in
    let gap = zeros_are a [] in
    let l : length (ones b (zeros a [])) ≡ a + b = omega (arith, gap) in
    let m : members (ones b (zeros a [])) ≡ b = omega (arith, gap) in
    let here : binomial (length (ones b (zeros a []))) (suc (members (ones b (zeros a [])))) ≡ binomial (a + b) (suc b) = ap₂
    (λ (n k : ℕ). binomial n (suc k)) l m in
    let p = pascal (a + b) b in
    let top : binomial (a + suc b) (suc b) ≡ binomial (suc (a + b)) (suc b) = ap (λ (n : ℕ). binomial n (suc b))
    (let z : a + suc b ≡ suc (a + b) = omega arith in z) in
    omega (arith, h, here, p, top)

-- members at the bottom have rank 0
rank_bottom : (n : ℕ) → rank (ones n []) ≡ 0
rank_bottom zero = refl
rank_bottom (suc n) =
    let (long, many) = ones_are n [] in
    let l : length (ones n []) ≡ n = omega arith in
    let m : members (ones n []) ≡ n = omega arith in
    let here : binomial (length (ones n [])) (suc (members (ones n []))) ≡ binomial n (suc n) = ap₂ (λ (i k : ℕ). binomial i (suc k)) l m in
    let none = binomial_past n (suc n) (omega arith) in
    omega (arith, here, none, rank_bottom n)

-- the lowest part of a subset, and of the next one: a cells that are none, then c + 1 members and a cell that is none
abbrev low_part : ℕ → ℕ → List Bool
low_part a c = false ∷ ones (suc c) (zeros a [])

abbrev next_part : ℕ → ℕ → List Bool
next_part a c = true ∷ zeros (suc a) (ones c [])

-- a subset and the next one: as many cells and members, the next rank, and the difference of the masks
record IsNextPart (xs ys : List Bool) (x y : ℕ) : Type 0 where
  cells : length ys ≡ length xs
  members_same : members ys ≡ members xs
  next_rank : rank ys ≡ suc (rank xs)
  masks : mask_of ys + x ≡ mask_of xs + y

next_parts : (a c : ℕ) → IsNextPart (low_part a c) (next_part a c) 1 (2 ^ a + 2 ^ c)
next_parts a c =
    let gap = zeros a [] in
    let run = ones c [] in
    let z = zeros_are a [] in
    let u = zeros_are (suc a) run in
    let (lo, mo) = ones_are (suc c) gap in
    let (lr, mr) = ones_are c [] in
    let lz : length gap ≡ a = omega (arith, z) in
    let lu : length (zeros (suc a) run) ≡ a + suc c = omega (arith, u) in
    let mu : members (zeros (suc a) run) ≡ c = omega (arith, u) in
    let here : binomial (length (zeros (suc a) run)) (suc (members (zeros (suc a) run))) ≡ binomial (a + suc c) (suc c) = ap₂
    (λ (n k : ℕ). binomial n (suc k)) lu mu in
    let none : rank (zeros (suc a) run) ≡ 0 = u.rank_same ∙ rank_bottom c in
    let low = mask_ones (suc c) gap in
    let la = ap (λ (k : ℕ). 2 ^ k) lz in
    let lb = ap (λ (k : ℕ). 2 ^ (suc c + k)) lz in
    let bottom = mask_ones c [] in
    let lc : 2 ^ (c + 0) ≡ 2 ^ c = ap (λ (k : ℕ). 2 ^ k) (let z : c + 0 ≡ c = omega arith in z) in
    let ld : 2 ^ length (zeros (suc a) run) ≡ 2 ^ (suc c + a) = ap (λ (k : ℕ). 2 ^ k) (let z : length (zeros (suc a) run) ≡ suc c + a = omega (arith, lu) in z) in
    record {
      cells = omega (arith, lz, lo, lu);
      members_same = omega (arith, mo, z, mu);
      next_rank = omega (arith, here, none, climbs a (suc c));
      masks = omega (arith, low, z, la, lb, u, bottom, lc, ld);
    }

-- below other cells
next_below : (us xs ys : List Bool) (x y : ℕ) → IsNextPart xs ys x y → IsNextPart (us ++ xs) (us ++ ys) x y
next_below [] xs ys x y h = h
next_below (true ∷ us) xs ys x y h =
    let r = next_below us xs ys x y h in
    let here = ap₂ (λ (n k : ℕ). binomial n (suc k)) r.cells r.members_same in
    let weight = ap (λ (k : ℕ). 2 ^ k) r.cells in
    record {
      cells = ap suc r.cells;
      members_same = ap suc r.members_same;
      next_rank = omega (arith, here, r.next_rank);
      masks = omega (arith, weight, r.masks);
    }
next_below (false ∷ us) xs ys x y h =
    let r = next_below us xs ys x y h in
    record { cells = ap suc r.cells; members_same = r.members_same; next_rank = r.next_rank; masks = r.masks }

-- the tests of a mask, in parts
tests_zeros : (a m : ℕ) → ((i : ℕ) → i < a → bit_at m i ≡ 0) → tests_of a m ≡ zeros a []
tests_zeros zero m h = tests_none m
tests_zeros (suc a) m h =
    tests_more a m
    ∙ ap₂ (λ (b : Bool) (bs : List Bool). b ∷ bs) (ap (λ (v : ℕ). eqb v 1) (h a (omega arith))) (tests_zeros a m (λ i l. h i (omega arith)))

tests_ones : (b a m : ℕ) → ((i : ℕ) → i < b → bit_at m (i + a) ≡ 1) → tests_of (b + a) m ≡ ones b (tests_of a m)
tests_ones zero a m h = ap (λ (k : ℕ). tests_of k m) (let z : 0 + a ≡ a = omega arith in z)
tests_ones (suc b) a m h =
    ap (λ (k : ℕ). tests_of k m) (let z : suc b + a ≡ suc (b + a) = omega arith in z)
    ∙ tests_more (b + a) m
    ∙ ap₂ (λ (t : Bool) (ts : List Bool). t ∷ ts) (ap (λ (v : ℕ). eqb v 1) (h b (omega arith))) (tests_ones b a m (λ i l. h i (omega arith)))

tests_split : (k w m : ℕ) → (us : List Bool) × (length us ≡ k) × (tests_of (k + w) m ≡ us ++ tests_of w m)
tests_split zero w m = ([], refl, ap (λ (k : ℕ). tests_of k m) (let z : 0 + w ≡ w = omega arith in z))
tests_split (suc k) w m =
    let (us, l, e) = tests_split k w m in (
      has_cell m (k + w) ∷ us,
      ap suc l,
      ap (λ (j : ℕ). tests_of j m) (let z : suc k + w ≡ suc (k + w) = omega arith in z) ∙ tests_more (k + w) m ∙ ap
          (λ (ts : List Bool). has_cell m (k + w) ∷ ts) e,
    )

-- the cells of a mask whose lowest members stand from a to a + c, with none behind them
low_tests : (a c m : ℕ) → ((i : ℕ) → i < a → bit_at m i ≡ 0) → ((i : ℕ) → i < suc c → bit_at m (i + a) ≡ 1) → bit_at m (suc c + a) ≡ 0 → tests_of
    (suc (suc c + a)) m ≡ low_part a c
low_tests a c m low run none =
    tests_more (suc c + a) m
    ∙ ap₂ (λ (t : Bool) (ts : List Bool). t ∷ ts) (ap (λ (v : ℕ). eqb v 1) none) (tests_ones (suc c) a m run ∙ ap (ones (suc c)) (tests_zeros a m low))

-- what the next mask is
pub record IsNextMask (m r : ℕ) : Type 0 where
  pub rank_is : mask_rank r ≡ mask_rank m + 1
  pub ones_are : count_ones r ≡ count_ones m
  pub fits : r < 2 ^ 32

pub next_is : (a c m r : ℕ) → m < 2 ^ 32 → suc c + a < 32 → ((i : ℕ) → i < a → bit_at m i ≡ 0) → ((i : ℕ) → i < suc c → bit_at m (i + a) ≡ 1) → bit_at m
    (suc c + a) ≡ 0 → r + 1 ≡ m + (2 ^ a + 2 ^ c) → IsNextMask m r
unfolding mask_rank
next_is a c m r fits small low run none is =
    let w = suc (suc c + a) in
    let (us, long, split) = tests_split (32 - w) w m in
    let whole : 32 - w + w ≡ 32 = omega arith in
    let old : tests_of 32 m ≡ us ++ low_part a c = ap (λ (k : ℕ). tests_of k m) (sym whole) ∙ split ∙ ap (λ (ts : List Bool). us ++ ts)
    (low_tests a c m low run none) in
    let number : mask_of (us ++ low_part a c) ≡ m = ap mask_of (sym old) ∙ mask_tests_small 32 m fits in
    let step = next_below us (low_part a c) (next_part a c) 1 (2 ^ a + 2 ^ c) (next_parts a c) in
    let new : mask_of (us ++ next_part a c) ≡ r = omega (arith, step.masks, number, is) in
    let size : length (us ++ next_part a c) ≡ 32 = step.cells ∙ ap length (sym old) ∙ tests_length 32 m in
    let tests : tests_of 32 r ≡ us ++ next_part a c = ap₂ tests_of (sym size) (sym new) ∙ tests_mask (us ++ next_part a c) in
    let below : r < 2 ^ 32 = subst (λ (k : ℕ). k < 2 ^ 32) new (subst (λ (k : ℕ). mask_of (us ++ next_part a c) < 2 ^ k) size
    (mask_below (us ++ next_part a c))) in
    let rank_here : rank (tests_of 32 r) ≡ suc (rank (tests_of 32 m)) = ap rank tests ∙ step.next_rank ∙ ap (λ (ts : List Bool). suc (rank ts)) (sym old) in
    let members_here : members (tests_of 32 r) ≡ members (tests_of 32 m) = ap members tests ∙ step.members_same ∙ ap members (sym old) in
    record {
      rank_is = omega (arith, rank_here);
      ones_are = sym (members_small 32 r below) ∙ members_here ∙ members_small 32 m fits;
      fits = below;
    }

-- it has no further cells if there is a subset with its rank
pub next_within : (m r n : ℕ) → IsNextMask m r → n ≤ 32 → mask_rank m + 1 < binomial n (count_ones m) → r < 2 ^ n
next_within m r n h few below =
    let k = count_ones m in
    let j = mask_rank m + 1 in
    let u = mask_unrank n k j in
    let u_fits : u < 2 ^ n = mask_unrank_below n k j in
    let wide : 2 ^ n ≤ 2 ^ 32 = pow_mono few in
    let u_wide : u < 2 ^ 32 = omega (arith, u_fits, wide) in
    let u_rank : mask_rank u ≡ j = mask_rank_unrank n k j few below in
    let u_ones : count_ones u ≡ k = mask_unrank_ones n k j below in
    let back_u : mask_unrank 32 (count_ones u) (mask_rank u) ≡ u = mask_unrank_rank 32 u (omega arith) u_wide in
    let back_r : mask_unrank 32 (count_ones r) (mask_rank r) ≡ r = mask_unrank_rank 32 r (omega arith) h.fits in
    let same : r ≡ u = sym back_r ∙ ap₂ (mask_unrank 32) (h.ones_are ∙ sym u_ones) (h.rank_is ∙ sym u_rank) ∙ back_u in
    subst (λ (v : ℕ). v < 2 ^ n) (sym same) u_fits

-- ---- the code
-- the subset that the code makes, from the number of cells below the lowest run of members, and the length of the run
pub record IsStep (m run r : ℕ) : Type 0 where
  pub some : 1 ≤ run
  pub is_next : IsNextMask m r

pub next_of : (m run : ℕ) → 0 < m → m < 2 ^ 31 → run ≡ trailing_ones w32 (m / 2 ^ trailing_zeros w32 m)
    → IsStep m run (m + 1 * 2 ^ trailing_zeros w32 m % 2 ^ 32 + (1 * 2 ^ (run - 1) % 2 ^ 32 - 1))
next_of m run some fits is =
    let a = trailing_zeros w32 m in
    let wide : m < 2 ^ 32 = omega (arith, fits) in
    let z = bit_at-trailing_zeros w32 m some wide in
    let n = m / 2 ^ a in
    let small : n ≤ m = shr_le m a in
    let o = bit_at-trailing_ones w32 n (omega (arith, small, fits)) in
    let at : (i : ℕ) → bit_at n i ≡ bit_at m (i + a) = λ i. ap (λ (v : ℕ). v % 2) (shr-shr m a i) ∙ ap (bit_at m) (let e : a + i ≡ i + a = omega arith in e) in
    let first : bit_at n 0 ≡ 1 = at 0 ∙ ap (bit_at m) (let e : 0 + a ≡ a = omega arith in e) ∙ z.1 in
    let one : 1 ≤ run = elim (cases_lt 0 run) [
      | inl l ↦ l
      | inr l ↦ absurd (
          let e : 0 ≡ trailing_ones w32 n = omega (arith, l, is) in
          let q : bit_at n 0 ≡ 0 = ap (bit_at n) e ∙ o.1 in
          omega (arith, q, first))
    ] in
    let c = run - 1 in
    let length : suc c ≡ trailing_ones w32 n = omega (arith, one, is) in
    let ones_here : (i : ℕ) → i < suc c → bit_at m (i + a) ≡ 1 = λ i l. sym (at i) ∙ o.2 i (omega (arith, length, l)) in
    let none_here : bit_at m (suc c + a) ≡ 0 = sym (at (suc c)) ∙ ap (bit_at n) length ∙ o.1 in
    let last : c + a < 31 = elim (cases_lt (c + a) 31) [
      | inl l ↦ l
      | inr l ↦ absurd (
          let q = bit_at_above m 31 (c + a) fits l in
          let r = ones_here c (omega arith) in
          omega (arith, q, r))
    ] in
    let low : 1 * 2 ^ a % 2 ^ 32 ≡ 2 ^ a = one_shl a 32 z.0 in
    let up : 1 * 2 ^ c % 2 ^ 32 ≡ 2 ^ c = one_shl c 32 (omega (arith, last)) in
    let p = pow_pos c in
    record {
      some = one;
      is_next = next_is a c m _ wide (omega (arith, last)) z.2 ones_here none_here (omega (arith, low, up, p));
    }
