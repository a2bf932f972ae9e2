-- What follows from the definitions of specs/Masks.antt.
use Rattle.std.specs.Prelude.{count_ones}
use Rattle.std.specs.Int.{bit_at}
use Rattle.std.proofs.Math.Nat.{mod-eq_of_lt}
use Rattle.std.proofs.lemmas.Nat.{mod_below, mod-pow-add, ones_cat}
use Rattle.std.proofs.lemmas.Nat.Bits.{bit_at-lt, bit_at_cat_low, bit_at_cat_high, bit_at_above}
use Rattle.gm_board.specs.Binomials.{binomial}
use Rattle.gm_board.specs.Ranks.{members, rank, unrank}
use Rattle.gm_board.specs.Masks.{has_cell, mask_of, bit_weight, tests_of, mask_rank, mask_unrank}
use Rattle.std.proofs.Common.{◌≡◌, ℕ, zero, suc, ◌+◌, ◌-◌, ◌*◌, ◌%◌, ◌^◌, ◌<◌, ◌≤◌, Bool, true, false, eqb, List, [], ◌∷◌, length, refl, sym, ap, ap₂, ◌∙◌, subst, arith, ◌⊎◌, inl, inr, pow_pos, pow-suc}
use Rattle.std.specs.Int.Count.{ones}
use Rattle.gm_board.specs.laws.Ranks.{rank_below, unrank_rank, unrank_length, unrank_members, rank_unrank}

-- without cells there are no tests
pub tests_none : (m : ℕ) → tests_of 0 m ≡ []
unfolding tests_of
tests_none m = refl

-- the tests with one more cell
pub tests_more : (n m : ℕ) → tests_of (suc n) m ≡ has_cell m n ∷ tests_of n m
unfolding tests_of
tests_more n m = refl

-- there is one test for each cell
pub tests_length : (n m : ℕ) → length (tests_of n m) ≡ n
unfolding tests_of
tests_length zero m = refl
tests_length (suc n) m = ap suc (tests_length n m)

-- the mask fits as many bits as there are tests
pub mask_below : (bs : List Bool) → mask_of bs < 2 ^ length bs
mask_below [] = omega arith
mask_below (true ∷ bs) = omega (arith, mask_below bs, pow-suc 2 (length bs))
mask_below (false ∷ bs) = omega (arith, mask_below bs, pow-suc 2 (length bs))

-- the mask with one more cell, by its weight
pub mask_cons : (b : Bool) (bs : List Bool) → mask_of (b ∷ bs) ≡ bit_weight b * 2 ^ length bs + mask_of bs
mask_cons true bs = omega arith
mask_cons false bs = omega arith

-- a bit is 0 or 1
pub bit_cases : (v : ℕ) → v < 2 → (v ≡ 0) ⊎ (v ≡ 1)
bit_cases v l = grind arith

-- the test of a bit, and its weight
pub weight_bit : (m c : ℕ) → bit_weight (has_cell m c) ≡ bit_at m c
weight_bit m c = elim (bit_cases (bit_at m c) (bit_at-lt m c)) [
  | inl e ↦ rw e refl
  | inr e ↦ rw e refl
]

-- masks that agree on the cells below n have the same tests
pub tests_same : (n a b : ℕ) → ((i : ℕ) → i < n → bit_at a i ≡ bit_at b i) → tests_of n a ≡ tests_of n b
unfolding tests_of
tests_same zero a b h = refl
tests_same (suc n) a b h =
    ap₂ (λ (t : Bool) (ts : List Bool). t ∷ ts) (ap (λ (v : ℕ). eqb v 1) (h n (omega arith))) (tests_same n a b (λ i l. h i (omega arith)))

-- the mask of the tests of a mask is its part below n
pub mask_tests : (n m : ℕ) → mask_of (tests_of n m) ≡ m % 2 ^ n
mask_tests zero m = ap mask_of (tests_none m) ∙ (let e : m % 1 < 1 = mod_below m 1 (omega arith) in omega (arith, e))
mask_tests (suc n) m =
    ap mask_of (tests_more n m)
    ∙ mask_cons (has_cell m n) (tests_of n m)
    ∙ ap₂ (λ (a b : ℕ). a + b)
    (ap₂ (λ (a b : ℕ). a * b) (weight_bit m n) (ap (λ (k : ℕ). 2 ^ k) (tests_length n m)))
    (mask_tests n m)
    ∙ sym (mod-pow-add m 1 n)
    ∙ ap (λ (k : ℕ). m % 2 ^ k) (let e : 1 + n ≡ suc n = omega arith in e)

-- the tests of a mask that fits give the mask back
pub mask_tests_small : (n m : ℕ) → m < 2 ^ n → mask_of (tests_of n m) ≡ m
mask_tests_small n m l = mask_tests n m ∙ mod-eq_of_lt l

-- the mask of tests gives the tests back
pub tests_mask : (bs : List Bool) → tests_of (length bs) (mask_of bs) ≡ bs
tests_mask [] = tests_none 0
tests_mask (b ∷ bs) =
    let n = length bs in
    let e : mask_of (b ∷ bs) ≡ bit_weight b * 2 ^ n + mask_of bs = mask_cons b bs in
    ap (tests_of (suc n)) e
    ∙ tests_more n (bit_weight b * 2 ^ n + mask_of bs)
    ∙ ap₂ (λ (t : Bool) (ts : List Bool). t ∷ ts)
    (ap (λ (v : ℕ). eqb v 1) (bit_at_cat_high (bit_weight b) n (mask_of bs) n (mask_below bs) (omega arith) ∙ ap (bit_at (bit_weight b))
    (let z : n - n ≡ 0 = omega arith in z)) ∙ head b)
    (tests_same n (bit_weight b * 2 ^ n + mask_of bs) (mask_of bs) (λ i l. bit_at_cat_low (bit_weight b) n (mask_of bs) i l) ∙ tests_mask bs)
  where
    head : (b : Bool) → eqb (bit_at (bit_weight b) 0) 1 ≡ b
    head true = refl
    head false = refl

-- a cell that the mask does not have doesn't change the number of members
pub members_skip : (n m : ℕ) → bit_at m n ≡ 0 → members (tests_of (suc n) m) ≡ members (tests_of n m)
members_skip n m e = ap members (tests_more n m) ∙ rw e refl

-- a cell that the mask does not have doesn't change the rank
pub rank_skip : (n m : ℕ) → bit_at m n ≡ 0 → rank (tests_of (suc n) m) ≡ rank (tests_of n m)
rank_skip n m e = ap rank (tests_more n m) ∙ rw e refl

-- a cell that the mask has adds a member
pub members_add : (n m : ℕ) → bit_at m n ≡ 1 → members (tests_of (suc n) m) ≡ suc (members (tests_of n m))
members_add n m e = ap members (tests_more n m) ∙ rw e refl

-- a cell that the mask has adds its part to the rank
pub rank_add : (n m : ℕ) → bit_at m n ≡ 1 → rank (tests_of (suc n) m) ≡ binomial n (suc (members (tests_of n m))) + rank (tests_of n m)
rank_add n m e =
    ap rank (tests_more n m)
    ∙ rw e (ap (λ (k : ℕ). binomial k (suc (members (tests_of n m))) + rank (tests_of n m)) (tests_length n m))

-- what s steps leave alone
pub steady : (f : ℕ → ℕ) (n s : ℕ) → ((i : ℕ) → i < s → f (suc (n + i)) ≡ f (n + i)) → f (n + s) ≡ f n
steady f n zero h = ap f (let e : n + 0 ≡ n = omega arith in e)
steady f n (suc s) h = ap f (let e : n + suc s ≡ suc (n + s) = omega arith in e) ∙ h s (omega arith) ∙ steady f n s (λ i l. h i (omega arith))

-- s cells that the mask does not have don't change the number of members
pub members_skips : (n s m : ℕ) → ((i : ℕ) → i < s → bit_at m (n + i) ≡ 0) → members (tests_of (n + s) m) ≡ members (tests_of n m)
members_skips n s m h = steady (λ k. members (tests_of k m)) n s (λ i l. members_skip (n + i) m (h i l))

-- s cells that the mask does not have don't change the rank
pub rank_skips : (n s m : ℕ) → ((i : ℕ) → i < s → bit_at m (n + i) ≡ 0) → rank (tests_of (n + s) m) ≡ rank (tests_of n m)
rank_skips n s m h = steady (λ k. rank (tests_of k m)) n s (λ i l. rank_skip (n + i) m (h i l))

-- a mask that fits a narrower board has the same rank on a wider one
pub rank_wide : (n w m : ℕ) → n ≤ w → m < 2 ^ n → rank (tests_of w m) ≡ rank (tests_of n m)
rank_wide n w m l f =
    ap (λ (k : ℕ). rank (tests_of k m)) (let e : w ≡ n + (w - n) = omega arith in e)
    ∙ rank_skips n (w - n) m (λ i h. bit_at_above m n (n + i) f (omega arith))

-- the number of members is the number of set bits below n
pub members_ones : (n m : ℕ) → members (tests_of n m) ≡ count_ones (m % 2 ^ n)
unfolding ones
members_ones zero m = ap members (tests_none m) ∙ ap count_ones (let e : m % 1 < 1 = mod_below m 1 (omega arith) in let z : 0 ≡ m % 1 = omega (arith, e) in z)
members_ones (suc n) m =
    ap members (tests_more n m)
    ∙ counted (has_cell m n) (tests_of n m)
    ∙ ap₂ (λ (a b : ℕ). a + b) (ap count_ones (weight_bit m n)) (members_ones n m)
    ∙ sym (ones_cat n (bit_at m n) (m % 2 ^ n) (mod_below m (2 ^ n) (pow_pos n)))
    ∙ ap count_ones (sym (mod-pow-add m 1 n) ∙ ap (λ (k : ℕ). m % 2 ^ k) (let e : 1 + n ≡ suc n = omega arith in e))
  where
    counted : (b : Bool) (bs : List Bool) → members (b ∷ bs) ≡ count_ones (bit_weight b) + members bs
    counted true bs = omega arith
    counted false bs = omega arith

-- a mask that fits has as many members as set bits
pub members_small : (n m : ℕ) → m < 2 ^ n → members (tests_of n m) ≡ count_ones m
members_small n m l = members_ones n m ∙ ap count_ones (mod-eq_of_lt l)

-- ---- ranks of masks
pub mask_rank_at : (n m : ℕ) → n ≤ 32 → m < 2 ^ n → mask_rank m ≡ rank (tests_of n m)
unfolding mask_rank
mask_rank_at n m l f = rank_wide n 32 m l f

-- a rank is below the number of subsets
pub mask_rank_below : (n m : ℕ) → n ≤ 32 → m < 2 ^ n → mask_rank m < binomial n (count_ones m)
mask_rank_below n m l f =
    let r = rank_below (tests_of n m) in
    rw (tests_length n m, members_small n m f, ← mask_rank_at n m l f) at r

-- the rank of a mask gives the mask back
pub mask_unrank_rank : (n m : ℕ) → n ≤ 32 → m < 2 ^ n → mask_unrank n (count_ones m) (mask_rank m) ≡ m
unfolding mask_unrank
mask_unrank_rank n m l f =
    let r = unrank_rank (tests_of n m) in
    ap mask_of (rw (tests_length n m, members_small n m f, ← mask_rank_at n m l f) at r) ∙ mask_tests_small n m f

-- the mask of a rank fits the cells
pub mask_unrank_below : (n k r : ℕ) → mask_unrank n k r < 2 ^ n
unfolding mask_unrank
mask_unrank_below n k r = subst (λ (w : ℕ). mask_of (unrank n k r) < 2 ^ w) (unrank_length n k r) (mask_below (unrank n k r))

-- the tests of the mask of a rank
pub tests_unrank : (n k r : ℕ) → tests_of n (mask_unrank n k r) ≡ unrank n k r
unfolding mask_unrank
tests_unrank n k r =
    ap (λ (w : ℕ). tests_of w (mask_of (unrank n k r))) (sym (unrank_length n k r)) ∙ tests_mask (unrank n k r)

-- the mask of a rank has k cells
pub mask_unrank_ones : (n k r : ℕ) → r < binomial n k → count_ones (mask_unrank n k r) ≡ k
mask_unrank_ones n k r l =
    sym (members_small n (mask_unrank n k r) (mask_unrank_below n k r)) ∙ ap members (tests_unrank n k r) ∙ unrank_members n k r l

-- the mask of a rank gives the rank back
pub mask_rank_unrank : (n k r : ℕ) → n ≤ 32 → r < binomial n k → mask_rank (mask_unrank n k r) ≡ r
mask_rank_unrank n k r s l =
    mask_rank_at n (mask_unrank n k r) s (mask_unrank_below n k r) ∙ ap rank (tests_unrank n k r) ∙ rank_unrank n k r l
