-- The heights of columns tell on which cells pieces stand.
use Rattle.std.proofs.Common.{◌≡◌, ℕ, zero, suc, ◌+◌, ◌-◌, ◌*◌, ◌/◌, ◌%◌, ◌<◌, ◌≤◌, Bool, true, false, cond, leb, leb-true, le-leb, List, [], ◌∷◌, map, length, get_or, ◌++◌, refl, sym, ap, ap₂, ◌∙◌, subst, arith, inl, inr, zero-add, mod-lt, mul-le-mul_right, div-lt_iff_lt-mul, true≢false}
use Rattle.std.specs.List.{range_with_len}
use Rattle.std.proofs.lemmas.Bool.{cases_Bool, cases_lt}
use Rattle.std.proofs.lemmas.Bool.Decides.{nat_tests}
use Rattle.std.proofs.lemmas.List.{ext_get_or}
use Rattle.std.proofs.lemmas.List.FromFn.{get_or-map-range_with_len, length-map-range_with_len, map-range_with_len_more}
use Rattle.std.proofs.lemmas.Nat.{div-mul-add, mod-mul-add, div-add-mod'}
use Rattle.gm_board.specs.laws.Arrangements.{pos_of_lt_mul}
use Rattle.gm_board.specs.laws.CellCounts.{one_if}
use Rattle.gm_board.specs.laws.Patterns.{same_tests}
use Rattle.gm_stacks.specs.Heights.{sum_up, total, AreHeights}
use Rattle.gm_stacks.specs.Stacks.{how_many, height_of, heights, is_filled, IsStacked}

-- ---- how many numbers pass a test
-- no more than there are
pub how_many_le : (p : ℕ → Bool) (n : ℕ) → how_many p n ≤ n
how_many_le p zero = omega arith
how_many_le p (suc n) = elim (cases_Bool (p n)) [
  | inl e ↦ rw e (omega (arith, how_many_le p n))
  | inr e ↦ rw e (omega (arith, how_many_le p n))
]

-- tests that agree below n let as many pass
pub same_many : (p q : ℕ → Bool) (n : ℕ) → ((k : ℕ) → k < n → p k ≡ q k) → how_many p n ≡ how_many q n
same_many p q zero h = refl
same_many p q (suc n) h = ap₂ (λ (x : Bool) (m : ℕ). cond x 1 0 + m) (h n (omega arith)) (same_many p q n (λ k l. h k (omega arith)))

-- the numbers below m + n are those below m and n more
pub many_more : (p : ℕ → Bool) (m n : ℕ) → how_many p (m + n) ≡ how_many p m + how_many (λ k. p (m + k)) n
many_more p m zero = ap (how_many p) (let e : m + 0 ≡ m = omega arith in e) ∙ (let e : how_many p m ≡ how_many p m + 0 = omega arith in e)
many_more p m (suc n) =
    ap (how_many p) (let e : m + suc n ≡ suc (m + n) = omega arith in e)
    ∙ (let e : cond (p (m + n)) 1 0 + how_many p (m + n) ≡ how_many p m + (cond (p (m + n)) 1 0 + how_many (λ k. p (m + k)) n) =
    omega (arith, many_more p m n) in e)

-- ---- a column
-- if no number below n passes, none is counted
none_counted : (p : ℕ → Bool) (n : ℕ) → ((k : ℕ) → k < n → p k ≡ false) → how_many p n ≡ 0
none_counted p zero h = refl
none_counted p (suc n) h = rw (h n (omega arith)) (omega (arith, none_counted p n (λ k l. h k (omega arith))))

-- what passes passes further down
further : (q : ℕ → Bool) (n : ℕ) → ((r : ℕ) → r + 1 < n → q r ≡ true → q (r + 1) ≡ true) → (r d : ℕ) → r + d < n → q r ≡ true → q (r + d) ≡ true
further q n h r zero l e = subst (λ (k : ℕ). q k ≡ true) (let z : r ≡ r + 0 = omega arith in z) e
further q n h r (suc d) l e = subst (λ (k : ℕ). q k ≡ true) (let z : r + d + 1 ≡ r + suc d = omega arith in z)
    (h (r + d) (omega arith) (further q n h r d (omega arith) e))

-- in a column of n cells whose pieces stand on one another, the lowest cells have them
pub lowest_taken : (q : ℕ → Bool) (n : ℕ) → ((r : ℕ) → r + 1 < n → q r ≡ true → q (r + 1) ≡ true) → (r : ℕ) → r < n → q r ≡ leb n (r + how_many q n)
lowest_taken q zero h r l = absurd (omega arith)
lowest_taken q (suc n) h r l = elim (cases_Bool (q n)) [
  | inl e ↦ elim (cases_lt r n) [
    | inl k ↦ lowest_taken q n (λ i j. h i (omega arith)) r k ∙ same_tests _ _
        (λ t. let a = leb-true n (r + how_many q n) t in le-leb _ _ (rw e (omega (arith, a))))
        (λ t. let a = leb-true (suc n) (r + (one_if (q n) + how_many q n)) t in
        let b : one_if (q n) ≡ 1 = ap one_if e in le-leb _ _ (omega (arith, a, b)))
    | inr k ↦
        let z : r ≡ n = omega arith in
        let b : one_if (q n) ≡ 1 = ap one_if e in
        ap q z ∙ e ∙ sym (le-leb _ _ (omega (arith, z, b)))
  ]
  | inr e ↦
      let none : (k : ℕ) → k < suc n → q k ≡ false = λ k i. elim (cases_Bool (q k)) [
        | inl t ↦ absurd (true≢false (sym (further q (suc n) h k (n - k) (omega arith) t) ∙ ap q (let z : k + (n - k) ≡ n = omega arith in z) ∙ e))
        | inr f ↦ f
      ] in
      let zero_many = none_counted q (suc n) none in
      none r l ∙ same_tests _ _ (λ t. absurd (true≢false (sym t))) (λ t. absurd (let a = leb-true _ _ t in omega (arith, a, zero_many)))
]

-- as many of the lowest cells of n as the heights say
lowest_counted : (h x n : ℕ) → x ≤ h → how_many (λ r. leb h (r + x)) n ≡ n + x - h
lowest_counted h x zero l = omega arith
lowest_counted h x (suc n) l = elim (cases_lt (n + x) h) [
  | inl k ↦
      let e : leb h (n + x) ≡ false = grind (arith, nat_tests) in
      rw e (omega (arith, lowest_counted h x n l))
  | inr k ↦ rw (le-leb h (n + x) k) (omega (arith, lowest_counted h x n l))
]

-- a height that fits gives the height back
pub height_again : (h x : ℕ) → x ≤ h → how_many (λ r. leb h (r + x)) h ≡ x
height_again h x l = omega (arith, lowest_counted h x h l)

-- ---- all columns
module _ (w h : ℕ) (p : ℕ → Bool) where
  pub heights_length : length (heights w h p) ≡ w
  unfolding heights
  heights_length = length-map-range_with_len (height_of w h p) 0 w

  pub heights_at : (c : ℕ) → c < w → get_or (heights w h p) c 0 ≡ height_of w h p c
  unfolding heights
  heights_at c l = get_or-map-range_with_len (height_of w h p) 0 w c c 0 l (zero-add c)

  -- the lowest cells, as many as the columns are high, are those with pieces
  pub filled_are : IsStacked w h p → (k : ℕ) → k < h * w → p k ≡ is_filled w h (heights w h p) k
  filled_are s k l =
      let pos = pos_of_lt_mul k h w l in
      let c = k % w in
      let r = k / w in
      let low : c < w = mod-lt k pos in
      let e : r * w + c ≡ k = div-add-mod' k w in
      let row : r < h = (div-lt_iff_lt-mul pos).1 l in
      ap p (sym e)
      ∙ lowest_taken (λ i. p (i * w + c)) h (λ i j t. below i c j low t) r row
      ∙ ap (λ (v : ℕ). leb h (r + v)) (sym (heights_at c low))
    where
      below : (i c : ℕ) → i + 1 < h → c < w → p (i * w + c) ≡ true → p ((i + 1) * w + c) ≡ true
      below i c j low t =
          let up : (i + 1 + 1) * w ≤ h * w = mul-le-mul_right w (let z : i + 1 + 1 ≤ h = omega arith in z) in
          subst (λ (k : ℕ). p k ≡ true) (let z : i * w + c + w ≡ (i + 1) * w + c = omega arith in z) (s (i * w + c) (omega (arith, up, low)) t)

  -- no column is higher than there are rows
  pub heights_low : AreHeights h (heights w h p)
  unfolding heights
  heights_low = each_low (range_with_len 0 w)
    where
      each_low : (cs : List ℕ) → AreHeights h (map (height_of w h p) cs)
      each_low [] = tt
      each_low (c ∷ cs) = (how_many_le (λ r. p (r * w + c)) h, each_low cs)

-- tests that agree on all cells give the same heights
pub same_heights : (w h : ℕ) (p q : ℕ → Bool) → ((k : ℕ) → k < h * w → p k ≡ q k) → heights w h p ≡ heights w h q
same_heights w h p q s =
    ext_get_or 0 _ _ (heights_length w h p ∙ sym (heights_length w h q)) (λ c l. each c (let n = heights_length w h p in omega (arith, n, l)))
  where
    each : (c : ℕ) → c < w → get_or (heights w h p) c 0 ≡ get_or (heights w h q) c 0
    each c l =
        heights_at w h p c l
        ∙ same_many (λ r. p (r * w + c)) (λ r. q (r * w + c)) h
        (λ r k. s (r * w + c) (let up : (r + 1) * w ≤ h * w = mul-le-mul_right w (let z : r + 1 ≤ h = omega arith in z) in omega (arith, up, l)))
        ∙ sym (heights_at w h q c l)

-- ---- how many pieces there are
total_more : (xs : List ℕ) (y : ℕ) → total (xs ++ y ∷ []) ≡ total xs + y
total_more [] y = omega arith
total_more (x ∷ xs) y = omega (arith, total_more xs y)

total_is : (f : ℕ → ℕ) (n : ℕ) → total (map f (range_with_len 0 n)) ≡ sum_up f n
total_is f zero = refl
total_is f (suc n) =
    ap (λ (k : ℕ). total (map f (range_with_len 0 k))) (let e : suc n ≡ n + 1 = omega arith in e)
    ∙ ap total (map-range_with_len_more f 0 n n (zero-add n))
    ∙ total_more (map f (range_with_len 0 n)) (f n)
    ∙ ap (λ (v : ℕ). v + f n) (total_is f n)

sum_of_both : (f g : ℕ → ℕ) (n : ℕ) → sum_up (λ c. f c + g c) n ≡ sum_up f n + sum_up g n
sum_of_both f g zero = refl
sum_of_both f g (suc n) = omega (arith, sum_of_both f g n)

sum_of_ones : (p : ℕ → Bool) (n : ℕ) → sum_up (λ c. one_if (p c)) n ≡ how_many p n
sum_of_ones p zero = refl
sum_of_ones p (suc n) = omega (arith, sum_of_ones p n)

sum_of_none : (n : ℕ) → sum_up (λ c. 0) n ≡ 0
sum_of_none zero = refl
sum_of_none (suc n) = omega (arith, sum_of_none n)

-- by columns there are as many pieces as by cells
columns_and_cells : (w h : ℕ) (p : ℕ → Bool) → sum_up (height_of w h p) w ≡ how_many p (h * w)
columns_and_cells w zero p = sum_of_none w ∙ ap (how_many p) (let e : 0 ≡ 0 * w = omega arith in e)
columns_and_cells w (suc h) p =
    sum_of_both (λ c. one_if (p (h * w + c))) (height_of w h p) w
    ∙ ap₂ (λ (x y : ℕ). x + y) (sum_of_ones (λ c. p (h * w + c)) w) (columns_and_cells w h p)
    ∙ (let e : how_many (λ c. p (h * w + c)) w + how_many p (h * w) ≡ how_many p (h * w + w) = omega (arith, many_more p (h * w) w) in e)
    ∙ ap (how_many p) (let e : h * w + w ≡ suc h * w = omega arith in e)

-- the heights have as many pieces as the cells
pub heights_total : (w h : ℕ) (p : ℕ → Bool) → total (heights w h p) ≡ how_many p (h * w)
unfolding heights
heights_total w h p = total_is (height_of w h p) w ∙ columns_and_cells w h p

-- ---- the cells of heights
height_in : (h : ℕ) (hs : List ℕ) → AreHeights h hs → (c : ℕ) → c < length hs → get_or hs c 0 ≤ h
height_in h [] a c l = absurd (omega arith)
height_in h (x ∷ xs) a zero l = a.0
height_in h (x ∷ xs) a (suc c) l = height_in h xs a.1 c (omega arith)

module _ (w h : ℕ) (hs : List ℕ) (e : length hs ≡ w) (a : AreHeights h hs) where
  -- the cells of some heights have these heights
  pub heights_back : heights w h (is_filled w h hs) ≡ hs
  heights_back = ext_get_or 0 _ _ (heights_length w h (is_filled w h hs) ∙ sym e) (λ c l. each c (let n = heights_length w h (is_filled w h hs) in omega (arith, n, l)))
    where
      each : (c : ℕ) → c < w → get_or (heights w h (is_filled w h hs)) c 0 ≡ get_or hs c 0
      each c l =
          let x = get_or hs c 0 in
          heights_at w h (is_filled w h hs) c l
          ∙ same_many (λ r. is_filled w h hs (r * w + c)) (λ r. leb h (r + x)) h
          (λ r k. ap₂ (λ (i j : ℕ). leb h (i + get_or hs j 0)) (div-mul-add r w c l) (mod-mul-add r w c l))
          ∙ height_again h x (height_in h hs a c (omega (arith, e, l)))

  -- and there are as many
  pub filled_many : how_many (is_filled w h hs) (h * w) ≡ total hs
  filled_many = sym (heights_total w h (is_filled w h hs)) ∙ ap total heights_back

-- pieces on them stand on one another
pub filled_stacked : (w h : ℕ) (hs : List ℕ) → IsStacked w h (is_filled w h hs)
filled_stacked w h hs k l t =
    let pos = pos_of_lt_mul (k + w) h w l in
    let a = leb-true h (k / w + get_or hs (k % w) 0) t in
    let low = mod-lt k pos in
    let z : k + w ≡ (k / w + 1) * w + k % w = (let q = div-add-mod' k w in omega (arith, q)) in
    let row : (k + w) / w ≡ k / w + 1 = ap (λ (v : ℕ). v / w) z ∙ div-mul-add (k / w + 1) w (k % w) low in
    let column : (k + w) % w ≡ k % w = ap (λ (v : ℕ). v % w) z ∙ mod-mul-add (k / w + 1) w (k % w) low in
    le-leb _ _ (rw (row, column) (omega (arith, a)))
