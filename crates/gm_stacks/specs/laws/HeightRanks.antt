-- The ranks of lists of heights are one to one.
use Rattle.std.proofs.Common.{◌≡◌, ℕ, zero, suc, ◌+◌, ◌-◌, ◌<◌, ◌≤◌, false, ltb, lt-ltb, List, [], ◌∷◌, length, refl, sym, ap, ap₂, ◌∙◌, subst, arith, inl, inr, ◌*◌, ◌^◌, mul-le-mul_right, pow-suc}
use Rattle.std.proofs.lemmas.Bool.{cases_lt}
use Rattle.std.proofs.lemmas.Bool.Decides.{nat_tests}
use Rattle.gm_stacks.specs.Heights.{sum_down, stackings, total, AreHeights, rank_heights, first_height, unrank_heights}

not_below : (a b : ℕ) → b ≤ a → ltb a b ≡ false
not_below a b l = grind (arith, nat_tests)

-- nothing taken away
whole : (f : ℕ → ℕ) (s : ℕ) → f (s - 0) ≡ f s
whole f s = ap f (let e : s - 0 ≡ s = omega arith in e)

-- one taken away from both
both_less : (f : ℕ → ℕ) (s x : ℕ) → f (suc s - suc x) ≡ f (s - x)
both_less f s x = ap f (let e : suc s - suc x ≡ s - x = omega arith in e)

-- ---- sums
-- the terms before a height, and its own, are among all
pub sum_down_within : (f : ℕ → ℕ) (y x s : ℕ) → x ≤ y → x ≤ s → sum_down f x s + f (s - x) ≤ sum_down f (suc y) s
sum_down_within f y zero zero l k = omega arith
sum_down_within f y zero (suc s) l k = let e = whole f (suc s) in omega (arith, e)
sum_down_within f zero (suc x) s l k = absurd (omega arith)
sum_down_within f (suc y) (suc x) zero l k = absurd (omega arith)
sum_down_within f (suc y) (suc x) (suc s) l k =
    let e = both_less f s x in omega (arith, e, sum_down_within f y x s (omega arith) (omega arith))

-- one more term
pub next_term : (f : ℕ → ℕ) (x s : ℕ) → x ≤ s → sum_down f (x + 1) s ≡ sum_down f x s + f (s - x)
next_term f x s l = ap (λ (k : ℕ). sum_down f k s) (let z : x + 1 ≡ suc x = omega arith in z) ∙ term f x s l
  where
    term : (f : ℕ → ℕ) (x s : ℕ) → x ≤ s → sum_down f (suc x) s ≡ sum_down f x s + f (s - x)
    term f zero zero l = omega arith
    term f zero (suc s) l = let e = whole f (suc s) in omega (arith, e)
    term f (suc x) zero l = absurd (omega arith)
    term f (suc x) (suc s) l = let e = both_less f s x in omega (arith, e, term f x s (omega arith))

-- there are no terms past the last
pub last_term : (f : ℕ → ℕ) (y s : ℕ) → s ≤ y → sum_down f (y + 1) s ≡ sum_down f (s + 1) s
last_term f y s l =
    ap (λ (k : ℕ). sum_down f k s) (let z : y + 1 ≡ suc y = omega arith in z)
    ∙ last f y s l
    ∙ ap (λ (k : ℕ). sum_down f k s) (let z : suc s ≡ s + 1 = omega arith in z)
  where
    last : (f : ℕ → ℕ) (y s : ℕ) → s ≤ y → sum_down f (suc y) s ≡ sum_down f (suc s) s
    last f y zero l = refl
    last f zero (suc s) l = absurd (omega arith)
    last f (suc y) (suc s) l = ap (λ (n : ℕ). f (suc s) + n) (last f y s (omega arith))

-- ---- the first height
-- a rank among those with this first height gives the height
pub first_back : (f : ℕ → ℕ) (y x s r : ℕ) → x ≤ y → x ≤ s → r < f (s - x) → first_height f y s (sum_down f x s + r) ≡ x
first_back f zero zero s r l k b = refl
first_back f zero (suc x) s r l k b = absurd (omega arith)
first_back f (suc y) zero zero r l k b = refl
first_back f (suc y) zero (suc s) r l k b = let e = whole f (suc s) in rw (lt-ltb (0 + r) (f (suc s)) (omega (arith, b, e))) refl
first_back f (suc y) (suc x) zero r l k b = absurd (omega arith)
first_back f (suc y) (suc x) (suc s) r l k b =
    let e = both_less f s x in
    let rest = first_back f y x s r (omega arith) (omega arith) (omega (arith, b, e)) in
    let d = sum_down f x s in
    let back : f (suc s) + d + r - f (suc s) ≡ d + r = omega arith in
    rw (not_below (f (suc s) + d + r) (f (suc s)) (omega arith)) (ap suc (ap (first_height f y s) back ∙ rest))

-- the same, by the bounds of the rank
pub first_found : (f : ℕ → ℕ) (y x s r : ℕ) → x ≤ y → x ≤ s → sum_down f x s ≤ r → r < sum_down f (x + 1) s → x ≡ first_height f y s r
first_found f y x s r l k a b =
    let e = next_term f x s k in
    sym (first_back f y x s (r - sum_down f x s) l k (omega (arith, a, b, e)))
    ∙ ap (first_height f y s) (let z : sum_down f x s + (r - sum_down f x s) ≡ r = omega (arith, a) in z)

-- what holds of the first height of a rank
pub record IsFirst (f : ℕ → ℕ) (y s r x : ℕ) : Type 0 where
  pub room : x ≤ y
  pub few : x ≤ s
  pub low : sum_down f x s ≤ r
  pub high : r < sum_down f x s + f (s - x)

pub first_is : (f : ℕ → ℕ) (y s r : ℕ) → r < sum_down f (suc y) s → IsFirst f y s r (first_height f y s r)
first_is f zero zero r l = record { room = omega arith; few = omega arith; low = omega arith; high = omega arith }
first_is f zero (suc s) r l = let e = whole f (suc s) in record { room = omega arith; few = omega arith; low = omega arith; high = omega (arith, e, l) }
first_is f (suc y) zero r l = record { room = omega arith; few = omega arith; low = omega arith; high = omega arith }
first_is f (suc y) (suc s) r l = elim (cases_lt r (f (suc s))) [
  | inl h ↦ let e = whole f (suc s) in
      rw (lt-ltb r (f (suc s)) h) (record { room = omega arith; few = omega arith; low = omega arith; high = omega (arith, e, h) })
  | inr h ↦
      let z = first_is f y s (r - f (suc s)) (omega (arith, l, h)) in
      let a = z.room in
      let b = z.few in
      let c = z.low in
      let d = z.high in
      let e = both_less f s (first_height f y s (r - f (suc s))) in
      rw (not_below r (f (suc s)) h) (record {
        room = omega (arith, a);
        few = omega (arith, b);
        low = omega (arith, c, h);
        high = omega (arith, d, h, e);
      })
]

-- ---- ranks
-- a rank is below the number of such lists
pub rank_within : (h : ℕ) (hs : List ℕ) → AreHeights h hs → rank_heights h hs < stackings h (length hs) (total hs)
unfolding rank_heights stackings
rank_within h [] l = omega arith
rank_within h (x ∷ xs) l =
    let f = stackings h (length xs) in
    let a = sum_down_within f h x (x + total xs) l.0 (omega arith) in
    let b : f (x + total xs - x) ≡ f (total xs) = ap f (omega arith) in
    omega (arith, a, b, rank_within h xs l.1)

-- there are at most 7 ^ 6 lists of at most 6 heights up to 6
sum_small : (f : ℕ → ℕ) (b x s : ℕ) → ((j : ℕ) → f j ≤ b) → sum_down f x s ≤ x * b
sum_small f b zero s l = omega arith
sum_small f b (suc x) zero l = omega (arith, l 0)
sum_small f b (suc x) (suc s) l = omega (arith, l (suc s), sum_small f b x s l)

pub stackings_small : (h k s : ℕ) → h ≤ 6 → stackings h k s ≤ 7 ^ k
unfolding stackings
stackings_small h zero zero l = omega arith
stackings_small h zero (suc s) l = omega arith
stackings_small h (suc k) s l =
    let a = sum_small (stackings h k) (7 ^ k) (suc h) s (λ j. stackings_small h k j l) in
    let b : suc h * 7 ^ k ≤ 7 * 7 ^ k = mul-le-mul_right (7 ^ k) (omega arith) in
    omega (arith, a, b, pow-suc 7 k)

pub low_power : (k : ℕ) → k ≤ 6 → 7 ^ k ≤ 117649
low_power zero l = omega arith
low_power (suc zero) l = omega arith
low_power (suc (suc zero)) l = omega arith
low_power (suc (suc (suc zero))) l = omega arith
low_power (suc (suc (suc (suc zero)))) l = omega arith
low_power (suc (suc (suc (suc (suc zero))))) l = omega arith
low_power (suc (suc (suc (suc (suc (suc zero)))))) l = omega arith
low_power (suc (suc (suc (suc (suc (suc (suc k))))))) l = absurd (omega arith)

pub stackings_few : (h k s : ℕ) → h ≤ 6 → k ≤ 6 → stackings h k s ≤ 117649
stackings_few h k s l m = let a = stackings_small h k s l in let b = low_power k m in omega (arith, a, b)

-- the rank of a list of heights gives the list back
pub heights_back : (h : ℕ) (hs : List ℕ) → AreHeights h hs → unrank_heights h (length hs) (total hs) (rank_heights h hs) ≡ hs
unfolding rank_heights unrank_heights
heights_back h [] l = refl
heights_back h (x ∷ xs) l =
    let f = stackings h (length xs) in
    let s = x + total xs in
    let b : s - x ≡ total xs = omega arith in
    let q = rank_heights h xs in
    let r : sum_down f x s + q - sum_down f x s ≡ q = omega arith in
    let small : q < f (s - x) = subst (λ (n : ℕ). q < f n) (sym b) (rank_within h xs l.1) in
    let first = first_back f h x s q l.0 (omega arith) small in
    ap (λ (y : ℕ). y ∷ unrank_heights h (length xs) (s - y) (sum_down f x s + q - sum_down f y s)) first
    ∙ ap₂ (λ (m n : ℕ). x ∷ unrank_heights h (length xs) m n) b r
    ∙ ap (λ (ys : List ℕ). x ∷ ys) (heights_back h xs l.1)

-- no piece stands on no column
none_placed : (h s : ℕ) → stackings h 0 (suc s) ≡ 0
unfolding stackings
none_placed h s = refl

-- the list of a rank
pub record IsRanked (h k s r : ℕ) (hs : List ℕ) : Type 0 where
  pub columns : length hs ≡ k
  pub low : AreHeights h hs
  pub all : total hs ≡ s
  pub back : rank_heights h hs ≡ r

pub ranked : (h k s r : ℕ) → r < stackings h k s → IsRanked h k s r (unrank_heights h k s r)
unfolding rank_heights unrank_heights stackings
ranked h zero zero r l = record { columns = refl; low = tt; all = refl; back = omega arith }
ranked h zero (suc s) r l = absurd (omega (arith, none_placed h s, l))
ranked h (suc k) s r l =
    let f = stackings h k in
    let z = first_is f h s r l in
    let x = first_height f h s r in
    let q = r - sum_down f x s in
    let few = z.few in
    let low = z.low in
    let high = z.high in
    let y = ranked h k (s - x) q (omega (arith, low, high)) in
    let all : x + total (unrank_heights h k (s - x) q) ≡ s = omega (arith, y.all, few) in
    record {
      columns = ap suc y.columns;
      low = (z.room, y.low);
      all = all;
      back =
          ap₂ (λ (j n : ℕ). sum_down (stackings h j) x n + rank_heights h (unrank_heights h k (s - x) q)) y.columns all
          ∙ ap (λ (n : ℕ). sum_down f x s + n) y.back
          ∙ (let e : sum_down f x s + q ≡ r = omega (arith, low) in e);
    }

-- ---- one height more, and one less
-- a list with one more height before the first
module _ (h k s r x : ℕ) (l : r < stackings h k s) (low : x ≤ h) where
  abbrev xs : List ℕ
  xs = unrank_heights h k s r

  more_low : AreHeights h (x ∷ xs)
  more_low = (low, (ranked h k s r l).low)

  more_long : length (x ∷ xs) ≡ k + 1
  more_long = let e = (ranked h k s r l).columns in omega (arith, e)

  more_total : total (x ∷ xs) ≡ s + x
  more_total = let e = (ranked h k s r l).all in omega (arith, e)

  more_rank : rank_heights h (x ∷ xs) ≡ sum_down (stackings h k) x (s + x) + r
  unfolding rank_heights
  more_rank =
      ap₂ (λ (j n : ℕ). sum_down (stackings h j) x n + rank_heights h xs) (ranked h k s r l).columns more_total
      ∙ ap (λ (n : ℕ). sum_down (stackings h k) x (s + x) + n) (ranked h k s r l).back

  pub more_below : sum_down (stackings h k) x (s + x) + r < stackings h (k + 1) (s + x)
  more_below = subst (λ (n : ℕ). n < stackings h (k + 1) (s + x)) more_rank
      (subst (λ (n : ℕ). rank_heights h (x ∷ xs) < n) (ap₂ (stackings h) more_long more_total) (rank_within h (x ∷ xs) more_low))

  pub more_is : unrank_heights h (k + 1) (s + x) (sum_down (stackings h k) x (s + x) + r) ≡ x ∷ unrank_heights h k s r
  more_is =
      ap (unrank_heights h (k + 1) (s + x)) (sym more_rank)
      ∙ ap₂ (λ (j n : ℕ). unrank_heights h j n (rank_heights h (x ∷ xs))) (sym more_long) (sym more_total)
      ∙ heights_back h (x ∷ xs) more_low

-- a list without its first height
module _ (h k s r : ℕ) (some : 0 < k) (l : r < stackings h k s) where
  abbrev ways : ℕ → ℕ
  ways = stackings h (k - 1)

  one_less : k ≡ suc (k - 1)
  one_less = omega (arith, some)

  pub first_bound : r < sum_down (stackings h (k - 1)) (h + 1) s
  unfolding stackings
  first_bound = subst (λ (n : ℕ). r < sum_down ways n s) (let z : suc h ≡ h + 1 = omega arith in z) (subst (λ (j : ℕ). r < stackings h j s) one_less l)

  pub first_fits : IsFirst (stackings h (k - 1)) h s r (first_height (stackings h (k - 1)) h s r)
  first_fits = first_is ways h s r (subst (λ (n : ℕ). r < sum_down ways n s) (let z : h + 1 ≡ suc h = omega arith in z) first_bound)

  pub rest_below : r - sum_down (stackings h (k - 1)) (first_height (stackings h (k - 1)) h s r) s < stackings h (k - 1) (s - first_height (stackings h (k - 1)) h s r)
  rest_below = let a = first_fits.low in let b = first_fits.high in omega (arith, a, b)

  pub rest_is : unrank_heights h k s r ≡ first_height (stackings h (k - 1)) h s r
      ∷ unrank_heights h (k - 1) (s - first_height (stackings h (k - 1)) h s r) (r - sum_down (stackings h (k - 1)) (first_height (stackings h (k - 1)) h s r) s)
  unfolding unrank_heights
  rest_is = ap (λ (j : ℕ). unrank_heights h j s r) one_less
