-- The sets of four squares by their ranks, and the fox by the number of free squares below it.
use Rattle.std.specs.Prelude.{◌≡◌, ◌⊎◌, ◌+◌, ◌-◌, ◌*◌, ◌/◌, ◌%◌, ◌^◌, ◌<◌, ◌≤◌, ◌&&◌}
use Rattle.gm_pieces.specs.Common.{ℕ, suc, Bool, true, false, eqb, eqb-true, leb, leb-true, ltb, ltb-true, List, map, get_or, list_all, range_with_len, flat_map, refl, sym, ap, ap₂, ◌∙◌, subst, arith, inl, inr, cases_lt, cases_eq, bit_at, bit_at_above, bit_and, trailing_zeros, w32, count_ones, has_cell, mask_unrank, members, rank, at_below, pascal, tests_none, tests_length, members_small, members_le, and_left, and_right, pow_pos, one_shl}
unfoldable use Rattle.gm_board.specs.Binomials.{binomial}
use Rattle.gm_board.specs.Masks.{tests_of}
use Rattle.gm_board.specs.laws.Masks.{members_skips, members_add, members_ones, mask_unrank_below}
use Rattle.gm_board.specs.laws.NextCells.{cell_none}
use Rattle.gm_board.proofs.FourSteps.{subsets_at, binomial_wide, mask_unrank_wide}
unfoldable use Rattle.gm_board.proofs.FourSteps.{subsets}
use Rattle.gm_board.proofs.RankSteps.{IsCounted}
use Rattle.gm_board.proofs.UnrankSteps.{mask_unrank_in}
use Rattle.gm_board.proofs.LowestCells.{IsRest, rest_whole, lowest, nothing_left}
use Rattle.gm_squares.specs.declared.hounds.TheConstants.{PAIRS, FIRST, NEAR}

-- ---- the mask of a rank by its two highest squares d and c, and the pair of the others
module _ (d c r : ℕ) (less : c < d) (within : d < 32) where
  abbrev first : ℕ
  first = binomial d 4 + binomial c 3

  pub by_top : first ≤ r → r < first + binomial c 2 → mask_unrank 32 4 r ≡ 2 ^ d + (2 ^ c + mask_unrank 32 2 (r - first))
  by_top low high =
      let s = r - binomial d 4 in
      let t = s - binomial c 3 in
      let same : t ≡ r - first = omega arith in
      let three : s < binomial (suc c) 3 = omega (arith, low, high, pascal c 2) in
      let wide : binomial (suc c) 3 ≤ binomial d 3 =
      subst (λ (n : ℕ). binomial (suc c) 3 ≤ binomial n 3) (let z : suc c + (d - suc c) ≡ d = omega (arith, less) in z) (binomial_wide (suc c) (d - suc c) 3) in
      let four : r < binomial (suc d) 4 = omega (arith, low, high, three, wide, pascal d 3) in
      ap (λ (n : ℕ). mask_unrank n 4 r) (let z : 32 ≡ suc d + (32 - suc d) = omega (arith, within) in z)
      ∙ mask_unrank_wide (suc d) (32 - suc d) 4 r four
      ∙ mask_unrank_in d 3 r (omega (arith, low))
      ∙ ap (λ (v : ℕ). 2 ^ d + v) (
      ap (λ (n : ℕ). mask_unrank n 3 s) (let z : d ≡ suc c + (d - suc c) = omega (arith, less) in z)
      ∙ mask_unrank_wide (suc c) (d - suc c) 3 s three
      ∙ mask_unrank_in c 2 s (omega (arith, low))
      ∙ ap (λ (v : ℕ). 2 ^ c + v) (
      sym (mask_unrank_wide c (32 - c) 2 t (omega (arith, low, high)))
      ∙ ap₂ (λ (n u : ℕ). mask_unrank n 2 u) (let z : c + (32 - c) ≡ 32 = omega (arith, less, within) in z) same))

-- ---- the tables
-- binomial coefficients by products, which take fewer steps to compute
two : ℕ → ℕ
two n = n * (n - 1) / 2

three : ℕ → ℕ
three n = n * (n - 1) * (n - 2) / 6

four : ℕ → ℕ
four n = n * (n - 1) * (n - 2) * (n - 3) / 24

are_binomials : ℕ → Bool
are_binomials n = eqb (binomial n 2) (two n) && (eqb (binomial n 3) (three n) && eqb (binomial n 4) (four n))

binomial_table : list_all are_binomials (range_with_len 0 32) ≡ true
unfolding are_binomials two three four binomial
binomial_table = refl

binomials : (n : ℕ) → n < 32 → (binomial n 2 ≡ two n) × ((binomial n 3 ≡ three n) × (binomial n 4 ≡ four n))
unfolding are_binomials
binomials n l =
    let e = at_below 32 are_binomials binomial_table n l in
    let r = and_right _ _ e in
    (eqb-true _ _ (and_left _ _ e), (eqb-true _ _ (and_left _ _ r), eqb-true _ _ (and_right _ _ r)))

-- the two highest squares of the sets from each place of `FIRST` on
tops : List (ℕ × ℕ)
tops = flat_map (λ b. map (λ a. (b + 2, a + 2)) (range_with_len 0 b)) (range_with_len 0 30)

top : ℕ → ℕ × ℕ
top k = get_or tops k (1, 0)

-- whether the tables agree with the squares
abbrev is_less : ℕ → Bool
is_less k = ltb (top k).1 (top k).0

abbrev is_within : ℕ → Bool
is_within k = ltb (top k).0 32

abbrev is_first : ℕ → Bool
is_first k = eqb (get_or FIRST k 0) (four (top k).0 + three (top k).1)

abbrev is_next : ℕ → Bool
is_next k = leb (get_or FIRST (k + 1) 0) (get_or FIRST k 0 + two (top k).1)

abbrev are_squares : ℕ → Bool
are_squares k = eqb (4 * get_or PAIRS k 0) (2 ^ (top k).0 + 2 ^ (top k).1)

abbrev is_top : ℕ → Bool
is_top k = is_less k && (is_within k && (is_first k && (is_next k && are_squares k)))

tops_table : list_all is_top (range_with_len 0 435) ≡ true
unfolding top tops two three four
tops_table = refl

pairs_number : binomial 32 2 ≡ 496
unfolding binomial
pairs_number = refl

pairs_are : subsets 32 2 ≡ PAIRS
unfolding subsets
pairs_are = refl

pub pair_at : (t : ℕ) → t < 496 → get_or PAIRS t 0 ≡ mask_unrank 32 2 t
pair_at t l = ap (λ (xs : List ℕ). get_or xs t 0) (sym pairs_are) ∙ subsets_at 32 2 t (omega (arith, pairs_number, l))

-- what the tables have at a place
record IsTop (k : ℕ) : Type 0 where
  less : (top k).1 < (top k).0
  within : (top k).0 < 32
  first : get_or FIRST k 0 ≡ binomial (top k).0 4 + binomial (top k).1 3
  next : get_or FIRST (k + 1) 0 ≤ get_or FIRST k 0 + binomial (top k).1 2
  squares : 4 * get_or PAIRS k 0 ≡ 2 ^ (top k).0 + 2 ^ (top k).1

top_is : (k : ℕ) → k < 435 → IsTop k
top_is k l =
    let e = at_below 435 is_top tops_table k l in
    let e1 = and_right (is_less k) (is_within k && (is_first k && (is_next k && are_squares k))) e in
    let e2 = and_right (is_within k) (is_first k && (is_next k && are_squares k)) e1 in
    let e3 = and_right (is_first k) (is_next k && are_squares k) e2 in
    let less : (top k).1 < (top k).0 = ltb-true _ _ (and_left (is_less k) _ e) in
    let within : (top k).0 < 32 = ltb-true _ _ (and_left (is_within k) _ e1) in
    let low_within : (top k).1 < 32 = omega (arith, less, within) in
    let high = binomials (top k).0 within in
    let low = binomials (top k).1 low_within in
    let two_is = low.0 in
    let three_is = low.1.0 in
    record {
      less = less;
      within = within;
      first = eqb-true _ _ (and_left (is_first k) _ e2) ∙ ap₂ (λ (x y : ℕ). x + y) (sym high.1.1) (sym three_is);
      next = (let z : get_or FIRST (k + 1) 0 ≤ get_or FIRST k 0 + two (top k).1 = leb-true _ _ (and_left (is_next k) _ e3) in omega (arith, z, two_is));
      squares = eqb-true _ _ (and_right (is_next k) _ e3);
    }

-- the mask of four squares with a rank, by the last place of `FIRST` that isn't above it
pub record IsFour (k r : ℕ) : Type 0 where
  pub rest : r - get_or FIRST k 0 < 496
  pub mask : 4 * mask_unrank 32 2 k + mask_unrank 32 2 (r - get_or FIRST k 0) ≡ mask_unrank 32 4 r
  pub fits : mask_unrank 32 4 r < 2 ^ 32

pub four_is : (k r : ℕ) → k < 435 → get_or FIRST k 0 ≤ r → r < get_or FIRST (k + 1) 0 → IsFour k r
four_is k r l low high =
    let t = top_is k l in
    let f = t.first in
    let n = t.next in
    let s = t.squares in
    let less = t.less in
    let within = t.within in
    let d = (top k).0 in
    let c = (top k).1 in
    let pairs : binomial c 2 ≤ binomial 32 2 =
    subst (λ (m : ℕ). binomial c 2 ≤ binomial m 2) (let z : c + (32 - c) ≡ 32 = omega (arith, less, within) in z) (binomial_wide c (32 - c) 2) in
    let few : r - get_or FIRST k 0 < 496 = omega (arith, n, high, pairs, pairs_number) in
    let is = by_top d c r less within (omega (arith, f, low)) (omega (arith, f, n, high)) in
    let same : mask_unrank 32 2 (r - (binomial d 4 + binomial c 3)) ≡ mask_unrank 32 2 (r - get_or FIRST k 0) = ap (λ (v : ℕ). mask_unrank 32 2 (r - v)) (sym f) in
    let high_pair = pair_at k (omega (arith, l)) in
    let fits = mask_unrank_below 32 4 r in
    record { rest = few; mask = omega (arith, is, same, s, high_pair); fits = fits }

-- the place from which a search begins
near_table : list_all (λ j. ltb (get_or NEAR j 0) 435 && leb (get_or FIRST (get_or NEAR j 0) 0) (64 * j)) (range_with_len 0 562) ≡ true
near_table = refl

pub near : (j : ℕ) → j < 562 → (get_or NEAR j 0 < 435) × (get_or FIRST (get_or NEAR j 0) 0 ≤ 64 * j)
near j l =
    let e = at_below 562 (λ j. ltb (get_or NEAR j 0) 435 && leb (get_or FIRST (get_or NEAR j 0) 0) (64 * j)) near_table j l in
    (ltb-true _ _ (and_left _ _ e), leb-true _ _ (and_right _ _ e))

last_first : get_or FIRST 435 0 ≡ 35960
last_first = refl

-- a place from which the search goes on isn't the last
pub goes_on : (k r : ℕ) → k < 435 → get_or FIRST (k + 1) 0 ≤ r → r < 35960 → k + 1 < 435
goes_on k r l low high = elim (cases_eq (k + 1) 435) [
  | inl e ↦ absurd (let z = ap (λ (i : ℕ). get_or FIRST i 0) e in omega (arith, z, last_first, low, high))
  | inr n ↦ omega (arith, l, n)
]

-- ---- the rank of a mask: no square is counted yet
pub none_counted : (mask : ℕ) → IsCounted mask mask 0 0
none_counted mask = record {
  next = 0;
  within = omega arith;
  is_rest = rest_whole mask;
  is_count = sym (ap members (tests_none mask));
  is_sum = sym (ap rank (tests_none mask));
}

-- ---- the fox's square: of the hounds up to some `next` those below it are counted
pub record IsPassed (hounds number rest fox : ℕ) : Type 0 where
  pub next : ℕ
  pub within : next ≤ 32
  pub is_rest : IsRest hounds next rest
  pub is_fox : ((next ≤ fox) × (fox ≡ number + members (tests_of next hounds)))
      ⊎ ((fox < next) × ((bit_at hounds fox ≡ 0) × (fox ≡ number + members (tests_of fox hounds))))

-- no hound is passed yet
pub none_passed : (hounds number : ℕ) → IsPassed hounds number hounds number
none_passed hounds number = record {
  next = 0;
  within = omega arith;
  is_rest = rest_whole hounds;
  is_fox = inl (omega arith, (let e = ap members (tests_none hounds) in omega (arith, e)));
}

members_few : (n m : ℕ) → members (tests_of n m) ≤ n
members_few n m = let x = members_le (tests_of n m) in let y = tests_length n m in omega (arith, x, y)

pub passed_small : (hounds number rest fox : ℕ) → IsPassed hounds number rest fox → fox ≤ number + 32
passed_small hounds number rest fox h =
    let w = h.within in
    elim h.is_fox [
      | inl x ↦ (let e = x.1 in let f = members_few h.next hounds in omega (arith, w, e, f))
      | inr x ↦ (let l = x.0 in omega (arith, w, l))
    ]

-- between `next` and the lowest hound of the rest there is none
members_until : (hounds next c i : ℕ) → ((j : ℕ) → j < c - next → bit_at hounds (next + j) ≡ 0) → next ≤ i → i ≤ c
    → members (tests_of i hounds) ≡ members (tests_of next hounds)
members_until hounds next c i none low high =
    ap (λ (k : ℕ). members (tests_of k hounds)) (let z : i ≡ next + (i - next) = omega (arith, low) in z)
    ∙ members_skips next (i - next) hounds (λ j l. none j (omega (arith, l, high, low)))

module _ (hounds number rest fox : ℕ) (h : IsPassed hounds number rest fox) (g : rest < 2 ^ 32) (p : 0 < rest) where
  abbrev c : ℕ
  c = trailing_zeros w32 rest

  -- a hound at the fox or below it
  pub pass_up : c ≤ fox → IsPassed hounds number (bit_and rest (rest - 1)) (fox + 1)
  pass_up u =
      let z = lowest hounds h.next rest h.is_rest g p in
      let from = z.from in
      record {
        next = c + 1;
        within = (let s = z.small in omega (arith, s));
        is_rest = z.left;
        is_fox = elim h.is_fox [
          | inl x ↦ inl (
            omega (arith, u),
            (
                let e = x.1 in
                let same = members_until hounds h.next c c z.none from (omega arith) in
                let one = members_add c hounds z.has in
                let add = ap (λ (k : ℕ). members (tests_of k hounds)) (let q : c + 1 ≡ suc c = omega arith in q) in
                omega (arith, e, same, one, add)),
          )
          | inr x ↦ absurd (let l = x.0 in omega (arith, l, from, u))
        ];
      }

  -- a hound above it
  pub pass_by : fox < c → IsPassed hounds number (bit_and rest (rest - 1)) fox
  pass_by u =
      let z = lowest hounds h.next rest h.is_rest g p in
      record {
        next = c + 1;
        within = (let s = z.small in omega (arith, s));
        is_rest = z.left;
        is_fox = inr (
          omega (arith, u),
          elim h.is_fox [
            | inl x ↦ (
                let low = x.0 in
                let e = x.1 in
                let same = members_until hounds h.next c fox z.none low (omega (arith, u)) in
                let free = z.none (fox - h.next) (omega (arith, low, u)) in
                let at : h.next + (fox - h.next) ≡ fox = omega (arith, low) in
                (subst (λ (k : ℕ). bit_at hounds k ≡ 0) at free, omega (arith, e, same)))
            | inr x ↦ x.1
          ],
        );
      }

-- what holds for the fox's square
pub record IsFoxAt (hounds number fox : ℕ) : Type 0 where
  pub within : fox < 32
  pub free : has_cell hounds fox ≡ false
  pub counted : fox ≡ number + count_ones (hounds % 2 ^ fox)

all_passed : (hounds number rest fox : ℕ) → IsPassed hounds number rest fox → rest ≡ 0 → (bit_at hounds fox ≡ 0) × (fox ≡ number + members (tests_of fox hounds))
all_passed hounds number rest fox h e = elim h.is_fox [
  | inl x ↦ (
      let low = x.0 in
      let is = x.1 in
      let same = members_until hounds h.next fox fox (λ j l. nothing_left hounds h.next rest (h.next + j) h.is_rest e (omega arith)) low (omega arith) in
      (nothing_left hounds h.next rest fox h.is_rest e low, omega (arith, is, same)))
  | inr x ↦ x.1
]

pub fox_is : (hounds number rest fox : ℕ) → IsPassed hounds number rest fox → rest ≡ 0 → hounds < 2 ^ 32 → count_ones hounds ≡ 4 → number < 28
    → IsFoxAt hounds number fox
fox_is hounds number rest fox h e l four few =
    let a = all_passed hounds number rest fox h e in
    let free = a.0 in
    let is = a.1 in
    let small = passed_small hounds number rest fox h in
    let below : fox < 32 = elim (cases_lt fox 32) [
      | inl k ↦ k
      | inr k ↦ absurd (
          let all = members_small 32 hounds l in
          let wide = members_until hounds 32 fox fox (λ j q. bit_at_above hounds 32 (32 + j) l (omega arith)) k (omega arith) in
          omega (arith, all, wide, four, few, is, k))
    ] in
    let ones = members_ones fox hounds in
    record { within = below; free = cell_none hounds fox free; counted = omega (arith, is, ones) }

-- the squares below the fox, as a mask
pub some_below : (fox : ℕ) → fox < 32 → 0 < 1 * 2 ^ fox % 2 ^ 32
some_below fox l = let e = one_shl fox 32 l in let p = pow_pos fox in omega (arith, e, p)

pub below_counted : (hounds fox : ℕ) → fox < 32 → count_ones (hounds % (1 * 2 ^ fox % 2 ^ 32)) ≡ count_ones (hounds % 2 ^ fox)
below_counted hounds fox l = ap (λ (v : ℕ). count_ones (hounds % v)) (one_shl fox 32 l)

-- no more hounds than squares are below the fox
pub few_below : (hounds fox : ℕ) → count_ones (hounds % 2 ^ fox) ≤ fox
few_below hounds fox = let ones = members_ones fox hounds in let few = members_few fox hounds in omega (arith, ones, few)
