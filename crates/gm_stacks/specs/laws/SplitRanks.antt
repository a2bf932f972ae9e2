-- The ranks of lists of heights are one to one if the middle columns and the others are ranked apart, too.
use Rattle.std.proofs.Common.{◌≡◌, ℕ, zero, suc, ◌+◌, ◌-◌, ◌*◌, ◌/◌, ◌%◌, ◌^◌, ◌<◌, ◌≤◌, List, [], ◌∷◌, ◌++◌, length, take, drop, get_or, refl, sym, ap, ap₂, ◌∙◌, subst, arith, mod-lt, div-lt_iff_lt-mul}
use Rattle.std.proofs.Math.Nat.{mod-add-div', mul-le-mul}
use Rattle.std.proofs.lemmas.List.{take-append-drop, drop-drop, length-append, length-drop, length-take-le, take_at, drop_at, get_or-append_right, get_or-drop, get_or-take}
use Rattle.std.proofs.Math.ListN.{get_or-append}
use Rattle.std.proofs.lemmas.Nat.{div-mul-add, mod-mul-add, pow-add}
use Rattle.gm_board.specs.laws.Arrangements.{pos_of_lt_mul, two_digits}
use Rattle.gm_stacks.specs.Heights.{stackings, total, AreHeights, rank_heights, unrank_heights, side, middle_heights, outer_heights, all_heights, split_stackings, rank_split, unrank_split}
use Rattle.gm_stacks.specs.laws.HeightRanks.{rank_within, heights_back, IsRanked, ranked, stackings_small, low_power}

-- ---- parts of a list
total_both : (xs ys : List ℕ) → total (xs ++ ys) ≡ total xs + total ys
total_both [] ys = omega arith
total_both (x ∷ xs) ys = omega (arith, total_both xs ys)

low_both : (h : ℕ) (xs ys : List ℕ) → AreHeights h xs → AreHeights h ys → AreHeights h (xs ++ ys)
low_both h [] ys a b = b
low_both h (x ∷ xs) ys a b = (a.0, low_both h xs ys a.1 b)

low_first : (h i : ℕ) (xs : List ℕ) → AreHeights h xs → AreHeights h (take i xs)
low_first h zero xs a = tt
low_first h (suc i) [] a = tt
low_first h (suc i) (x ∷ xs) a = (a.0, low_first h i xs a.1)

low_rest : (h i : ℕ) (xs : List ℕ) → AreHeights h xs → AreHeights h (drop i xs)
low_rest h zero xs a = a
low_rest h (suc i) [] a = a
low_rest h (suc i) (x ∷ xs) a = low_rest h i xs a.1

side_within : (w k : ℕ) → k ≤ w → side w k + k ≤ w
side_within w k l = omega arith

-- ---- the heights of the middle columns and of the others
module _ (k : ℕ) (hs : List ℕ) (l : k ≤ length hs) where
  abbrev left : ℕ
  left = side (length hs) k

  first_length : length (take left hs) ≡ left
  first_length = length-take-le left hs (let e = side_within (length hs) k l in omega (arith, e))

  pub middle_length : length (middle_heights k hs) ≡ k
  unfolding middle_heights
  middle_length = length-take-le k (drop left hs) (let e = side_within (length hs) k l in let n = length-drop left hs in omega (arith, e, n))

  pub outer_length : length (outer_heights k hs) ≡ length hs - k
  unfolding outer_heights
  outer_length = length-append (take left hs) (drop (left + k) hs)
      ∙ (let e = side_within (length hs) k l in let n = length-drop (left + k) hs in let m = first_length in omega (arith, e, n, m))

  -- both together are the heights of all columns
  pub all_back : all_heights (middle_heights k hs) (outer_heights k hs) ≡ hs
  unfolding all_heights middle_heights outer_heights
  all_back =
      let e : length (outer_heights k hs) / 2 ≡ left = ap (λ (n : ℕ). n / 2) outer_length in
      ap (λ (i : ℕ). take i (outer_heights k hs) ++ (middle_heights k hs ++ drop i (outer_heights k hs))) e
      ∙ ap₂ (λ (xs ys : List ℕ). xs ++ (middle_heights k hs ++ ys)) (take_at (take left hs) (drop (left + k) hs) left first_length) (drop_at (take left hs) (drop (left + k) hs) left first_length)
      ∙ ap (λ (ys : List ℕ). take left hs ++ (middle_heights k hs ++ ys)) (sym (drop-drop k left hs))
      ∙ ap (λ (ys : List ℕ). take left hs ++ ys) (take-append-drop k (drop left hs))
      ∙ take-append-drop left hs

  pub middle_low : (h : ℕ) → AreHeights h hs → AreHeights h (middle_heights k hs)
  unfolding middle_heights
  middle_low h b = low_first h k (drop left hs) (low_rest h left hs b)

  pub outer_low : (h : ℕ) → AreHeights h hs → AreHeights h (outer_heights k hs)
  unfolding outer_heights
  outer_low h b = low_both h (take left hs) (drop (left + k) hs) (low_first h left hs b) (low_rest h (left + k) hs b)

-- ---- the heights of all columns
module _ (ms os : List ℕ) where
  abbrev half : ℕ
  half = length os / 2

  left_length : length (take half os) ≡ half
  left_length = length-take-le half os (omega arith)

  pub all_length : length (all_heights ms os) ≡ length ms + length os
  unfolding all_heights
  all_length = length-append (take half os) (ms ++ drop half os) ∙ ap (λ (n : ℕ). length (take half os) + n) (length-append ms (drop half os))
      ∙ (let e = left_length in let n = length-drop half os in omega (arith, e, n))

  pub all_total : total (all_heights ms os) ≡ total os + total ms
  unfolding all_heights
  all_total =
      let e = total_both (take half os) (ms ++ drop half os) in
      let f = total_both ms (drop half os) in
      let g = sym (total_both (take half os) (drop half os)) ∙ ap total (take-append-drop half os) in
      omega (arith, e, f, g)

  pub all_low : (h : ℕ) → AreHeights h ms → AreHeights h os → AreHeights h (all_heights ms os)
  unfolding all_heights
  all_low h p q = low_both h (take half os) (ms ++ drop half os) (low_first h half os q) (low_both h ms (drop half os) p (low_rest h half os q))

  left_is : side (length (all_heights ms os)) (length ms) ≡ half
  left_is = ap (λ (n : ℕ). (n - length ms) / 2) all_length ∙ ap (λ (n : ℕ). n / 2) (let e : length ms + length os - length ms ≡ length os = omega arith in e)

  pub middle_back : middle_heights (length ms) (all_heights ms os) ≡ ms
  unfolding middle_heights all_heights
  middle_back =
      ap (λ (i : ℕ). take (length ms) (drop i (all_heights ms os))) left_is
      ∙ ap (take (length ms)) (drop_at (take half os) (ms ++ drop half os) half left_length)
      ∙ take_at ms (drop half os) (length ms) refl

  pub outer_back : outer_heights (length ms) (all_heights ms os) ≡ os
  unfolding outer_heights all_heights
  outer_back =
      ap (λ (i : ℕ). take i (all_heights ms os) ++ drop (i + length ms) (all_heights ms os)) left_is
      ∙ ap₂ (λ (xs ys : List ℕ). xs ++ ys) (take_at (take half os) (ms ++ drop half os) half left_length)
      (sym (drop-drop (length ms) half (all_heights ms os)) ∙ ap (drop (length ms)) (drop_at (take half os) (ms ++ drop half os) half left_length)
      ∙ drop_at ms (drop half os) (length ms) refl)
      ∙ take-append-drop half os

  -- the height of a column to the left of the middle ones, of a middle one, and of one to the right
  pub at_left : (c : ℕ) → c < length os / 2 → get_or (all_heights ms os) c 0 ≡ get_or os c 0
  unfolding all_heights
  at_left c l = get_or-append (take half os) (ms ++ drop half os) 0 c (let e = left_length in omega (arith, e, l)) ∙ get_or-take half os c 0 l

  pub at_middle : (c : ℕ) → length os / 2 ≤ c → c < length os / 2 + length ms → get_or (all_heights ms os) c 0 ≡ get_or ms (c - length os / 2) 0
  unfolding all_heights
  at_middle c l j = get_or-append_right (take half os) (ms ++ drop half os) half c 0 left_length l ∙ get_or-append ms (drop half os) 0 (c - half) (omega (arith, l, j))

  pub at_right : (c : ℕ) → length os / 2 + length ms ≤ c → get_or (all_heights ms os) c 0 ≡ get_or os (c - length ms) 0
  unfolding all_heights
  at_right c l =
      get_or-append_right (take half os) (ms ++ drop half os) half c 0 left_length (omega (arith, l))
      ∙ get_or-append_right ms (drop half os) (length ms) (c - half) 0 refl (omega (arith, l))
      ∙ get_or-drop half os (c - half - length ms) 0
      ∙ ap (λ (i : ℕ). get_or os i 0) (let e : half + (c - half - length ms) ≡ c - length ms = omega (arith, l) in e)

-- a list has as many pieces as its parts
pub total_parts : (k : ℕ) (hs : List ℕ) → k ≤ length hs → total hs ≡ total (outer_heights k hs) + total (middle_heights k hs)
total_parts k hs l = sym (ap total (all_back k hs l)) ∙ all_total (middle_heights k hs) (outer_heights k hs)

-- ---- ranks
-- a list of w heights with n pieces on the others and m on the k middle columns
pub record IsSplit (h w k n m : ℕ) (hs : List ℕ) : Type 0 where
  pub columns : length hs ≡ w
  pub low : AreHeights h hs
  pub outer : total (outer_heights k hs) ≡ n
  pub middle : total (middle_heights k hs) ≡ m

module _ (h w k n m : ℕ) (wide : k ≤ w) where
  module _ (hs : List ℕ) (d : IsSplit h w k n m hs) where
    inside : k ≤ length hs
    inside = let e = d.columns in omega (arith, e, wide)

    outer_many : length (outer_heights k hs) ≡ w - k
    outer_many = outer_length k hs inside ∙ ap (λ (x : ℕ). x - k) d.columns

    middle_rank : rank_heights h (middle_heights k hs) < stackings h k m
    middle_rank = subst (λ (x : ℕ). rank_heights h (middle_heights k hs) < x) (ap₂ (stackings h) (middle_length k hs inside) d.middle)
        (rank_within h (middle_heights k hs) (middle_low k hs inside h d.low))

    outer_rank : rank_heights h (outer_heights k hs) < stackings h (w - k) n
    outer_rank = subst (λ (x : ℕ). rank_heights h (outer_heights k hs) < x) (ap₂ (stackings h) outer_many d.outer)
        (rank_within h (outer_heights k hs) (outer_low k hs inside h d.low))

    split_rank_is : rank_split h k hs ≡ rank_heights h (middle_heights k hs) * stackings h (w - k) n + rank_heights h (outer_heights k hs)
    unfolding rank_split
    split_rank_is = ap (λ (x : ℕ). rank_heights h (middle_heights k hs) * x + rank_heights h (outer_heights k hs)) (ap₂ (stackings h) outer_many d.outer)

    -- the list has as many pieces as both parts
    pub split_total : total hs ≡ n + m
    split_total = total_parts k hs inside ∙ ap₂ (λ (x y : ℕ). x + y) d.outer d.middle

    -- its rank is below the number of such lists
    pub split_within : rank_split h k hs < split_stackings h w k n m
    unfolding split_stackings
    split_within = subst (λ (x : ℕ). x < stackings h k m * stackings h (w - k) n) (sym split_rank_is) (two_digits _ _ _ _ middle_rank outer_rank)

    -- and gives the list back
    pub split_back : unrank_split h w k n m (rank_split h k hs) ≡ hs
    unfolding unrank_split
    split_back =
        let ms = middle_heights k hs in
        let os = outer_heights k hs in
        let f = stackings h (w - k) n in
        ap₂ (λ (x y : ℕ). all_heights (unrank_heights h k m x) (unrank_heights h (w - k) n y))
        (ap (λ (r : ℕ). r / f) split_rank_is ∙ div-mul-add (rank_heights h ms) f (rank_heights h os) outer_rank)
        (ap (λ (r : ℕ). r % f) split_rank_is ∙ mod-mul-add (rank_heights h ms) f (rank_heights h os) outer_rank)
        ∙ ap₂ all_heights
        (ap₂ (λ (x y : ℕ). unrank_heights h x y (rank_heights h ms)) (sym (middle_length k hs inside)) (sym d.middle)
        ∙ heights_back h ms (middle_low k hs inside h d.low))
        (ap₂ (λ (x y : ℕ). unrank_heights h x y (rank_heights h os)) (sym outer_many) (sym d.outer)
        ∙ heights_back h os (outer_low k hs inside h d.low))
        ∙ all_back k hs inside

  module _ (r : ℕ) (l : r < split_stackings h w k n m) where
    abbrev ways : ℕ
    ways = stackings h (w - k) n

    abbrev ms : List ℕ
    ms = unrank_heights h k m (r / ways)

    abbrev os : List ℕ
    os = unrank_heights h (w - k) n (r % ways)

    -- there is a list of the others
    pub some_ways : 0 < stackings h (w - k) n
    unfolding split_stackings
    some_ways = pos_of_lt_mul r (stackings h k m) ways l

    -- the two ranks of a rank
    pub middle_below : r / stackings h (w - k) n < stackings h k m
    unfolding split_stackings
    middle_below = (div-lt_iff_lt-mul some_ways).1 l

    pub outer_below : r % stackings h (w - k) n < stackings h (w - k) n
    outer_below = mod-lt r some_ways

    middle_is : IsRanked h k m (r / ways) ms
    middle_is = ranked h k m (r / ways) middle_below

    outer_is : IsRanked h (w - k) n (r % ways) os
    outer_is = ranked h (w - k) n (r % ways) outer_below

    same_middle : middle_heights k (all_heights ms os) ≡ ms
    same_middle = ap (λ (x : ℕ). middle_heights x (all_heights ms os)) (sym middle_is.columns) ∙ middle_back ms os

    same_outer : outer_heights k (all_heights ms os) ≡ os
    same_outer = ap (λ (x : ℕ). outer_heights x (all_heights ms os)) (sym middle_is.columns) ∙ outer_back ms os

    -- the list of a rank
    pub split_is : IsSplit h w k n m (unrank_split h w k n m r)
    unfolding unrank_split
    split_is = record {
      columns = all_length ms os ∙ ap₂ (λ (x y : ℕ). x + y) middle_is.columns outer_is.columns ∙ (let e : k + (w - k) ≡ w = omega (arith, wide) in e);
      low = all_low ms os h middle_is.low outer_is.low;
      outer = ap total same_outer ∙ outer_is.all;
      middle = ap total same_middle ∙ middle_is.all;
    }

    -- gives the rank back
    pub split_again : rank_split h k (unrank_split h w k n m r) ≡ r
    unfolding unrank_split
    split_again =
        split_rank_is (unrank_split h w k n m r) split_is
        ∙ ap₂ (λ (x y : ℕ). x * ways + y) (ap (rank_heights h) same_middle ∙ middle_is.back) (ap (rank_heights h) same_outer ∙ outer_is.back)
        ∙ (let e = mod-add-div' r ways in omega (arith, e))

-- there are at most 7 ^ 6 lists of at most 6 heights up to 6
pub split_few : (h w k n m : ℕ) → h ≤ 6 → w ≤ 6 → k ≤ w → split_stackings h w k n m ≤ 117649
unfolding split_stackings
split_few h w k n m l j i =
    let a = mul-le-mul (stackings_small h k m l) (stackings_small h (w - k) n l) in
    let e : 7 ^ w ≡ 7 ^ k * 7 ^ (w - k) = ap (λ (x : ℕ). 7 ^ x) (let z : w ≡ k + (w - k) = omega (arith, i) in z) ∙ pow-add 7 k (w - k) in
    let b = low_power w j in
    omega (arith, a, e, b)

-- ---- no middle columns
-- then the others are all
all_outer : (hs : List ℕ) → outer_heights 0 hs ≡ hs
unfolding outer_heights
all_outer hs = ap (λ (i : ℕ). take (side (length hs) 0) hs ++ drop i hs) (let z : side (length hs) 0 + 0 ≡ side (length hs) 0 = omega arith in z)
    ∙ take-append-drop (side (length hs) 0) hs

-- and the ranks are those of whole lists
pub no_middle_rank : (h : ℕ) (hs : List ℕ) → rank_split h 0 hs ≡ rank_heights h hs
unfolding rank_split middle_heights rank_heights
no_middle_rank h hs = let e = ap (rank_heights h) (all_outer hs) in omega (arith, e)

-- there are as many
pub no_middle_stackings : (h w n : ℕ) → split_stackings h w 0 n 0 ≡ stackings h w n
unfolding split_stackings stackings
no_middle_stackings h w n = let e = ap (λ (x : ℕ). stackings h x n) (let z : w - 0 ≡ w = omega arith in z) in omega (arith, e)
