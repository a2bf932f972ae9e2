-- Ranks of subsets of sixteen cells, by bytes.
use Rattle.gm_board.proofs.Lower.{◌≡◌, ℕ, zero, suc, ◌+◌, ◌-◌, ◌/◌, ◌%◌, ◌^◌, ◌<◌, ◌≤◌, Bool, true, false, List, [], ◌∷◌, ◌++◌, map, length, get_or, eqb, refl, sym, ap, ap₂, ◌∙◌, arith, count_ones, bit_at, range_with_len, bit_at_cat_low, bit_at_cat_high, binomial, members, rank, members_le, mask_rank, tests_none, tests_more, tests_length, mask_rank_at, members_small}
use Rattle.std.proofs.lemmas.List.FromFn.{get_or-map-range_with_len}
use Rattle.gm_board.specs.laws.Masks.{tests_same}
use Rattle.gm_board.specs.declared.pascal.TheConstants.{ROWS}
use Rattle.gm_board.specs.declared.ranks.TheConstants.{ONES, LOW, HIGH, UPPER}
use Rattle.std.proofs.Common.{◌*◌, append-nil, length-append}
use Rattle.gm_board.specs.Masks.{tests_of}
use Rattle.gm_board.proofs.PascalRows.{triangle_is}

-- what cells add to a rank that have so many cells and so many members below them
abbrev rank_above : ℕ → ℕ → List Bool → ℕ
rank_above n k [] = 0
rank_above n k (true ∷ bs) = binomial (n + length bs) (suc (k + members bs)) + rank_above n k bs
rank_above n k (false ∷ bs) = rank_above n k bs

-- the same by the constant rows of Pascal's triangle
abbrev rank_by_rows : ℕ → ℕ → List Bool → ℕ
rank_by_rows n k [] = 0
rank_by_rows n k (true ∷ bs) = get_or (get_or ROWS (n + length bs) []) (suc (k + members bs)) 0 + rank_by_rows n k bs
rank_by_rows n k (false ∷ bs) = rank_by_rows n k bs

row_entry : (n k : ℕ) → n < 33 → k < 33 → get_or (get_or ROWS n []) k 0 ≡ binomial n k
row_entry n k l h = (triangle_is ROWS refl n [] l).entries k h

by_rows : (n k : ℕ) (bs : List Bool) → n + length bs ≤ 32 → k + length bs ≤ 31 → rank_by_rows n k bs ≡ rank_above n k bs
by_rows n k [] l h = refl
by_rows n k (true ∷ bs) l h =
    ap₂ (λ (a b : ℕ). a + b)
    (row_entry (n + length bs) (suc (k + members bs)) (omega (arith, l)) (omega (arith, l, h, members_le bs)))
    (by_rows n k bs (omega (arith, l)) (omega (arith, h)))
by_rows n k (false ∷ bs) l h = by_rows n k bs (omega (arith, l)) (omega (arith, h))

-- the cells of both parts
members_both : (hs ls : List Bool) → members (hs ++ ls) ≡ members ls + members hs
members_both [] ls = omega arith
members_both (true ∷ hs) ls = omega (arith, members_both hs ls)
members_both (false ∷ hs) ls = members_both hs ls

-- a rank by two parts
rank_both : (hs ls : List Bool) → rank (hs ++ ls) ≡ rank ls + rank_above (length ls) (members ls) hs
rank_both [] ls = omega arith
rank_both (true ∷ hs) ls =
    ap₂ (λ (a b : ℕ). a + b) (ap₂ (λ (n k : ℕ). binomial n (suc k)) (let n = length-append hs ls in omega (arith, n)) (members_both hs ls)) (rank_both hs ls)
    ∙ (let e : binomial (length ls + length hs) (suc (members ls + members hs)) + (rank ls + rank_above (length ls) (members ls) hs)
    ≡ rank ls + (binomial (length ls + length hs) (suc (members ls + members hs)) + rank_above (length ls) (members ls) hs) = omega arith in e)
rank_both (false ∷ hs) ls = rank_both hs ls

-- the tests of a mask of two parts
tests_both : (n w a b : ℕ) → b < 2 ^ w → tests_of (n + w) (a * 2 ^ w + b) ≡ tests_of n a ++ tests_of w b
tests_both zero w a b l =
    ap (λ (k : ℕ). tests_of k (a * 2 ^ w + b)) (let e : zero + w ≡ w = omega arith in e)
    ∙ tests_same w (a * 2 ^ w + b) b (λ i h. bit_at_cat_low a w b i h)
    ∙ sym (ap (λ (bs : List Bool). bs ++ tests_of w b) (tests_none a))
tests_both (suc n) w a b l =
    ap (λ (k : ℕ). tests_of k (a * 2 ^ w + b)) (let e : suc n + w ≡ suc (n + w) = omega arith in e)
    ∙ tests_more (n + w) (a * 2 ^ w + b)
    ∙ ap₂ (λ (t : Bool) (ts : List Bool). t ∷ ts)
    (ap (λ (v : ℕ). eqb v 1) (bit_at_cat_high a w b (n + w) l (omega arith) ∙ ap (bit_at a) (let e : n + w - w ≡ n = omega arith in e)))
    (tests_both n w a b l)
    ∙ sym (ap (λ (bs : List Bool). bs ++ tests_of w b) (tests_more n a))

-- the tables
ones_are : map (λ b. members (tests_of 8 b)) (range_with_len 0 256) ≡ ONES
unfolding tests_of
ones_are = refl

low_are : map (λ b. rank_by_rows 0 0 (tests_of 8 b)) (range_with_len 0 256) ≡ LOW
unfolding tests_of
low_are = refl

high_are : map (λ k. map (λ b. rank_by_rows 8 k (tests_of 8 b)) (range_with_len 0 256)) (range_with_len 0 9) ≡ HIGH
unfolding tests_of
high_are = refl

upper_are : map (λ k. map (λ b. rank_by_rows 16 k (tests_of 9 b)) (range_with_len 0 512)) (range_with_len 0 17) ≡ UPPER
unfolding tests_of
upper_are = refl

pub ones_at : (b : ℕ) → b < 256 → get_or ONES b 0 ≡ count_ones b
ones_at b l =
    ap (λ (xs : List ℕ). get_or xs b 0) (sym ones_are)
    ∙ get_or-map-range_with_len (λ (b : ℕ). members (tests_of 8 b)) 0 256 b b 0 l (omega arith)
    ∙ members_small 8 b l

-- the members of sixteen cells, by bytes
pub ones_of_both : (mask low high : ℕ) → mask < 2 ^ 16 → low ≡ mask % 256 → high ≡ mask / 2 ^ 8 → count_ones low + count_ones high ≡ count_ones mask
ones_of_both mask low high f e g =
    let l : low < 2 ^ 8 = omega (arith, e) in
    let h : high < 2 ^ 8 = omega (arith, g, f) in
    let whole : high * 2 ^ 8 + low ≡ mask = omega (arith, e, g) in
    ap₂ (λ (a b : ℕ). a + b) (sym (members_small 8 low l)) (sym (members_small 8 high h))
    ∙ sym (members_both (tests_of 8 high) (tests_of 8 low))
    ∙ sym (ap members (tests_both 8 8 high low l))
    ∙ ap (λ (v : ℕ). members (tests_of 16 v)) whole
    ∙ members_small 16 mask f

low_at : (b : ℕ) → b < 256 → get_or LOW b 0 ≡ rank (tests_of 8 b)
low_at b l =
    ap (λ (xs : List ℕ). get_or xs b 0) (sym low_are)
    ∙ get_or-map-range_with_len (λ (b : ℕ). rank_by_rows 0 0 (tests_of 8 b)) 0 256 b b 0 l (omega arith)
    ∙ by_rows 0 0 (tests_of 8 b) (omega (arith, tests_length 8 b)) (omega (arith, tests_length 8 b))
    ∙ (let e = rank_both (tests_of 8 b) [] in let n = ap rank (append-nil (tests_of 8 b)) in
    let z : rank_above 0 0 (tests_of 8 b) ≡ rank (tests_of 8 b) = omega (arith, e, n) in z)

-- an entry of a table of what w cells above n others add, by the members of those
entry_at : (n w top k b : ℕ) (T : List (List ℕ)) → map (λ k. map (λ b. rank_by_rows n k (tests_of w b)) (range_with_len 0 (2 ^ w))) (range_with_len 0 top) ≡ T
    → k < top → b < 2 ^ w → n + w ≤ 32 → k + w ≤ 31 → get_or (get_or T k []) b 0 ≡ rank_above n k (tests_of w b)
entry_at n w top k b T e l h wide few =
    ap (λ (xs : List (List ℕ)). get_or (get_or xs k []) b 0) (sym e)
    ∙ ap (λ (xs : List ℕ). get_or xs b 0) (get_or-map-range_with_len (λ (k : ℕ). map (λ (b : ℕ). rank_by_rows n k (tests_of w b)) (range_with_len 0 (2 ^ w))) 0
    top k k [] l (omega arith))
    ∙ get_or-map-range_with_len (λ (b : ℕ). rank_by_rows n k (tests_of w b)) 0 (2 ^ w) b b 0 h (omega arith)
    ∙ by_rows n k (tests_of w b) (omega (arith, wide, tests_length w b)) (omega (arith, few, tests_length w b))

-- the rank of a subset of n + w cells, by its two parts
rank_parts : (n w mask low high upper : ℕ) → n + w ≤ 32 → mask < 2 ^ (w + n) → low < 2 ^ n → high * 2 ^ n + low ≡ mask
    → upper ≡ rank_above n (count_ones low) (tests_of w high) → rank (tests_of n low) + upper ≡ mask_rank mask
rank_parts n w mask low high upper wide f l whole e =
    let ls = tests_of n low in
    let hs = tests_of w high in
    ap (λ (v : ℕ). rank ls + v) e
    ∙ ap₂ (λ (j k : ℕ). rank ls + rank_above j k hs) (sym (tests_length n low)) (sym (members_small n low l))
    ∙ sym (rank_both hs ls)
    ∙ sym (ap rank (tests_both w n high low l))
    ∙ ap (λ (v : ℕ). rank (tests_of (w + n) v)) whole
    ∙ sym (mask_rank_at (w + n) mask (omega (arith, wide)) f)

-- a subset of n cells has at most n members
pub members_at_most : (n b : ℕ) → b < 2 ^ n → count_ones b ≤ n
members_at_most n b l = omega (arith, members_small n b l, members_le (tests_of n b), tests_length n b)

-- the rank of a subset of sixteen cells
pub short_rank_is : (mask low high : ℕ) → mask < 2 ^ 16 → low ≡ mask % 256 → high ≡ mask / 2 ^ 8 → get_or LOW low 0 + get_or
    (get_or HIGH (count_ones low) []) high 0 ≡ mask_rank mask
short_rank_is mask low high f e g =
    let l : low < 2 ^ 8 = omega (arith, e) in
    ap (λ (v : ℕ). v + get_or (get_or HIGH (count_ones low) []) high 0) (low_at low l)
    ∙ rank_parts 8 8 mask low high _ (omega arith) f l (omega (arith, e, g))
    (entry_at 8 8 9 (count_ones low) high HIGH high_are (omega (arith, members_at_most 8 low l)) (omega (arith, g, f)) (omega arith)
    (omega (arith, members_at_most 8 low l)))

pub long_rank_is : (mask low high low_rank : ℕ) → mask < 2 ^ 25 → low ≡ mask % 2 ^ 16 → high ≡ mask / 2 ^ 16 → low_rank ≡ mask_rank low → low_rank + get_or
    (get_or UPPER (count_ones low) []) high 0 ≡ mask_rank mask
long_rank_is mask low high low_rank f e g r =
    let l : low < 2 ^ 16 = omega (arith, e) in
    ap (λ (v : ℕ). v + get_or (get_or UPPER (count_ones low) []) high 0) (r ∙ mask_rank_at 16 low (omega arith) l)
    ∙ rank_parts 16 9 mask low high _ (omega arith) f l (omega (arith, e, g))
    (entry_at 16 9 17 (count_ones low) high UPPER upper_are (omega (arith, members_at_most 16 low l)) (omega (arith, g, f)) (omega arith)
    (omega (arith, members_at_most 16 low l)))
