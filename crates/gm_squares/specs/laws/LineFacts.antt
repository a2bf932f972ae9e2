-- Masks of lines, and the squares on them.
use Rattle.std.specs.Prelude.{◌≡◌, ◌+◌, ◌-◌, ◌*◌, ◌%◌, ◌^◌, ◌<◌, ◌≤◌, ◌&&◌}
use Rattle.gm_pieces.specs.Common.{ℕ, Bool, true, false, not, eqb, ltb, refl, sym, ap, ◌∙◌, arith, nat_tests, has_cell, at_all, at_each, agree, agree_same, bit_at-zero, min, max, cases_lt, cases_eq, inl, inr, bit_at, bit_and, has_and, and_false, and_true, ap₂, eq-eqb, ne_eqb}
use Rattle.std.specs.Int.{w64}
use Rattle.std.proofs.lemmas.Nat.Bits.{bit_at_not, bit_at-lt, bit_at_ones}
use Rattle.gm_board.specs.laws.NextCells.{cell_none}
use Rattle.gm_squares.specs.inner.Lines.{lies_between, is_open_line}

-- ---- squares
lone_table : at_all 64 64 (λ s k. agree (has_cell (1 * 2 ^ s % 2 ^ 64) k) (eqb k s)) ≡ true
lone_table = refl

pub lone_square : (s k : ℕ) → s < 64 → k < 64 → has_cell (1 * 2 ^ s % 2 ^ 64) k ≡ eqb k s
lone_square s k l h = agree_same _ _ (at_each 64 64 (λ s k. agree (has_cell (1 * 2 ^ s % 2 ^ 64) k) (eqb k s)) lone_table s k l h)

pub no_square : (s k : ℕ) → 64 ≤ s → k < 64 → has_cell 0 k ≡ eqb k s
no_square s k l h = cell_none 0 k (bit_at-zero k) ∙ (let e : false ≡ eqb k s = grind (arith, nat_tests) in e)

above_table : at_all 64 64 (λ s k. agree (has_cell (18446744073709551614 * 2 ^ s % 2 ^ 64) k) (ltb s k)) ≡ true
above_table = refl

pub squares_above : (s k : ℕ) → s < 64 → k < 64 → has_cell (18446744073709551614 * 2 ^ s % 2 ^ 64) k ≡ ltb s k
squares_above s k l h = agree_same _ _ (at_each 64 64 (λ s k. agree (has_cell (18446744073709551614 * 2 ^ s % 2 ^ 64) k) (ltb s k)) above_table s k l h)

below_table : at_all 64 64 (λ s k. agree (has_cell (1 * 2 ^ s % 2 ^ 64 - 1) k) (ltb k s)) ≡ true
below_table = refl

pub squares_below : (s k : ℕ) → s < 64 → k < 64 → has_cell (1 * 2 ^ s % 2 ^ 64 - 1) k ≡ ltb k s
squares_below s k l h = agree_same _ _ (at_each 64 64 (λ s k. agree (has_cell (1 * 2 ^ s % 2 ^ 64 - 1) k) (ltb k s)) below_table s k l h)

pub none_past : (k : ℕ) → has_cell 0 k ≡ false
none_past k = cell_none 0 k (bit_at-zero k)

-- the squares that a mask does not have
pub has_not : (b k : ℕ) → b < 2 ^ 64 → k < 64 → has_cell (18446744073709551615 - b) k ≡ not (has_cell b k)
has_not b k l h = ap (λ (v : ℕ). eqb v 1) (bit_at_not w64 b k l h) ∙ turned (bit_at b k) (bit_at-lt b k)
  where
    turned : (v : ℕ) → v < 2 → eqb (1 - v) 1 ≡ not (eqb v 1)
    turned v l = grind (arith, nat_tests)

-- a mask without the squares of another
pub has_less : (a b k : ℕ) → b < 2 ^ 64 → k < 64 → has_cell (bit_and a (18446744073709551615 - b)) k ≡ (has_cell a k && not (has_cell b k))
has_less a b k l h = has_and a (18446744073709551615 - b) k ∙ ap (λ (t : Bool). has_cell a k && t) (has_not b k l h)

-- ---- along a line
pub not_between : (a c : ℕ) → lies_between a c a ≡ false
not_between a c = grind (arith, nat_tests)

pub past_both : (a c u : ℕ) → a < 64 → c < 64 → 64 ≤ u → lies_between a c u ≡ false
past_both a c u l h k = grind (arith, nat_tests)

-- the man's own square stops nothing
stops_same : (line mask a c u : ℕ) → a < 64 → c < 64 → ((k : ℕ) → k < 64 → has_cell mask k ≡ (has_cell line k && not (eqb k a)))
    → (has_cell mask u && lies_between a c u) ≡ (has_cell line u && lies_between a c u)
stops_same line mask a c u l h f = elim (cases_lt u 64) [
  | inr k ↦ rw (past_both a c u l h k) (and_false (has_cell mask u) ∙ sym (and_false (has_cell line u)))
  | inl k ↦ elim (cases_eq u a) [
    | inl e ↦ rw (e, not_between a c) (and_false (has_cell mask a) ∙ sym (and_false (has_cell line a)))
    | inr n ↦ rw (f u k, ne_eqb u a n) (ap (λ (t : Bool). t && lies_between a c u) (and_true (has_cell line u)))
  ]
]

regroup : (x y p q : Bool) → (((x && y) && p) && q) ≡ (x && (y && (p && q)))
regroup true true p q = refl
regroup true false p q = refl
regroup false y p q = refl

-- what is left of a line
pub left_along : (line from first second own p q k : ℕ) → from < 64 → k < 64 → own < 2 ^ 64 → p < 2 ^ 64 → q < 2 ^ 64
    → ((j : ℕ) → j < 64 → has_cell own j ≡ eqb j from)
    → has_cell p k ≡ (has_cell (bit_and line (18446744073709551615 - own)) first && lies_between from k first)
    → has_cell q k ≡ (has_cell (bit_and line (18446744073709551615 - own)) second && lies_between from k second)
    → has_cell (bit_and (bit_and (bit_and line (18446744073709551615 - own)) (18446744073709551615 - p)) (18446744073709551615 - q)) k
    ≡ (has_cell line k && (not (eqb k from) && (is_open_line line from k first && is_open_line line from k second)))
left_along line from first second own p q k lf lk lo lp lq f e g =
    let others = bit_and line (18446744073709551615 - own) in
    let has : (j : ℕ) → j < 64 → has_cell others j ≡ (has_cell line j && not (eqb j from)) = λ j l. has_less line own j lo l
    ∙ ap (λ (t : Bool). has_cell line j && not t) (f j l) in
    has_less (bit_and others (18446744073709551615 - p)) q k lq lk
    ∙ ap₂ (λ (x y : Bool). x && not y) (has_less others p k lp lk) (g ∙ stops_same line others from k second lf lk has)
    ∙ ap₂ (λ (x y : Bool). (x && not y) && is_open_line line from k second) (has k lk) (e ∙ stops_same line others from k first lf lk has)
    ∙ regroup (has_cell line k) (not (eqb k from)) (is_open_line line from k first) (is_open_line line from k second)

-- a line without a square
pub left_out : (line from own : ℕ) → from < 64 → own < 2 ^ 64 → ((j : ℕ) → j < 64 → has_cell own j ≡ eqb j from)
    → has_cell (bit_and line (18446744073709551615 - own)) from ≡ false
left_out line from own l lo f = has_less line own from lo l ∙ ap (λ (t : Bool). has_cell line from && not t) (f from l ∙ eq-eqb from from refl) ∙ and_false (has_cell line from)

-- the squares of a line that are above one and below another
pub part_between : (line a c k low high : ℕ) → low < 64 → high < 64 → k < 64 → low ≡ min a c → high ≡ max a c
    → has_cell (bit_and (bit_and line (18446744073709551614 * 2 ^ low % 2 ^ 64)) (1 * 2 ^ high % 2 ^ 64 - 1)) k ≡ (has_cell line k && lies_between a c k)
part_between line a c k low high l h j e f =
    let up = 18446744073709551614 * 2 ^ low % 2 ^ 64 in
    let down = 1 * 2 ^ high % 2 ^ 64 - 1 in
    has_and (bit_and line up) down k
    ∙ ap₂ (λ (s t : Bool). s && t) (has_and line up k ∙ ap (λ (t : Bool). has_cell line k && t) (squares_above low k l j)) (squares_below high k h j)
    ∙ by_order (has_cell line k) a c k low high e f
  where
    by_order : (t : Bool) (a c k low high : ℕ) → low ≡ min a c → high ≡ max a c → ((t && ltb low k) && ltb k high) ≡ (t && lies_between a c k)
    by_order true a c k low high e f = grind (arith, nat_tests)
    by_order false a c k low high e f = refl

-- the square that is a number of rows below another
pub rows_below : (s r k : ℕ) → 8 * r ≤ s → eqb k (s - 8 * r) ≡ eqb (k + 8 * r) s
rows_below s r k l = grind (arith, nat_tests, l)

pub none_below : (s r k : ℕ) → s < 8 * r → has_cell 0 k ≡ eqb (k + 8 * r) s
none_below s r k l = ap (λ (v : ℕ). eqb v 1) (bit_at-zero k) ∙ (let e : false ≡ eqb (k + 8 * r) s = grind (arith, nat_tests, l) in e)

-- all squares
pub each_square : (k : ℕ) → k < 64 → has_cell 18446744073709551615 k ≡ true
each_square k l = eq-eqb _ _ (bit_at_ones 64 k l)
