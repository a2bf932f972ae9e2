-- The cells of a line as a mask of five bits.
use Rattle.gm_tactix.proofs.Lower.{◌≡◌, ◌+◌, ◌-◌, ◌^◌, ◌<◌, ◌≤◌, ◌&&◌, ℕ, Bool, true, false, eqb, eqb-true, List, [], get_or, refl, sym, ap, ap₂, ◌∙◌, arith, bit_and, list_all, range_with_len, cond-false, has_cell, all_at, line_cell, for_sides, subst}
use Rattle.std.specs.Prelude.{◌/◌, ◌%◌, ◌∷◌, ◌*◌}
use Rattle.gm_pieces.specs.Common.{zero, suc, cond_below, le-ltb, pow-add, and_le_r, bit_at_ones, mask_of, mask_below, mask_tests_small, tests_mask, contains_range, and_true, has_and, div-div-eq-div-mul, tests_of}
use Rattle.std.proofs.Math.Bool.{and_comm}

-- a cell of a mask moved down
moved_down : (m k i : ℕ) → has_cell (m / 2 ^ k) i ≡ has_cell m (k + i)
moved_down m k i = ap (λ (n : ℕ). eqb (n % 2) 1) (div-div-eq-div-mul m (2 ^ k) (2 ^ i) ∙ ap (λ (n : ℕ). m / n) (sym (pow-add 2 k i)))

-- a row's cells
pub row_cell : (counters line place : ℕ) → line < 5 → place < 5
    → has_cell (bit_and (counters / 2 ^ (5 * line)) 31) place ≡ has_cell counters (line_cell line place)
row_cell counters line place l h =
    has_and (counters / 2 ^ (5 * line)) 31 place
    ∙ ap (λ (b : Bool). has_cell (counters / 2 ^ (5 * line)) place && b) (ap (λ (n : ℕ). eqb n 1) (bit_at_ones 5 place h))
    ∙ and_true _
    ∙ moved_down counters (5 * line) place
    ∙ ap (has_cell counters) (cond_below line 5 (5 * line + place) (line - 5 + 5 * place) l)

-- tests that pass in both lists
abbrev both : List Bool → List Bool → List Bool
both [] ys = []
both (x ∷ xs) [] = []
both (x ∷ xs) (y ∷ ys) = (x && y) ∷ both xs ys

tests_both : (n a b : ℕ) → tests_of n (bit_and a b) ≡ both (tests_of n b) (tests_of n a)
unfolding tests_of
tests_both zero a b = refl
tests_both (suc n) a b = ap₂ (λ (x : Bool) (xs : List Bool). x ∷ xs) (has_and a b n ∙ and_comm (has_cell a n) (has_cell b n)) (tests_both n a b)

-- tests of cells five apart
abbrev wide : List Bool → List Bool
wide [] = []
wide (b ∷ bs) = false ∷ false ∷ false ∷ false ∷ b ∷ wide bs

abbrev gathered : ℕ → ℕ
gathered mask = bit_and (mask * 1118480 / 1048576) 31

abbrev is_gathered : ℕ → Bool
is_gathered v = eqb (gathered (mask_of (wide (tests_of 5 v)))) v

all_gathered : list_all is_gathered (range_with_len 0 32) ≡ true
unfolding tests_of
all_gathered = refl

-- the cells of the first column
abbrev column : ℕ → List Bool
column m = has_cell m 20 ∷ has_cell m 15 ∷ has_cell m 10 ∷ has_cell m 5 ∷ has_cell m 0 ∷ []

spread : (m : ℕ) → both (tests_of 25 1082401) (tests_of 25 m) ≡ wide (column m)
unfolding tests_of
spread m = refl

gathers : (m : ℕ) → gathered (bit_and m 1082401) ≡ mask_of (column m)
gathers m =
    let bits = column m in
    let v = mask_of bits in
    let masked = bit_and m 1082401 in
    let most = and_le_r m 1082401 in
    let whole : masked ≡ mask_of (wide bits) = sym (mask_tests_small 25 masked (omega arith)) ∙ ap mask_of (tests_both 25 m 1082401 ∙ spread m) in
    let known : gathered (mask_of (wide (tests_of 5 v))) ≡ v =
    eqb-true _ _ (all_at is_gathered (range_with_len 0 32) v all_gathered (contains_range 32 v (mask_below bits))) in
    ap gathered (whole ∙ ap (λ (bs : List Bool). mask_of (wide bs)) (sym (tests_mask bits))) ∙ known

gathered_tests : (m : ℕ) → tests_of 5 (gathered (bit_and m 1082401)) ≡ column m
gathered_tests m = ap (tests_of 5) (gathers m) ∙ tests_mask (column m)

gathered_cell : (m place : ℕ) → place < 5 → has_cell (gathered (bit_and m 1082401)) place ≡ has_cell m (5 * place)
unfolding tests_of
gathered_cell m place l =
    let at = λ (k : ℕ). ap (λ (bs : List Bool). get_or bs k false) (gathered_tests m) in
    let is = λ (k : ℕ). has_cell (gathered (bit_and m 1082401)) k ≡ has_cell m (5 * k) in
    subst is (let e : suc place - 1 ≡ place = omega arith in e)
    (for_sides (λ s. is (s - 1)) (at 4) (at 3) (at 2) (at 1) (at 0) (suc place) (omega arith) (omega arith))

-- a column's cells
pub column_cell : (counters line place gather : ℕ) → 5 ≤ line → place < 5 → gather ≡ bit_and (counters / 2 ^ (line - 5)) 1082401
    → has_cell (gathered gather) place ≡ has_cell counters (line_cell line place)
column_cell counters line place gather l h is =
    ap (λ (m : ℕ). has_cell (gathered m) place) is
    ∙ gathered_cell (counters / 2 ^ (line - 5)) place h
    ∙ moved_down counters (line - 5) (5 * place)
    ∙ ap (has_cell counters) (sym (cond-false _ _ _ (le-ltb line 5 l)))
