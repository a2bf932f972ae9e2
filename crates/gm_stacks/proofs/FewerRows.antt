-- The constant table of the ways to place fewer than n pieces.
use Rattle.std.proofs.Common.{◌≡◌, ℕ, zero, suc, ◌+◌, ◌-◌, ◌<◌, Bool, true, ◌&&◌, List, [], ◌∷◌, length, get_or, eqb, eqb-true, zero-add, sym, ap, ◌∙◌, subst, arith}
use Rattle.std.specs.List.{list_all, range_with_len}
use Rattle.gm_board.specs.laws.Lists.{and_left, and_right, contains_range}
use Rattle.gm_board.specs.laws.Permutations.{all_at}
use Rattle.gm_stacks.specs.Heights.{sum_up, stackings}
use Rattle.gm_stacks.specs.laws.Sums.{next_sum, no_column}

-- whether ys is the row for one more column of height h than xs is for
abbrev pub is_next : ℕ → List ℕ → List ℕ → Bool
is_next h xs ys = eqb (get_or ys 0 0) 0 && list_all (λ n. eqb (get_or ys (n + 1) 0 + get_or xs (n - h) 0) (get_or ys n 0 + get_or xs (n + 1) 0))
    (range_with_len 0 26)

-- whether each row follows from the one before it
abbrev pub are_rows : ℕ → List ℕ → List (List ℕ) → Bool
are_rows h xs [] = true
are_rows h xs (ys ∷ rows) = is_next h xs ys && are_rows h ys rows

-- whether a row is that for no column
abbrev pub is_first : List ℕ → Bool
is_first xs = eqb (get_or xs 0 0) 0 && list_all (λ n. eqb (get_or xs (n + 1) 0) 1) (range_with_len 0 26)

-- whether these are the rows of a height, from no column on
abbrev pub are_rows_of : ℕ → List (List ℕ) → Bool
are_rows_of h [] = eqb 0 1
are_rows_of h (xs ∷ rows) = is_first xs && are_rows h xs rows

-- the row for k columns of height h
abbrev pub IsRow : ℕ → ℕ → List ℕ → Type 0
IsRow h k xs = (n : ℕ) → n < 27 → get_or xs n 0 ≡ sum_up (stackings h k) n

first_row : (h : ℕ) (xs : List ℕ) → is_first xs ≡ true → IsRow h 0 xs
first_row h xs e zero l = eqb-true _ _ (and_left _ _ e)
first_row h xs e (suc n) l =
    let t = all_at (λ n. eqb (get_or xs (n + 1) 0) 1) (range_with_len 0 26) n (and_right _ _ e) (contains_range 26 n (omega arith)) in
    ap (λ (k : ℕ). get_or xs k 0) (let q : suc n ≡ n + 1 = omega arith in q) ∙ eqb-true _ _ t ∙ sym (no_column h n)

next_row : (h k : ℕ) (xs ys : List ℕ) → IsRow h k xs → is_next h xs ys ≡ true → IsRow h (suc k) ys
next_row h k xs ys r e zero l = eqb-true _ _ (and_left _ _ e)
next_row h k xs ys r e (suc n) l =
    let t = eqb-true _ _ (all_at (λ n. eqb (get_or ys (n + 1) 0 + get_or xs (n - h) 0) (get_or ys n 0 + get_or xs (n + 1) 0)) (range_with_len 0 26) n
    (and_right _ _ e) (contains_range 26 n (omega arith))) in
    let q : get_or ys (suc n) 0 ≡ get_or ys (n + 1) 0 = ap (λ (k : ℕ). get_or ys k 0) (let z : suc n ≡ n + 1 = omega arith in z) in
    let p : sum_up (stackings h (suc k)) (n + 1) ≡ sum_up (stackings h (suc k)) (suc n) = ap (sum_up (stackings h (suc k))) (let z : n + 1 ≡ suc n = omega arith in z) in
    omega (arith, t, q, p, next_sum h k n, next_row h k xs ys r e n (omega arith), r (n + 1) (omega arith), r (n - h) (omega arith))

rows_are : (h k : ℕ) (xs : List ℕ) (rows : List (List ℕ)) → IsRow h k xs → are_rows h xs rows ≡ true → (i : ℕ) (d : List ℕ) → i < suc (length rows)
    → IsRow h (k + i) (get_or (xs ∷ rows) i d)
rows_are h k xs rows r e zero d l = subst (λ (j : ℕ). IsRow h j xs) (let z : k ≡ k + 0 = omega arith in z) r
rows_are h k xs [] r e (suc i) d l = absurd (omega arith)
rows_are h k xs (ys ∷ rows) r e (suc i) d l =
    subst (λ (j : ℕ). IsRow h j (get_or (ys ∷ rows) i d)) (let z : suc k + i ≡ k + suc i = omega arith in z)
    (rows_are h (suc k) ys rows (next_row h k xs ys r (and_left _ _ e)) (and_right _ _ e) i d (omega arith))

-- each row of such rows is that for its number of columns
pub rows_of : (h : ℕ) (rows : List (List ℕ)) → are_rows_of h rows ≡ true → (k : ℕ) (d : List ℕ) → k < length rows → IsRow h k (get_or rows k d)
rows_of h [] e k d l = absurd (omega arith)
rows_of h (xs ∷ rows) e k d l =
    subst (λ (j : ℕ). IsRow h j (get_or (xs ∷ rows) k d)) (let z : 0 + k ≡ k = omega arith in z)
    (rows_are h 0 xs rows (first_row h xs (and_left _ _ e)) (and_right _ _ e) k d l)

-- whether a table has the rows of each height, from h on
abbrev pub is_table : ℕ → List (List (List ℕ)) → Bool
is_table h [] = true
is_table h (rows ∷ table) = (eqb (length rows) 7 && are_rows_of h rows) && is_table (suc h) table

-- from some height on, each row of such a table is that for its height and its number of columns
from_height : (g : ℕ) (table : List (List (List ℕ))) → is_table g table ≡ true → (h k : ℕ) (d : List (List ℕ)) (e : List ℕ) → h < length table → k < 7
    → IsRow (g + h) k (get_or (get_or table h d) k e)
from_height g [] t h k d e l m = absurd (omega arith)
from_height g (rows ∷ table) t zero k d e l m =
    let n = eqb-true (length rows) 7 (and_left _ _ (and_left _ _ t)) in
    subst (λ (j : ℕ). IsRow j k (get_or rows k e)) (let z : g ≡ g + 0 = omega arith in z) (rows_of g rows (and_right _ _ (and_left _ _ t)) k e (omega (arith, n, m)))
from_height g (rows ∷ table) t (suc h) k d e l m =
    subst (λ (j : ℕ). IsRow j k (get_or (get_or table h d) k e)) (let z : suc g + h ≡ g + suc h = omega arith in z)
    (from_height (suc g) table (and_right _ _ t) h k d e (omega arith) m)

-- each row of such a table is that for its height and its number of columns
pub table_is : (table : List (List (List ℕ))) → is_table 0 table ≡ true → (h k : ℕ) (d : List (List ℕ)) (e : List ℕ) → h < length table → k < 7
    → IsRow h k (get_or (get_or table h d) k e)
table_is table t h k d e l m = subst (λ (j : ℕ). IsRow j k (get_or (get_or table h d) k e)) (zero-add h) (from_height 0 table t h k d e l m)
