-- The constant rows of Pascal's triangle.
use Rattle.gm_board.proofs.Lower.{◌≡◌, ℕ, zero, suc, ◌+◌, ◌<◌, Bool, true, ◌&&◌, List, [], ◌∷◌, length, get_or, eqb, refl, ap, ◌∙◌, subst, arith, binomial, binomial_zero, binomial_none, pascal}
use Rattle.std.proofs.Common.{eqb-true}
use Rattle.std.specs.List.{list_all}
use Rattle.gm_board.specs.laws.Lists.{and_left, and_right}

-- whether ys has the sums of the neighbours in p ∷ xs
abbrev pub are_sums : ℕ → List ℕ → List ℕ → Bool
are_sums p [] [] = true
are_sums p [] (y ∷ ys) = eqb 0 1
are_sums p (x ∷ xs) [] = eqb 0 1
are_sums p (x ∷ xs) (y ∷ ys) = eqb y (p + x) && are_sums x xs ys

-- whether each row follows from the one before it
abbrev pub are_rows : List ℕ → List (List ℕ) → Bool
are_rows xs [] = true
are_rows xs (ys ∷ rows) = are_sums 0 xs ys && are_rows ys rows

-- xs begins row n of the triangle
pub record IsRow (n : ℕ) (xs : List ℕ) : Type 0 where
  pub length : length xs ≡ 33
  pub entries : (k : ℕ) → k < 33 → get_or xs k 0 ≡ binomial n k

sums_length : (p : ℕ) (xs ys : List ℕ) → are_sums p xs ys ≡ true → length ys ≡ length xs
sums_length p [] [] e = refl
sums_length p [] (y ∷ ys) e = cc
sums_length p (x ∷ xs) [] e = cc
sums_length p (x ∷ xs) (y ∷ ys) e = ap suc (sums_length x xs ys (and_right _ _ e))

sums_at : (p : ℕ) (xs ys : List ℕ) → are_sums p xs ys ≡ true → (k : ℕ) → k < length xs → get_or ys k 0 ≡ get_or (p ∷ xs) k 0 + get_or xs k 0
sums_at p [] ys e k l = absurd (omega arith)
sums_at p (x ∷ xs) [] e k l = cc
sums_at p (x ∷ xs) (y ∷ ys) e zero l = eqb-true y (p + x) (and_left _ _ e)
sums_at p (x ∷ xs) (y ∷ ys) e (suc k) l = sums_at x xs ys (and_right _ _ e) k (omega arith)

next_row : (n : ℕ) (xs ys : List ℕ) → IsRow n xs → are_sums 0 xs ys ≡ true → IsRow (suc n) ys
next_row n xs ys r e = record {
  length = sums_length 0 xs ys e ∙ r.length;
  entries = λ k l.
      let h : k < length xs = omega (arith, r.length) in
      sums_at 0 xs ys e k h ∙ entry k h;
}
  where
    entry : (k : ℕ) → k < length xs → get_or (0 ∷ xs) k 0 + get_or xs k 0 ≡ binomial (suc n) k
    entry zero l = omega (arith, r.entries 0 (omega (arith, r.length)), binomial_zero n, binomial_zero (suc n))
    entry (suc k) l = omega (arith, r.entries k (omega (arith, r.length)), r.entries (suc k) (omega (arith, r.length)), pascal n k)

rows_are : (n : ℕ) (xs : List ℕ) (rows : List (List ℕ)) → IsRow n xs → are_rows xs rows ≡ true → (i : ℕ) (d : List ℕ) → i < length rows → IsRow (suc n + i)
    (get_or rows i d)
rows_are n xs [] r e i d l = absurd (omega arith)
rows_are n xs (ys ∷ rows) r e zero d l =
    subst (λ (m : ℕ). IsRow m ys) (let q : suc n ≡ suc n + 0 = omega arith in q) (next_row n xs ys r (and_left _ _ e))
rows_are n xs (ys ∷ rows) r e (suc i) d l =
    subst (λ (m : ℕ). IsRow m (get_or rows i d)) (let q : suc (suc n) + i ≡ suc n + suc i = omega arith in q)
    (rows_are (suc n) ys rows (next_row n xs ys r (and_left _ _ e)) (and_right _ _ e) i d (omega arith))

-- whether the rows are those of the triangle, from the first on
abbrev pub is_triangle : List (List ℕ) → Bool
is_triangle [] = eqb 0 1
is_triangle ([] ∷ rows) = eqb 0 1
is_triangle ((x ∷ xs) ∷ rows) = eqb x 1 && ((eqb (length xs) 32 && list_all (λ y. eqb y 0) xs) && are_rows (x ∷ xs) rows)

zeros_at : (xs : List ℕ) → list_all (λ y. eqb y 0) xs ≡ true → (k : ℕ) → get_or xs k 0 ≡ 0
zeros_at [] e k = refl
zeros_at (x ∷ xs) e zero = eqb-true x 0 (and_left _ _ e)
zeros_at (x ∷ xs) e (suc k) = zeros_at xs (and_right _ _ e) k

first_row : (x : ℕ) (xs : List ℕ) → x ≡ 1 → length xs ≡ 32 → list_all (λ y. eqb y 0) xs ≡ true → IsRow 0 (x ∷ xs)
first_row x xs e l z = record { length = ap suc l; entries = entry }
  where
    entry : (k : ℕ) → k < 33 → get_or (x ∷ xs) k 0 ≡ binomial 0 k
    entry zero h = omega (arith, binomial_zero 0)
    entry (suc k) h = omega (arith, binomial_none k, zeros_at xs z k)

leading_row : (x : ℕ) (xs : List ℕ) (rows : List (List ℕ)) → is_triangle ((x ∷ xs) ∷ rows) ≡ true → IsRow 0 (x ∷ xs)
leading_row x xs rows e =
    first_row x xs (eqb-true x 1 (and_left _ _ e)) (eqb-true _ _ (and_left _ _ (and_left _ _ (and_right _ _ e))))
    (and_right _ _ (and_left _ _ (and_right _ _ e)))

-- each row of such a table is that row of the triangle
pub triangle_is : (rows : List (List ℕ)) → is_triangle rows ≡ true → (n : ℕ) (d : List ℕ) → n < length rows → IsRow n (get_or rows n d)
triangle_is [] e n d l = absurd (omega arith)
triangle_is ([] ∷ rows) e n d l = cc
triangle_is ((x ∷ xs) ∷ rows) e zero d l = leading_row x xs rows e
triangle_is ((x ∷ xs) ∷ rows) e (suc n) d l =
    subst (λ (m : ℕ). IsRow m (get_or rows n d)) (let q : suc 0 + n ≡ suc n = omega arith in q)
    (rows_are 0 (x ∷ xs) rows (leading_row x xs rows e) (and_right _ _ (and_right _ _ e)) n d (omega arith))
