-- Lists of numbers that pass a test, and what comes of them: how many, and one number at a time.
use Rattle.std.specs.List.{Contains, list_any, filter, filter_map, cons_option, range_with_len}
use Rattle.std.proofs.lemmas.Bool.{cases_Bool, cond_both, true≢false}
use Rattle.std.proofs.lemmas.List.{append-nil, length-append}
use Rattle.std.proofs.lemmas.List.Elements.{filter-append, filter_map-append}
use Rattle.std.proofs.lemmas.List.FromFn.{length-range_with_len, get_or-range_with_len}
use Rattle.std.proofs.Common.{◌≡◌, ℕ, zero, suc, ◌+◌, ◌-◌, ◌<◌, ◌≤◌, Bool, true, false, eqb, eqb-true, eq-eqb, cond, List, [], ◌∷◌, ◌++◌, length, get_or, Option, None, Some, refl, sym, ap, ◌∙◌, subst, arith, inl, inr}
use Rattle.std.specs.Prelude.{◌↔◌, IsTrue}
use Rattle.gm_board.specs.laws.Lists.{contains_head, range_more}
use Rattle.gm_board.specs.laws.Groups.{any_at}
use Rattle.gm_board.specs.laws.Patterns.{same_tests, any_from}

-- the numbers of a range
pub range_in : (a n x : ℕ) → Contains (range_with_len a n) x → (a ≤ x) × (x < a + n)
range_in a n x c =
    let l : c.0 < n = omega (arith, c.1, length-range_with_len a n) in
    let e : get_or (range_with_len a n) c.0 x ≡ a + c.0 = get_or-range_with_len a n c.0 x l in
    (omega (arith, e, c.2), omega (arith, e, c.2))

-- a number is in a list where the test of some holds
pub listed_test : (x : Bool) (xs : List ℕ) (c : ℕ) → (IsTrue x ↔ Contains xs c) → x ≡ list_any (λ k. eqb k c) xs
listed_test x xs c h =
    same_tests x (list_any (λ (k : ℕ). eqb k c) xs)
    (λ e. any_from (λ (k : ℕ). eqb k c) xs c (h.0 e) (eq-eqb c c refl))
    (λ e. let y = any_at (λ (k : ℕ). eqb k c) xs e in h.1 (subst (λ (k : ℕ). Contains xs k) (eqb-true y.0 c y.2) y.1))

-- ---- lengths of lists
option_length : {B : Type 0} (o : Option B) (bs : List B) (n : ℕ) (b : Bool) → length bs ≤ n → ((x : B) → o ≡ Some x → b ≡ true) → length (cons_option o bs)
    ≤ cond b (suc n) n
option_length None bs n true l h = omega arith
option_length None bs n false l h = l
option_length (Some x) bs n true l h = omega arith
option_length (Some x) bs n false l h = absurd (true≢false (sym (h x refl)))

filter_length : (p : ℕ → Bool) (x : ℕ) (xs : List ℕ) → length (filter p (x ∷ xs)) ≡ cond (p x) (suc (length (filter p xs))) (length (filter p xs))
filter_length p x xs = elim (cases_Bool (p x)) [ inl e ↦ rw e refl | inr e ↦ rw e refl ]

-- a function gives something for no more elements of a list than pass a test, if all for which it gives something pass the test
pub filter_map_few : {B : Type 0} (h : ℕ → Option B) (p : ℕ → Bool) → ((m : ℕ) (b : B) → h m ≡ Some b → p m ≡ true) → (xs : List ℕ) → length
    (filter_map h xs) ≤ length (filter p xs)
filter_map_few h p all [] = omega arith
filter_map_few h p all (x ∷ xs) =
    subst (λ (n : ℕ). length (filter_map h (x ∷ xs)) ≤ n) (sym (filter_length p x xs))
    (option_length (h x) (filter_map h xs) (length (filter p xs)) (p x) (filter_map_few h p all xs) (λ b e. all x b e))

-- a stricter test keeps no more elements of a list
pub filter_few : (q p : ℕ → Bool) → ((m : ℕ) → q m ≡ true → p m ≡ true) → (xs : List ℕ) → length (filter q xs) ≤ length (filter p xs)
filter_few q p all [] = omega arith
filter_few q p all (x ∷ xs) =
    let i = filter_few q p all xs in
    elim (cases_Bool (q x)) [
      | inl e ↦ (let f : p x ≡ true = all x e in rw (e, f) (omega (arith, i)))
      | inr e ↦ rw e (cond_both (p x) (x ∷ filter p xs) (filter p xs) (λ (ys : List ℕ). length (filter q xs) ≤ length ys) (λ f. omega (arith, i)) (λ f. i))
    ]

-- ---- empty lists
-- a list without an element is empty
pub nil_or : {X : Type 0} (xs : List X) → ((x : X) → Contains xs x → ⊥) → xs ≡ []
nil_or [] h = refl
nil_or (x ∷ xs) h = absurd (h x (contains_head x xs))

-- ---- one number at a time
filter_one : (p : ℕ → Bool) (n : ℕ) → filter p (range_with_len 0 (n + 1)) ≡ filter p (range_with_len 0 n) ++ filter p (n ∷ [])
filter_one p n = ap (filter p) (range_more n) ∙ filter-append p (range_with_len 0 n) (n ∷ [])

-- one more number of a range, which is kept
pub filter_in : (p : ℕ → Bool) (n : ℕ) → p n ≡ true → filter p (range_with_len 0 (n + 1)) ≡ filter p (range_with_len 0 n) ++ n ∷ []
filter_in p n e = filter_one p n ∙ rw e refl

-- one more number of a range, which is not kept
pub filter_out : (p : ℕ → Bool) (n : ℕ) → p n ≡ false → filter p (range_with_len 0 (n + 1)) ≡ filter p (range_with_len 0 n)
filter_out p n e = filter_one p n ∙ rw e (append-nil (filter p (range_with_len 0 n)))

-- ---- room for one more
one_more : (p : ℕ → Bool) (n : ℕ) → length (filter p (range_with_len 0 (n + 1))) ≡ length (filter p (range_with_len 0 n)) + length (filter p (n ∷ []))
one_more p n = ap (λ (xs : List ℕ). length xs) (filter_one p n) ∙ length-append (filter p (range_with_len 0 n)) (filter p (n ∷ []))

-- one more number of a range adds as many results as the function gives for this number
pub one_more_map : {B : Type 0} (h : ℕ → Option B) (n : ℕ) → length (filter_map h (range_with_len 0 (n + 1))) ≡ length (filter_map h (range_with_len 0 n)) +
    length (filter_map h (n ∷ []))
one_more_map h n =
    ap (λ (xs : List _). length xs) (ap (filter_map h) (range_more n) ∙ filter_map-append h (range_with_len 0 n) (n ∷ []))
    ∙ length-append (filter_map h (range_with_len 0 n)) (filter_map h (n ∷ []))

grows : (f : ℕ → ℕ) → ((k : ℕ) → f k ≤ f (k + 1)) → (n k : ℕ) → f n ≤ f (n + k)
grows f h n zero = let e : n + 0 ≡ n = omega arith in rw e (omega arith)
grows f h n (suc k) = let e : n + suc k ≡ n + k + 1 = omega arith in rw e (omega (arith, h (n + k), grows f h n k))

-- a count that grows by one below a bound has not reached it
pub room : (f : ℕ → ℕ) → ((k : ℕ) → f k ≤ f (k + 1)) → (n m : ℕ) → f n ≤ 128 → m < n → f (m + 1) ≡ f m + 1 → f m < 128
room f h n m all l e =
    let rest : m + 1 + (n - (m + 1)) ≡ n = omega arith in
    let up : f (m + 1) ≤ f n = subst (λ (k : ℕ). f (m + 1) ≤ f k) rest (grows f h (m + 1) (n - (m + 1))) in
    omega (arith, up, all, e)

-- there is room for each number that is kept, where they are at most 128
pub filter_room : (p : ℕ → Bool) (n m : ℕ) (xs : List ℕ) → length (filter p (range_with_len 0 n)) ≤ 128 → m < n → p m ≡ true → xs ≡ filter p
    (range_with_len 0 m) → length xs < 128
filter_room p n m xs all l e is =
    let last : length (filter p (m ∷ [])) ≡ 1 = rw e refl in
    subst (λ (ys : List ℕ). length ys < 128) (sym is)
    (room (λ k. length (filter p (range_with_len 0 k))) (λ k. let s = one_more p k in omega (arith, s)) n m all l
    (let s = one_more p m in omega (arith, s, last)))
