-- Numbers put into an ascending list, one at a time.
use Rattle.gm_game.proofs.Lower.{◌≡◌, ℕ, ◌+◌, ◌<◌, ◌≤◌, true, false, List, [], ◌∷◌, length, get_or, zero, suc, ◌⊎◌, inl, inr, refl, sym, subst, arith, nat_tests, cases_lt, put_all}
use Rattle.std.proofs.Common.{ltb, eqb, lt-ltb}
use Rattle.std.proofs.lemmas.Bool.{cases_eq}
use Rattle.gm_game.specs.Rules.{IsAscending}
use Rattle.gm_game.specs.Ascending.{put}
use Rattle.std.specs.List.{insert, Contains}
use Rattle.gm_game.proofs.Lists.{contains_first, contains_later, contains_cases}

-- put, where what is before the place is less and what is at it is greater
pub put_at : (x : ℕ) (ys : List ℕ) (i : ℕ) → i ≤ length ys → ((k : ℕ) → k < i → get_or ys k 0 < x) → (i < length ys → x < get_or ys i 0) → put x ys ≡ insert
    ys i x
put_at x [] zero l before here = refl
put_at x [] (suc i) l before here = absurd (omega arith)
put_at x (y ∷ ys) zero l before here = rw (lt-ltb x y (here (omega arith))) refl
put_at x (y ∷ ys) (suc i) l before here =
    let h : y < x = before 0 (omega arith) in
    let a : ltb x y ≡ false = grind (arith, nat_tests) in
    let b : eqb x y ≡ false = grind (arith, nat_tests) in
    rw (a, b, put_at x ys i (omega arith) (λ k m. before (suc k) (omega arith)) (λ m. here (omega arith))) refl

-- put, where x is there already
pub put_there : (x : ℕ) (ys : List ℕ) (i : ℕ) → i < length ys → ((k : ℕ) → k < i → get_or ys k 0 < x) → get_or ys i 0 ≡ x → put x ys ≡ ys
put_there x [] i l before here = absurd (omega arith)
put_there x (y ∷ ys) zero l before here =
    let a : ltb x y ≡ false = grind (arith, nat_tests) in
    let b : eqb x y ≡ true = grind (arith, nat_tests) in
    rw (a, b) refl
put_there x (y ∷ ys) (suc i) l before here =
    let h : y < x = before 0 (omega arith) in
    let a : ltb x y ≡ false = grind (arith, nat_tests) in
    let b : eqb x y ≡ false = grind (arith, nat_tests) in
    rw (a, b, put_there x ys i (omega arith) (λ k m. before (suc k) (omega arith)) here) refl

-- put keeps the order, and adds x alone
above : ℕ → List ℕ → Type 0
above z [] = Unit {0}
above z (y ∷ ys) = z < y

ascending_cons : (z : ℕ) (ys : List ℕ) → above z ys → IsAscending ys → IsAscending (z ∷ ys)
unfolding above
ascending_cons z [] a s = tt
ascending_cons z (y ∷ ys) a s = (a, s)

ascending_tail : (z : ℕ) (ys : List ℕ) → IsAscending (z ∷ ys) → IsAscending ys
ascending_tail z [] s = tt
ascending_tail z (y ∷ ys) s = s.1

ascending_above : (z : ℕ) (ys : List ℕ) → IsAscending (z ∷ ys) → above z ys
unfolding above
ascending_above z [] s = tt
ascending_above z (y ∷ ys) s = s.0

put_above : (z x : ℕ) (ys : List ℕ) → z < x → above z ys → above z (put x ys)
unfolding above
put_above z x [] l a = l
put_above z x (y ∷ ys) l a = grind (arith, nat_tests)

-- x goes before the first number, is it, or goes past it
put_by : (x y : ℕ) (ys : List ℕ) (P : List ℕ → Type 0) → (x < y → P (x ∷ y ∷ ys)) → (x ≡ y → P (y ∷ ys)) → (y < x → P (y ∷ put x ys)) → P (put x (y ∷ ys))
put_by x y ys P first same past = elim (cases_lt x y) [
  | inl l ↦ rw (lt-ltb x y l) (first l)
  | inr g ↦ elim (cases_eq x y) [
    | inl e ↦ let a : ltb x y ≡ false = grind (arith, nat_tests) in let b : eqb x y ≡ true = grind (arith, nat_tests) in rw (a, b) (same e)
    | inr n ↦ let a : ltb x y ≡ false = grind (arith, nat_tests) in let b : eqb x y ≡ false = grind (arith, nat_tests) in rw (a, b) (past (omega arith))
  ]
]

pub put_ascending : (x : ℕ) (ys : List ℕ) → IsAscending ys → IsAscending (put x ys)
put_ascending x [] s = tt
put_ascending x (y ∷ ys) s =
    put_by x y ys IsAscending (λ l. (l, s)) (λ _. s)
    (λ l. ascending_cons y (put x ys) (put_above y x ys l (ascending_above y ys s)) (put_ascending x ys (ascending_tail y ys s)))

pub put_has : (x : ℕ) (ys : List ℕ) → Contains (put x ys) x
put_has x [] = contains_first x []
put_has x (y ∷ ys) =
    put_by x y ys (λ (zs : List ℕ). Contains zs x) (λ _. contains_first x (y ∷ ys))
    (λ e. subst (λ (z : ℕ). Contains (y ∷ ys) z) (sym e) (contains_first y ys))
    (λ _. contains_later y x (put x ys) (put_has x ys))

pub put_keeps : (x : ℕ) (ys : List ℕ) (z : ℕ) → Contains ys z → Contains (put x ys) z
put_keeps x [] z c = contains_later x z [] c
put_keeps x (y ∷ ys) z c =
    put_by x y ys (λ (zs : List ℕ). Contains zs z) (λ _. contains_later x z (y ∷ ys) c) (λ _. c)
    (λ _. elim (contains_cases y z ys c) [
      | inl e ↦ subst (λ (w : ℕ). Contains (y ∷ put x ys) w) e (contains_first y (put x ys))
      | inr d ↦ contains_later y z (put x ys) (put_keeps x ys z d)
    ])

pub put_adds : (x : ℕ) (ys : List ℕ) (z : ℕ) → Contains (put x ys) z → (x ≡ z) ⊎ Contains ys z
put_adds x [] z = λ c. contains_cases x z [] c
put_adds x (y ∷ ys) z =
    put_by x y ys (λ (zs : List ℕ). Contains zs z → (x ≡ z) ⊎ Contains (y ∷ ys) z) (λ _ c. contains_cases x z (y ∷ ys) c) (λ _ c. inr c)
    (λ _ c. elim (contains_cases y z (put x ys) c) [
      | inl e ↦ inr (subst (λ (w : ℕ). Contains (y ∷ ys) w) e (contains_first y ys))
      | inr d ↦ elim (put_adds x ys z d) [ inl e ↦ inl e | inr f ↦ inr (contains_later y z ys f) ]
    ])

-- a number more makes the list longer by one at most
pub put_few : (x : ℕ) (ys : List ℕ) → length (put x ys) ≤ length ys + 1
put_few x [] = omega arith
put_few x (y ∷ ys) =
    put_by x y ys (λ (zs : List ℕ). length zs ≤ length (y ∷ ys) + 1) (λ _. omega arith) (λ _. omega arith) (λ _. let h = put_few x ys in omega arith)

pub put_all_ascending : (ys xs : List ℕ) → IsAscending ys → IsAscending (put_all ys xs)
put_all_ascending ys [] s = s
put_all_ascending ys (x ∷ xs) s = put_all_ascending (put x ys) xs (put_ascending x ys s)

pub put_all_from : (ys xs : List ℕ) (z : ℕ) → Contains (put_all ys xs) z → Contains ys z ⊎ Contains xs z
put_all_from ys [] z c = inl c
put_all_from ys (x ∷ xs) z c = elim (put_all_from (put x ys) xs z c) [
  | inl d ↦ elim (put_adds x ys z d) [ inl e ↦ inr (subst (λ (w : ℕ). Contains (x ∷ xs) w) e (contains_first x xs)) | inr f ↦ inl f ]
  | inr d ↦ inr (contains_later x z xs d)
]

pub put_all_first : (ys xs : List ℕ) (z : ℕ) → Contains ys z → Contains (put_all ys xs) z
put_all_first ys [] z c = c
put_all_first ys (x ∷ xs) z c = put_all_first (put x ys) xs z (put_keeps x ys z c)

pub put_all_later : (ys xs : List ℕ) (z : ℕ) → Contains xs z → Contains (put_all ys xs) z
put_all_later ys [] z c = absurd (omega (arith, c.1))
put_all_later ys (x ∷ xs) z c = elim (contains_cases x z xs c) [
  | inl e ↦ put_all_first (put x ys) xs z (subst (λ (w : ℕ). Contains (put x ys) w) e (put_has x ys))
  | inr d ↦ put_all_later (put x ys) xs z d
]

pub put_all_few : (ys xs : List ℕ) → length (put_all ys xs) ≤ length ys + length xs
put_all_few ys [] = omega arith
put_all_few ys (x ∷ xs) = let h = put_all_few (put x ys) xs in let k = put_few x ys in omega arith
