-- The elements of a list that have a property, with one element or list more.
use Rattle.gm_find.proofs.Lower.{◌≡◌, ℕ, zero, suc, ◌<◌, ◌+◌, ◌-◌, inl, inr, List, [], ◌∷◌, ◌++◌, map, take, length, refl, sym, ap, ◌∙◌, subst, arith, length-append, Contains, range_with_len, contains_none, contains_first, contains_later, contains_cases, AreThose, Adds, IsFirst}
use Rattle.std.proofs.Common.{◌≤◌, append_assoc}
use Rattle.gm_game.specs.Rules.{IsAscending}
use Rattle.std.proofs.lemmas.List.{append-nil}
use Rattle.std.proofs.lemmas.Bool.{cases_lt}
use Rattle.gm_play.proofs.Wanted.{ascending_above, ascending_rest}

module _ {A : Type 0} (P : A → Type 0) where
  -- one element more, which has the property or not
  pub those_push : (xs ys : List A) (x : A) → AreThose P xs ys → P x → AreThose P (xs ++ x ∷ []) (ys ++ x ∷ [])
  those_push [] ys x h p = inl ([], p, ap (λ (l : List A). l ++ x ∷ []) h, refl)
  those_push (z ∷ zs) ys x (inl (rest, q, e, t)) p = inl (rest ++ x ∷ [], q, ap (λ (l : List A). l ++ x ∷ []) e, those_push zs rest x t p)
  those_push (z ∷ zs) ys x (inr (n, t)) p = inr (n, those_push zs ys x t p)

  pub those_skip : (xs ys : List A) (x : A) → AreThose P xs ys → (P x → ⊥) → AreThose P (xs ++ x ∷ []) ys
  those_skip [] ys x h p = inr (p, h)
  those_skip (z ∷ zs) ys x (inl (rest, q, e, t)) p = inl (rest, q, e, those_skip zs rest x t p)
  those_skip (z ∷ zs) ys x (inr (n, t)) p = inr (n, those_skip zs ys x t p)

  -- there is one such list
  pub those_once : (xs ys zs : List A) → AreThose P xs ys → AreThose P xs zs → ys ≡ zs
  those_once [] ys zs h k = h ∙ sym k
  those_once (x ∷ xs) ys zs (inl (a, p, e, t)) (inl (b, q, f, u)) = e ∙ ap (λ (l : List A). x ∷ l) (those_once xs a b t u) ∙ sym f
  those_once (x ∷ xs) ys zs (inl (a, p, e, t)) (inr (n, u)) = absurd (n p)
  those_once (x ∷ xs) ys zs (inr (n, t)) (inl (b, q, f, u)) = absurd (n q)
  those_once (x ∷ xs) ys zs (inr (n, t)) (inr (m, u)) = those_once xs ys zs t u

  first_zero : (xs ys : List A) → IsFirst P 0 xs ys → ys ≡ []
  first_zero [] ys h = h
  first_zero (x ∷ xs) ys h = h

  zero_first : (xs : List A) → IsFirst P 0 xs []
  zero_first [] = refl
  zero_first (x ∷ xs) = refl

  pub first_not : (n : ℕ) (x : A) → (P x → ⊥) → IsFirst P n (x ∷ []) []
  first_not zero x h = refl
  first_not (suc n) x h = inr (h, refl)

  pub first_is : (n : ℕ) (x : A) → 0 < n → P x → IsFirst P n (x ∷ []) (x ∷ [])
  first_is zero x l p = absurd (omega arith)
  first_is (suc n) x l p = inl ([], p, refl, refl)

  -- one element is added below the limit if it has the property
  pub adds_one : (limit : ℕ) (old new : List A) (x : A) → length old < limit → P x → new ≡ old ++ x ∷ [] → Adds P limit (x ∷ []) old new
  adds_one limit old new x l p e = (x ∷ [], e, first_is (limit - length old) x (omega arith) p)

  pub adds_none : (limit : ℕ) (old : List A) (x : A) → (P x → ⊥) → Adds P limit (x ∷ []) old old
  adds_none limit old x h = ([], sym (append-nil old), first_not (limit - length old) x h)

  -- of a list that has enough of them in its first elements these are the first of all
  pub first_taken : (k n : ℕ) (xs ys : List A) → IsFirst P n (take k xs) ys → n ≤ length ys → IsFirst P n xs ys
  first_taken zero zero xs ys h l = subst (IsFirst P 0 xs) (sym h) (zero_first xs)
  first_taken zero (suc n) xs ys h l = let e = ap length h in absurd (omega arith)
  first_taken (suc k) n [] ys h l = h
  first_taken (suc k) zero (x ∷ xs) ys h l = h
  first_taken (suc k) (suc n) (x ∷ xs) ys (inl (rest, p, e, t)) l = let f = ap length e in inl (rest, p, e, first_taken k n xs rest t (omega arith))
  first_taken (suc k) (suc n) (x ∷ xs) ys (inr (p, t)) l = inr (p, first_taken k (suc n) xs ys t l)

  -- those of two lists
  pub first_append : (n : ℕ) (xs zs ys ws : List A) → IsFirst P n xs ys → IsFirst P (n - length ys) zs ws → IsFirst P n (xs ++ zs) (ys ++ ws)
  first_append n [] zs ys ws h k =
      let none : length ys ≡ 0 = ap length h in
      let same : n - length ys ≡ n = omega arith in
      subst (IsFirst P n zs) (ap (λ (l : List A). l ++ ws) (sym h)) (rw same at k)
  first_append zero (x ∷ xs) zs ys ws h k =
      let none : length ys ≡ 0 = ap length h in
      let same : 0 - length ys ≡ 0 = omega arith in
      ap (λ (l : List A). l ++ ws) h ∙ first_zero zs ws (rw same at k)
  first_append (suc n) (x ∷ xs) zs ys ws (inl (rest, p, e, t)) k =
      let long : length ys ≡ suc (length rest) = ap length e in
      let same : suc n - length ys ≡ n - length rest = omega arith in
      inl (rest ++ ws, p, ap (λ (l : List A). l ++ ws) e, first_append n xs zs rest ws t (rw same at k))
  first_append (suc n) (x ∷ xs) zs ys ws (inr (p, t)) k = inr (p, first_append (suc n) xs zs ys ws t k)

  -- a list that grows by those of some further elements
  pub adds_more : (limit : ℕ) (old cur new xs zs : List A) → Adds P limit xs old cur → Adds P limit zs cur new → Adds P limit (xs ++ zs) old new
  adds_more limit old cur new xs zs (more, e, h) (add, f, k) =
      let long : length cur ≡ length old + length more = ap length e ∙ length-append old more in
      let same : limit - length cur ≡ (limit - length old) - length more = omega arith in (
        more ++ add,
        f ∙ ap (λ (l : List A). l ++ add) e ∙ append_assoc old more add,
        first_append (limit - length old) xs zs more add h (rw same at k),
      )

  -- the limit is reached before the end of a list
  pub adds_full : (limit : ℕ) (old cur : List A) (k : ℕ) (xs : List A) → Adds P limit (take k xs) old cur → limit ≤ length cur → Adds P limit xs old cur
  adds_full limit old cur k xs (more, e, h) l =
      let long : length cur ≡ length old + length more = ap length e ∙ length-append old more in
      (more, e, first_taken k (limit - length old) xs more h (omega arith))

  -- of an ascending list of numbers that has all those with the property, the first are those of all numbers
  module _ (f : ℕ → A) where
    -- what is known of the list: ascending numbers from k to below k + n, with all of them that have the property
    pub record IsRun (k n : ℕ) (is : List ℕ) : Type 0 where
      pub ascending : IsAscending is
      pub within : (i : ℕ) → Contains is i → (k ≤ i) × (i < k + n)
      pub all : (i : ℕ) → k ≤ i → i < k + n → P (f i) → Contains is i

    -- the run from the next number on, where the first number isn't in it
    later : (k n : ℕ) (is : List ℕ) → ((i : ℕ) → Contains is i → k < i) → IsRun k (suc n) is → IsRun (k + 1) n is
    later k n is above h = record {
      ascending = h.ascending;
      within = λ i c. (let a = above i c in let b = (h.within i c).1 in (omega arith, omega arith));
      all = λ i a b p. h.all i (omega arith) (omega arith) p;
    }

    next : (k n : ℕ) (is : List ℕ) → IsRun k (suc n) (k ∷ is) → IsRun (k + 1) n is
    next k n is h = record {
      ascending = ascending_rest k is h.ascending;
      within = λ i c. (let a = ascending_above k is h.ascending i c in let b = (h.within i (contains_later k i is c)).1 in (omega arith, omega arith));
      all = λ i a b p. elim (contains_cases k i is (h.all i (omega arith) (omega arith) p)) [ inl e ↦ absurd (omega arith) | inr c ↦ c ];
    }

    above_all : (k i : ℕ) (is : List ℕ) → k < i → IsAscending (i ∷ is) → (j : ℕ) → Contains (i ∷ is) j → k < j
    above_all k i is l h j c = elim (contains_cases i j is c) [ inl e ↦ omega arith | inr d ↦ (let m = ascending_above i is h j d in omega arith) ]

    -- the next number is in the run
    there : (m k i : ℕ) (is ns : List ℕ) (ys : List A) → i ≡ k → ((j : ℕ) (zs : List A) → IsFirst P j (map f is) zs → IsFirst P j (map f ns) zs) → IsFirst P
        (suc m) (f i ∷ map f is) ys → IsFirst P (suc m) (f k ∷ map f ns) ys
    there m k i is ns ys e step (inl (rest, p, q, t)) = inl (rest, subst (λ (j : ℕ). P (f j)) e p, q ∙ ap (λ (j : ℕ). f j ∷ rest) e, step m rest t)
    there m k i is ns ys e step (inr (p, t)) = inr (λ q. p (subst (λ (j : ℕ). P (f j)) (sym e) q), step (suc m) ys t)

    pub run_first : (n m k : ℕ) (is : List ℕ) (ys : List A) → IsRun k n is → IsFirst P m (map f is) ys → IsFirst P m (map f (range_with_len k n)) ys
    run_first zero m k [] ys run h = h
    run_first zero m k (i ∷ is) ys run h = let w = run.within i (contains_first i is) in let a = w.0 in let b = w.1 in absurd (omega arith)
    run_first (suc n) zero k is ys run h = first_zero (map f is) ys h
    run_first (suc n) (suc m) k [] ys run h = inr (
      λ p. contains_none k (run.all k (omega arith) (omega arith) p),
      run_first n (suc m) (k + 1) [] ys
          (later k n [] (λ i c. absurd (contains_none i c)) run) h,
    )
    run_first (suc n) (suc m) k (i ∷ is) ys run h = elim (cases_lt k i) [
      | inl l ↦ inr (
        λ p. (let m = above_all k i is l run.ascending k (run.all k (omega arith) (omega arith) p) in omega arith),
        run_first n (suc m) (k + 1) (i ∷ is) ys
            (later k n (i ∷ is) (above_all k i is l run.ascending) run) h,
      )
      | inr l ↦ (
          let w = (run.within i (contains_first i is)).0 in
          let e : i ≡ k = omega arith in
          let same : IsRun k (suc n) (k ∷ is) = subst (λ (j : ℕ). IsRun k (suc n) (j ∷ is)) e run in
          there m k i is (range_with_len (k + 1) n) ys e (λ j zs t. run_first n j (k + 1) is zs (next k n is same) t) h)
    ]

  -- they are no more than the list has
  pub those_few : (xs ys : List A) → AreThose P xs ys → length ys ≤ length xs
  those_few [] ys h = let e = ap length h in omega arith
  those_few (x ∷ xs) ys (inl (rest, p, e, t)) = let n = ap length e in let m = those_few xs rest t in omega arith
  those_few (x ∷ xs) ys (inr (p, t)) = let m = those_few xs ys t in omega arith
