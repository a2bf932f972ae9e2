-- Elements that are picked out of a list, with one element more.
use Rattle.gm_find.proofs.Lower.{◌≡◌, ℕ, ◌+◌, ◌<◌, inl, inr, List, get_or, length, take, take_more, arith, [], ◌∷◌, ◌++◌, refl, ap, subst, All, Contains, Contains-get_or, contains_none, contains_first, contains_later, contains_cases}
use Rattle.gm_find.specs.Samples.{ArePicked}

module _ {A : Type 0} where
  picked_skip : (xs ys : List A) (x : A) → ArePicked xs ys → ArePicked (xs ++ x ∷ []) ys
  picked_skip [] ys x h = inl h
  picked_skip (z ∷ zs) ys x (inl k) = inl (picked_skip zs ys x k)
  picked_skip (z ∷ zs) ys x (inr (rest, e, k)) = inr (rest, e, picked_skip zs rest x k)

  picked_push : (xs ys : List A) (x : A) → ArePicked xs ys → ArePicked (xs ++ x ∷ []) (ys ++ x ∷ [])
  picked_push [] ys x h = inr ([], ap (λ (l : List A). l ++ x ∷ []) h, refl)
  picked_push (z ∷ zs) ys x (inl k) = inl (picked_push zs ys x k)
  picked_push (z ∷ zs) ys x (inr (rest, e, k)) = inr (rest ++ x ∷ [], ap (λ (l : List A). l ++ x ∷ []) e, picked_push zs rest x k)

  -- one more element is looked at, and picked or not
  pub picked_more : (xs ys new : List A) (k : ℕ) (d : A) → k < length xs → ArePicked (take k xs) ys → new ≡ ys ++ get_or xs k d ∷ [] → ArePicked (take (k + 1) xs) new
  picked_more xs ys new k d inside h e = rw (take_more xs k d inside, e) (picked_push (take k xs) ys (get_or xs k d) h)

  pub picked_left : (xs ys : List A) (k : ℕ) → k < length xs → ArePicked (take k xs) ys → ArePicked (take (k + 1) xs) ys
  picked_left [] ys k inside h = absurd (omega arith)
  picked_left (x ∷ xs) ys k inside h = rw (take_more (x ∷ xs) k x inside) (picked_skip (take k (x ∷ xs)) ys (get_or (x ∷ xs) k x) h)

  -- what is picked is in the list
  pub picked_in : (xs ys : List A) (y : A) → ArePicked xs ys → Contains ys y → Contains xs y
  picked_in [] ys y h c = absurd (contains_none y (subst (λ (l : List A). Contains l y) h c))
  picked_in (x ∷ xs) ys y (inl k) c = contains_later x y xs (picked_in xs ys y k c)
  picked_in (x ∷ xs) ys y (inr (rest, e, k)) c = elim (contains_cases x y rest (subst (λ (l : List A). Contains l y) e c)) [
    | inl f ↦ subst (Contains (x ∷ xs)) f (contains_first x xs)
    | inr d ↦ contains_later x y xs (picked_in xs rest y k d)
  ]

  pub picked_all : (P : A → Type 0) (xs ys : List A) → ArePicked xs ys → All P xs → All P ys
  picked_all P xs ys h all k d inside =
      let (i, l, e) = picked_in xs ys (get_or ys k d) h (Contains-get_or ys k d inside) in
      subst P e (all i (get_or ys k d) l)
