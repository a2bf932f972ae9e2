-- A property of each element of a list that a loop visits.
use Rattle.gm_page.proofs.Lower.{ℕ, ◌+◌, ◌<◌, ◌≤◌, List, length, take, get_or, sym, subst, inl, inr, Contains, take_all}
use Rattle.std.proofs.lemmas.List.{take_more}
use Rattle.std.proofs.lemmas.List.Elements.{Contains-push_cases}

module _ {X : Type 0} (P : X → Type 0) where
  pub each_next : (xs : List X) (i : ℕ) (d : X) → i < length xs → ((x : X) → Contains (take i xs) x → P x) → P (get_or xs i d) → (x : X) → Contains
      (take (i + 1) xs) x → P x
  each_next xs i d l h here x c = elim (Contains-push_cases (take i xs) (get_or xs i d) x (subst (λ (ys : List X). Contains ys x) (take_more xs i d l) c)) [
    | inl o ↦ h x o
    | inr e ↦ subst P e here
  ]

  pub each_done : (xs : List X) (i : ℕ) → length xs ≤ i → ((x : X) → Contains (take i xs) x → P x) → (x : X) → Contains xs x → P x
  each_done xs i l h x c = h x (subst (λ (ys : List X). Contains ys x) (sym (take_all i xs l)) c)
