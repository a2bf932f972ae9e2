-- The elements of a list that have a property.
use Rattle.std.specs.Prelude.{◌≡◌, ℕ, zero, suc, ◌-◌, ◌⊎◌, List, [], ◌∷◌, ◌++◌, length}

module _ {A : Type 0} (P : A → Type 0) where
  -- ys are those of the xs that have the property, in their order
  abbrev pub AreThose : List A → List A → Type 0
  AreThose [] ys = ys ≡ []
  AreThose (x ∷ xs) ys = ((rest : List A) × P x × (ys ≡ x ∷ rest) × AreThose xs rest) ⊎ ((P x → ⊥) × AreThose xs ys)

  -- ys are the first of the xs that have the property, at most n
  abbrev pub IsFirst : ℕ → List A → List A → Type 0
  IsFirst n [] ys = ys ≡ []
  IsFirst zero (x ∷ xs) ys = ys ≡ []
  IsFirst (suc n) (x ∷ xs) ys = ((rest : List A) × P x × (ys ≡ x ∷ rest) × IsFirst n xs rest) ⊎ ((P x → ⊥) × IsFirst (suc n) xs ys)

  -- the first of the xs that have the property are added to a list, up to a limit on its length
  abbrev pub Adds : ℕ → List A → List A → List A → Type 0
  Adds limit xs old new = (more : List A) × (new ≡ old ++ more) × IsFirst (limit - length old) xs more
