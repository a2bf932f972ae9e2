-- Some elements of a list, picked out in their order.
use Rattle.std.specs.Prelude.{◌≡◌, ℕ, ◌⊎◌, List, [], ◌∷◌, length, min}

-- ys are some of the xs, each taken once at most, in their order
abbrev pub ArePicked : {A : Type 0} → List A → List A → Type 0
ArePicked [] ys = ys ≡ []
ArePicked {A} (x ∷ xs) ys = ArePicked xs ys ⊎ ((rest : List A) × (ys ≡ x ∷ rest) × ArePicked xs rest)

-- ys are n of the xs in their order, or all of them if there are fewer
pub record IsSample {A : Type 0} (n : ℕ) (xs ys : List A) : Type 0 where
  pub picked : ArePicked xs ys
  pub many : length ys ≡ min n (length xs)
