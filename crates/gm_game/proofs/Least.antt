-- The least of a list of numbers.
use Rattle.gm_game.proofs.Lower.{◌≡◌, ℕ, ◌≤◌, List, [], ◌∷◌, ◌⊎◌, inl, inr, refl, sym, ◌∙◌, subst, arith}
use Rattle.std.proofs.Common.{min, le_antisymm}
use Rattle.std.specs.List.{fold, Contains}
use Rattle.gm_game.proofs.Lists.{contains_cases, contains_later}

pub least_le_first : (a : ℕ) (xs : List ℕ) → fold min a xs ≤ a
least_le_first a [] = omega arith
least_le_first a (x ∷ xs) = omega (arith, least_le_first (min a x) xs)

pub least_le : (a : ℕ) (xs : List ℕ) (x : ℕ) → Contains xs x → fold min a xs ≤ x
least_le a [] x c = absurd (omega (arith, c.1))
least_le a (y ∷ ys) x c =
    elim (contains_cases y x ys c) [
      | inl e ↦ omega (arith, least_le_first (min a y) ys, e)
      | inr d ↦ least_le (min a y) ys x d
    ]

min_is : (a x : ℕ) → (min a x ≡ a) ⊎ (min a x ≡ x)
min_is a x = grind arith

pub least_is : (a : ℕ) (xs : List ℕ) → (fold min a xs ≡ a) ⊎ Contains xs (fold min a xs)
least_is a [] = inl refl
least_is a (x ∷ xs) =
    elim (least_is (min a x) xs) [
      | inl e ↦ elim (min_is a x) [
        | inl f ↦ inl (e ∙ f)
        | inr f ↦ inr (0, omega arith, sym (e ∙ f))
      ]
      | inr d ↦ inr (contains_later x _ xs d)
    ]

-- the least of a list that has the first
pub least_in : (a : ℕ) (xs : List ℕ) → Contains xs a → Contains xs (fold min a xs)
least_in a xs c =
    elim (least_is a xs) [
      | inl e ↦ subst (λ (x : ℕ). Contains xs x) (sym e) c
      | inr d ↦ d
    ]

-- lists of the same elements have the same least
pub least_same : (a b : ℕ) (xs ys : List ℕ) → Contains xs a → Contains ys b
    → ((x : ℕ) → Contains xs x → Contains ys x) → ((x : ℕ) → Contains ys x → Contains xs x)
    → fold min a xs ≡ fold min b ys
least_same a b xs ys ca cb f g =
    le_antisymm (least_le a xs _ (g _ (least_in b ys cb))) (least_le b ys _ (f _ (least_in a xs ca)))
