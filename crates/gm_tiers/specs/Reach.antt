-- The tiers that a game reaches, from its initial tier or from another one.
use Rattle.std.specs.Prelude.{◌≡◌, ℕ, zero, suc, List, [], ◌∷◌, ◌++◌, take}
use Rattle.std.specs.List.{Contains}
use Rattle.gm_game.specs.Rules.{Rules}

-- the tier is reached from the first one in n steps, each to a child tier
abbrev pub IsReachedIn : Rules → ℕ → ℕ → ℕ → Type 0
IsReachedIn r first zero tier = tier ≡ first
IsReachedIn r first (suc n) tier = (parent : ℕ) × IsReachedIn r first n parent × Contains (r.child_tiers parent) tier

-- the tier is reached from the first one
abbrev pub IsReachedFrom : Rules → ℕ → ℕ → Type 0
IsReachedFrom r first tier = (n : ℕ) × IsReachedIn r first n tier

-- the tier is reached from the initial one
abbrev pub IsReached : Rules → ℕ → Type 0
IsReached r tier = IsReachedFrom r r.initial.tier tier

-- a search comes to the tier next: it begins with the first tier, and then comes to a child tier of a tier that it has found
abbrev pub IsNext : Rules → ℕ → List ℕ → ℕ → Type 0
IsNext r first [] tier = tier ≡ first
IsNext r first (t ∷ ts) tier = (parent : ℕ) × Contains (t ∷ ts) parent × Contains (r.child_tiers parent) tier

-- a search that has found some tiers goes on to these tiers in this order, each for the first time
abbrev pub IsSearchOn : Rules → ℕ → List ℕ → List ℕ → Type 0
IsSearchOn r first found [] = Unit {0}
IsSearchOn r first found (t ∷ ts) = IsNext r first found t × (Contains found t → ⊥) × IsSearchOn r first (found ++ t ∷ []) ts

-- a search from the first tier finds these tiers in this order
abbrev pub IsSearch : Rules → ℕ → List ℕ → Type 0
IsSearch r first found = IsSearchOn r first [] found

-- the child tiers of the first n of the tiers are among the tiers
abbrev pub IsClosed : Rules → ℕ → List ℕ → Type 0
IsClosed r n tiers = (t child : ℕ) → Contains (take n tiers) t → Contains (r.child_tiers t) child → Contains tiers child

-- the new list is the old one, possibly with more at its end
abbrev pub IsGrown : List ℕ → List ℕ → Type 0
IsGrown old new = (more : List ℕ) × (new ≡ old ++ more)
