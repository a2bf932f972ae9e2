-- Positions of which none is met along best play from another.
use Rattle.std.specs.Prelude.{◌≡◌, ℕ, ◌<◌, ◌≤◌, ◌⊎◌, ◌^◌, ◌-◌, nat_eq, true, List, [], ◌∷◌, ◌++◌, length, Option, None, Some}
use Rattle.std.specs.List.{All, count_by}
use Rattle.std.specs.Option.{option_eq}
use Rattle.gm_game.specs.declared.position.Position.{Position}
use Rattle.gm_game.specs.Rules.{Rules}
use Rattle.gm_play.specs.BestLines.{AreBest}
use Rattle.gm_play.specs.Lines.{position_after}
use Rattle.gm_find.specs.declared.found.Found.{Found}
use Rattle.gm_find.specs.declared.sought.Order.{Order}
use Rattle.gm_find.specs.Samples.{IsSample}
use Rattle.gm_find.specs.Sorting.{IsRising}

-- q is met along best play from p, within n moves: it is the canonical position of p, or of the position after some best moves
abbrev pub IsMet : Rules → Position → ℕ → Position → Type 0
IsMet r p n q = (ms : List ℕ) × AreBest r p ms × (length ms ≤ n) × (r.canonical (position_after r p ms) ≡ q)

-- the second position is met along best play from the first, within as many moves as the first one's remoteness
abbrev pub IsMetFrom : Rules → Found → Found → Type 0
IsMetFrom r x y = IsMet r x.position x.value.remoteness y.position

-- neither of two positions is met along best play from the other
pub record AreApart (r : Rules) (x y : Found) : Type 0 where
  pub after : IsMetFrom r x y → ⊥
  pub before : IsMetFrom r y x → ⊥

-- how many of these positions have this best move
abbrev pub number_with : Option ℕ → List Found → ℕ
number_with m xs = count_by (λ x. option_eq nat_eq x.best m) xs

-- y may be taken beside the xs: there are fewer than n, it is apart from each, and fewer than k of them have its best move
pub record MayBeTaken (r : Rules) (k n : ℕ) (xs : List Found) (y : Found) : Type 0 where
  pub room : length xs < n
  pub apart : All (λ x. AreApart r x y) xs
  pub few : number_with y.best xs < k

-- the xs are taken before, and of the ys one after another each is taken that may be taken beside those before it
abbrev pub Spreads : Rules → ℕ → ℕ → List Found → List Found → List Found → Type 0
Spreads r k n xs [] zs = zs ≡ xs
Spreads r k n xs (y ∷ ys) zs = (MayBeTaken r k n xs y × Spreads r k n (xs ++ y ∷ []) ys zs) ⊎ ((MayBeTaken r k n xs y → ⊥) × Spreads r k n xs ys zs)

-- p is symmetric to c, which is its canonical position
pub record IsImage (r : Rules) (c p : Position) : Type 0 where
  pub tier : p.tier ≡ c.tier
  pub legal : r.is_legal p ≡ true
  pub canonical : r.canonical p ≡ c

-- the positions as they are, or in rising order
abbrev pub IsInOrder : Option Order → List Found → List Found → Type 0
IsInOrder None xs ys = ys ≡ xs
IsInOrder (Some order) xs ys = IsRising order xs ys

-- the first n positions of those that are apart, or with a seed a choice of n from all of them
abbrev pub AreApartOf : Rules → ℕ → ℕ → Option ℕ → List Found → List Found → Type 0
AreApartOf r k n None ys zs = Spreads r k n [] ys zs
AreApartOf r k n (Some seed) ys zs = (all : List Found) × Spreads r k (2 ^ 64 - 1) [] ys all × IsSample n all zs
