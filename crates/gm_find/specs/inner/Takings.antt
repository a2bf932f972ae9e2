-- What is kept of the positions that are taken, none of which is met along best play from another.
use Rattle.std.specs.Prelude.{◌≡◌, ℕ, ◌<◌, ◌⊎◌, ◌↔◌, List, [], ◌∷◌, ◌++◌, length}
use Rattle.std.specs.List.{Contains}
use Rattle.gm_game.specs.declared.position.Position.{Position}
use Rattle.gm_game.specs.Rules.{Rules}
use Rattle.gm_find.specs.declared.found.Found.{Found}
use Rattle.gm_find.specs.declared.places.Places.{Places}
use Rattle.gm_find.specs.declared.spread.Taken.{Taken}
use Rattle.gm_find.specs.Reaching.{key_of}
use Rattle.gm_find.specs.Spreading.{IsMet, number_with, MayBeTaken}

-- a set has a position
abbrev pub IsIn : Places → Position → Type 0
IsIn s q = Contains s.set.keys (key_of q)

-- the sets have the positions that are taken, and what is met along best play from them
pub record AreTaken (r : Rules) (t : Taken) : Type 0 where
  pub own : (q : Position) → IsIn t.own q ↔ ((x : Found) × Contains t.found.items x × (x.position ≡ q))
  pub met : (q : Position) → IsIn t.met q ↔ ((x : Found) × Contains t.found.items x × IsMet r x.position x.value.remoteness q)

-- a set has some of these positions
abbrev pub HasSome : Places → List Position → Type 0
HasSome s qs = (q : Position) × Contains qs q × IsIn s q

-- there is room for x, and it is not met along best play from a position that is taken
pub record HasRoom (k n : ℕ) (x : Found) (t : Taken) : Type 0 where
  pub room : length t.found.items < n
  pub unmet : IsIn t.met x.position → ⊥
  pub few : number_with x.best t.found.items < k

-- x is taken, and what is met along best play from it is noted
pub record IsOneMore (x : Found) (along : List Position) (old new : Taken) : Type 0 where
  pub found : new.found.items ≡ old.found.items ++ x ∷ []
  pub own : (q : Position) → IsIn new.own q ↔ (IsIn old.own q ⊎ (x.position ≡ q))
  pub met : (q : Position) → IsIn new.met q ↔ (IsIn old.met q ⊎ Contains along q)

-- x is taken if it may be
abbrev pub Takes : Rules → ℕ → ℕ → Found → List Found → List Found → Type 0
Takes r k n x old new = (MayBeTaken r k n old x × (new ≡ old ++ x ∷ [])) ⊎ ((MayBeTaken r k n old x → ⊥) × (new ≡ old))
