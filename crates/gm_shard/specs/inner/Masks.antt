-- The children that masks stand for, and the place of a child.
use Rattle.std.specs.Prelude.{◌≡◌, ℕ, ◌<◌, Option, None, Some, slice_get, ◌-◌, suc, List, [], ◌∷◌}
use Rattle.gm_game.specs.declared.limits.TheConstants.{MOVES}
use Rattle.gm_game.specs.declared.position.Position.{Position}
use Rattle.gm_game.specs.Rules.{Rules, at, IsInner, IsParent}
use Rattle.gm_game.specs.Children.{canonical_children_of}
use Rattle.gm_game.specs.inner.Masks.{picked}

-- the place of c among the canonical children of the parent; none if the index is no parent of c
abbrev pub IsPlaceOf : Rules → Position → ℕ → ℕ → Option ℕ → Type 0
IsPlaceOf r c tier parent None = IsParent r c tier parent → ⊥
IsPlaceOf r c tier parent (Some k) = IsInner r (at tier parent) × (slice_get (canonical_children_of r (at tier parent)) k ≡ Some c) × (k < MOVES)

-- the children that the masks of the indexes from i on stand for
abbrev pub children_of_masks : Rules → ℕ → ℕ → List ℕ → List (List Position)
children_of_masks r tier i [] = []
children_of_masks r tier i (mask ∷ masks) = picked (canonical_children_of r (at tier i)) mask ∷ children_of_masks r tier (suc i) masks
