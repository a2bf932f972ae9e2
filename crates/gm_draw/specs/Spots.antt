-- The points of the bytes of a board in its diagram, and the fact that each man is drawn once.
use Rattle.std.specs.Prelude.{◌≡◌, ℕ, ◌+◌, ◌<◌, ◌⊎◌, ◌==◌, true, List, [], ◌∷◌, count_by}
use Rattle.std.specs.List.{All, flat_map}
use Rattle.gm_draw.specs.declared.pictured.Style.{Style}
use Rattle.gm_draw.specs.Diagrams.{over_at}
use Rattle.gm_draw.specs.Templates.{next_x, next_y, spread}
use Rattle.gm_draw.specs.Pictured.{has_place_once}

-- a byte of a board, and the point that it is drawn at
pub record Spot : Type 0 where
  pub x : ℕ
  pub y : ℕ
  pub byte : ℕ

-- the bytes of a board with their points, the first at this point
unfoldable pub spots : ℕ → ℕ → List ℕ → List Spot
spots x y [] = []
spots x y (b ∷ bs) = record { x = x; y = y; byte = b } ∷ spots (next_x x b) (next_y y b) bs

-- one is in an earlier line, or left of the other in its line
abbrev pub IsSpotBefore : Spot → Spot → Type 0
IsSpotBefore s t = (s.y < t.y) ⊎ ((s.y ≡ t.y) × (s.x < t.x))

-- each comes before all that follow, so no two have the same point
unfoldable pub AreSpotsInOrder : List Spot → Type 0
AreSpotsInOrder [] = Unit {0}
AreSpotsInOrder (s ∷ ss) = All (IsSpotBefore s) ss × AreSpotsInOrder ss

-- the drawing over the net at a spot
abbrev pub over_spot : Style → List ℕ → Spot → List ℕ
over_spot style text s = over_at style text s.x s.y s.byte

-- the spots are drawn over the net, one after the other; no two spots have the same point; and a slot that the board has once has one spot
pub record IsEachOnce (style : Style) (text board : List ℕ) : Type 0 where
  pub men : spread (over_at style text) 40 40 board ≡ flat_map (over_spot style text) (spots 40 40 board)
  pub apart : AreSpotsInOrder (spots 40 40 board)
  pub once : (k : ℕ) → has_place_once board k ≡ true → count_by (λ s. s.byte == 65 + k) (spots 40 40 board) ≡ 1
