-- The places of positions: their tiers and indexes.
use Rattle.std.specs.Prelude.{◌≡◌, ◌≢◌, ℕ, ◌<◌, ◌≤◌, true, false, List}
use Rattle.gm_game.specs.declared.position.Position.{Position}
use Rattle.gm_game.specs.Rules.{Rules, at, IsCanonical}
use Rattle.gm_play.specs.declared.places.Located.{Located}
use Rattle.gm_play.specs.declared.places.PlaceError.{PlaceError}
use Rattle.gm_play.specs.declared.places.PlaceError.TheVariants.{NoSuchTier, NoSuchIndex, NotLegal, NotCanonical}

-- p is the position with this tier and index, and canonical
abbrev pub IsAt : Rules → ℕ → ℕ → Position → Type 0
IsAt r tier index p = (p ≡ at tier index) × IsCanonical r p

-- why there is none: of these conditions no two hold, and none holds if there is one
abbrev pub IsRefusedAt : Rules → ℕ → ℕ → PlaceError → Type 0
IsRefusedAt r tier index NoSuchTier = r.tier_size tier ≡ 0
IsRefusedAt r tier index NoSuchIndex = (0 < r.tier_size tier) × (r.tier_size tier ≤ index)
IsRefusedAt r tier index NotLegal = (index < r.tier_size tier) × (r.is_legal (at tier index) ≡ false)
IsRefusedAt r tier index NotCanonical = (r.is_legal (at tier index) ≡ true) × (r.canonical (at tier index) ≢ at tier index)

-- the legal position with this text, and its canonical position
pub record IsLocated (r : Rules) (shown : Position → List ℕ) (text : List ℕ) (l : Located) : Type 0 where
  pub legal : r.is_legal l.position ≡ true
  pub reads : shown l.position ≡ text
  pub canonical : l.canonical ≡ r.canonical l.position

-- no legal position has this text
abbrev pub IsUnlocated : Rules → (Position → List ℕ) → List ℕ → Type 0
IsUnlocated r shown text = (p : Position) → r.is_legal p ≡ true → shown p ≡ text → ⊥

-- what is at a tier and index, and where a text is located, undo each other
pub record ArePlaces (r : Rules) (shown : Position → List ℕ) : Type 0 where
  -- the text of what is at a tier and index is located there, as that of a canonical position
  pub located : (tier index : ℕ) (p : Position) (l : Located) → IsAt r tier index p → IsLocated r shown (shown p) l → (l.position ≡ at tier index) ×
      (l.canonical ≡ l.position)
  -- it is located
  pub there : (tier index : ℕ) (p : Position) → IsAt r tier index p → IsUnlocated r shown (shown p) → ⊥
  -- the canonical position of what is located is at the tier that is located, by its own index
  pub found : (text : List ℕ) (l : Located) → IsLocated r shown text l → IsAt r l.position.tier l.canonical.index l.canonical
  -- and nothing is refused there
  pub unrefused : (text : List ℕ) (l : Located) (why : PlaceError) → IsLocated r shown text l → IsRefusedAt r l.position.tier l.canonical.index why → ⊥

-- the numbers of the errors
abbrev pub place_number_of : PlaceError → ℕ
place_number_of NoSuchTier = 1
place_number_of NoSuchIndex = 2
place_number_of NotLegal = 3
place_number_of NotCanonical = 4
