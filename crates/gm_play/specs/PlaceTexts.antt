-- The texts of positions with their values, and of the tiers and indexes of positions.
use Rattle.std.specs.Prelude.{◌≡◌, ℕ, ◌&&◌, ◌==◌, List, ◌++◌, codes, if◌then◌else◌}
use Rattle.std.specs.Fmt.{decimal}
use Rattle.gm_game.specs.declared.position.Position.{Position}
use Rattle.gm_game.specs.declared.position.Solved.{Solved}
use Rattle.gm_game.specs.Rules.{Rules}
use Rattle.gm_game.specs.Texts.{text_of}
use Rattle.gm_game.specs.Values.{IsTrueValue}
use Rattle.gm_play.specs.declared.places.Located.{Located}
use Rattle.gm_play.specs.Places.{IsLocated}
use Rattle.gm_play.specs.Why.{five}

-- the row of a position: its text and its value
abbrev pub position_row : (Position → List ℕ) → Position → Solved → List ℕ
position_row shown p s = (shown p ++ codes "\t") ++ (text_of s ++ codes "\n")

-- the row of a position with its true value
abbrev pub IsPositionText : Rules → (Position → List ℕ) → Position → List ℕ → Type 0
IsPositionText r shown p out = (s : Solved) × IsTrueValue r p s × (out ≡ position_row shown p s)

-- `canonical` or `not canonical`
abbrev pub place_word : Located → List ℕ
place_word l = if (l.position.tier == l.canonical.tier) && (l.position.index == l.canonical.index) then codes "canonical" else codes "not canonical"

-- the row that locates a position: its tier, its index, whether it is canonical, and the index and the text of its canonical position
abbrev pub place_row : (Position → List ℕ) → Located → List ℕ
place_row shown l = five (decimal l.position.tier) (decimal l.position.index) (place_word l) (decimal l.canonical.index) (shown l.canonical)

-- the row that locates the position with this text
abbrev pub IsPlaceText : Rules → (Position → List ℕ) → List ℕ → List ℕ → Type 0
IsPlaceText r shown text out = (l : Located) × IsLocated r shown text l × (out ≡ place_row shown l)
