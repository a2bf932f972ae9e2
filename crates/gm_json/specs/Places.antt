-- Lines that name a position by its tier and its index, and the position that a line asks about.
use Rattle.std.specs.Prelude.{◌≡◌, ℕ, ◌<◌, ◌^◌, ◌⊎◌, true, List, ◌++◌, codes}
use Rattle.std.specs.Fmt.{decimal}
use Rattle.gm_game.specs.declared.position.Position.{Position}
use Rattle.gm_game.specs.Rules.{Rules}
use Rattle.gm_play.specs.PlayTexts.{IsReadAs, IsNoPosition}

-- the line that names a tier and an index
abbrev pub place_line : ℕ → ℕ → List ℕ
place_line tier index = codes "@" ++ (decimal tier ++ (codes " " ++ decimal index))

-- the line names the tier and the index of p
pub record IsPlaceLine (line : List ℕ) (p : Position) : Type 0 where
  pub tier : p.tier < 2 ^ 64
  pub index : p.index < 2 ^ 64
  pub is : line ≡ place_line p.tier p.index

module _ (r : Rules) (shown : Position → List ℕ) (move_shown : Position → ℕ → List ℕ) where
  -- no legal position has this text, and p is legal and has the tier and the index that the line names
  abbrev pub IsAskedByPlace : List ℕ → Position → Type 0
  IsAskedByPlace line p = IsNoPosition r shown move_shown line × IsPlaceLine line p × (r.is_legal p ≡ true)

  -- the line asks about p: it is its text or, if it is the text of no position, names its place
  abbrev pub IsAskedAs : List ℕ → Position → Type 0
  IsAskedAs line p = IsReadAs r shown move_shown line p ⊎ IsAskedByPlace line p

  -- the line is the text of no position, and names the place of none
  abbrev pub IsAskedAsNone : List ℕ → Type 0
  IsAskedAsNone line = (p : Position) → IsAskedAs line p → ⊥
