-- The duties of a solver of a tier.
use Rattle.std.specs.Prelude.{◌≡◌, ℕ, ◌+◌, List, Option, Some, slice_get}
use Rattle.gm_game.specs.declared.limits.TheConstants.{REMOTENESS}
use Rattle.gm_game.specs.declared.position.Position.{Position}
use Rattle.gm_game.specs.declared.position.Value.{Value}
use Rattle.gm_game.specs.declared.position.Value.TheVariants.{Draw}
use Rattle.gm_game.specs.declared.position.Solved.{Solved}
use Rattle.gm_game.specs.Rules.{Rules, at, IsCanonical, IsParent}
use Rattle.gm_game.specs.Records.{IsRecord}
use Rattle.gm_game.specs.Values.{IsTrueValue, HasValue}
use Rattle.gm_game.specs.Numbers.{AreThere}

-- a pair of the tier whose child is no draw
pub record IsDelivery (r : Rules) (tier : ℕ) (pair : Position × ℕ) : Type 0 where
  pub is_parent : IsParent r pair.0 tier pair.1
  pub no_draw : HasValue r pair.0 Draw 0 → ⊥

-- the tier has this many pairs whose child is no draw
abbrev pub AreDeliveries : Rules → ℕ → ℕ → Type 0
AreDeliveries r tier number = AreThere number (IsDelivery r tier)

-- a canonical legal position of the tier has a remoteness one above the limit
pub record IsTooFar (r : Rules) (tier : ℕ) : Type 0 where
  pub index : ℕ
  pub canonical : IsCanonical r (at tier index)
  pub value : Value
  pub far : HasValue r (at tier index) value (REMOTENESS + 1)

-- the true records of a range of a tier
pub record ArePart (r : Rules) (tier lo : ℕ) (records : List (Option Solved)) : Type 0 where
  pub each : (k : ℕ) (o : Option Solved) → slice_get records k ≡ Some o → IsRecord r REMOTENESS (IsTrueValue r) (at tier (lo + k)) o
