-- The places at which positions are settled, level by level: win-lose places first, and within a phase by level.
use Rattle.std.specs.Prelude.{ℕ, ◌<◌, ◌⊎◌}
use Rattle.gm_game.specs.declared.position.Position.{Position}
use Rattle.gm_game.specs.declared.position.Value.TheVariants.{Lose, Tie, Win}
use Rattle.gm_game.specs.declared.position.Phase.{Phase}
use Rattle.gm_game.specs.declared.position.Phase.TheVariants.{WinLose, Ties}
use Rattle.gm_game.specs.Rules.{Rules, IsCanonical, IsTierOrChild}
use Rattle.gm_game.specs.Values.{HasValue}

-- p has a true value of this phase, and this remoteness
abbrev pub StandsAt : Rules → Phase → ℕ → Position → Type 0
StandsAt r WinLose n p = HasValue r p Win n ⊎ HasValue r p Lose n
StandsAt r Ties n p = HasValue r p Tie n

-- a place before another one
abbrev pub IsPlaceBefore : Phase → ℕ → Phase → ℕ → Type 0
IsPlaceBefore WinLose m WinLose n = m < n
IsPlaceBefore WinLose m Ties n = Unit {0}
IsPlaceBefore Ties m WinLose n = ⊥
IsPlaceBefore Ties m Ties n = m < n

-- p is somewhere before this place; p is at or before (phase, n) if it is before (phase, n + 1)
pub record StandsBefore (r : Rules) (phase : Phase) (n : ℕ) (p : Position) : Type 0 where
  pub own_phase : Phase
  pub own_level : ℕ
  pub stands : StandsAt r own_phase own_level p
  pub before : IsPlaceBefore own_phase own_level phase n

-- a canonical legal position of the tier or of one of its child tiers
abbrev pub IsNear : Rules → ℕ → Position → Type 0
IsNear r tier c = IsCanonical r c × IsTierOrChild r tier c.tier

-- a canonical legal position of the tier or of one of its child tiers, which is at the place: F(place, tier)
abbrev pub IsAtLevel : Rules → ℕ → Phase → ℕ → Position → Type 0
IsAtLevel r tier phase n c = IsCanonical r c × IsTierOrChild r tier c.tier × StandsAt r phase n c

-- no canonical legal position of the tier or of its child tiers has a value of the phase with this remoteness or a greater one
abbrev pub IsLastLevel : Rules → ℕ → Phase → ℕ → Type 0
IsLastLevel r tier phase n = (c : Position) (m : ℕ) → IsNear r tier c → StandsAt r phase m c → m < n
