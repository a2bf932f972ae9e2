-- The limits on the tiers that a game reaches, from its initial tier or from another one.
use Rattle.std.specs.Prelude.{◌≡◌, ◌≢◌, ℕ, ◌<◌, ◌≤◌, List, length}
use Rattle.std.specs.List.{Contains, AllPairs}
use Rattle.gm_game.specs.declared.limits.TheConstants.{TIER_SIZE, TIERS}
use Rattle.gm_game.specs.Rules.{Rules}
use Rattle.gm_tiers.specs.declared.tier_error.TierError.{TierError}
use Rattle.gm_tiers.specs.declared.tier_error.TierError.TheVariants.{OutOfMemory, TooManyTiers, TierTooLarge}
use Rattle.gm_tiers.specs.Reach.{IsReachedFrom, IsNext, IsSearch, IsClosed}

-- a search finds these tiers, and all is within the limits
pub record AreWithin (r : Rules) (first : ℕ) (found : List ℕ) : Type 0 where
  pub search : IsSearch r first found
  pub small : (t : ℕ) → Contains found t → r.tier_size t ≤ TIER_SIZE
  pub few : length found ≤ TIERS

-- all that a search finds, from the first tier on, within the limits
pub record AreFound (r : Rules) (first : ℕ) (found : List ℕ) : Type 0 where
  pub within : AreWithin r first found
  pub has_first : Contains found first
  pub closed : IsClosed r (length found) found

-- within the limits a search comes to this tier, for the first time
pub record IsFoundNext (r : Rules) (first : ℕ) (found : List ℕ) (tier : ℕ) : Type 0 where
  pub within : AreWithin r first found
  pub next : IsNext r first found tier
  pub fresh : Contains found tier → ⊥

-- within the limits a search comes to this tier, which is too large
abbrev pub IsTooLarge : Rules → ℕ → ℕ → Type 0
IsTooLarge r first tier = (TIER_SIZE < r.tier_size tier) × (found : List ℕ) × IsFoundNext r first found tier

-- within the limits a search has found as many tiers as there may be, and comes to another one, which is not too large
abbrev pub HasTooMany : Rules → ℕ → Type 0
HasTooMany r first = (found : List ℕ) × (tier : ℕ) × IsFoundNext r first found tier × (length found ≡ TIERS) × (r.tier_size tier ≤ TIER_SIZE)

-- more than n tiers are reached from the first one, no two of them the same
abbrev pub AreMoreThan : Rules → ℕ → ℕ → Type 0
AreMoreThan r first n = (tiers : List ℕ) × (n < length tiers) × AllPairs (λ (t u : ℕ). t ≢ u) tiers × ((t : ℕ) → Contains tiers t → IsReachedFrom r first t)

-- the numbers of the errors
abbrev pub tier_error_number : TierError → ℕ
tier_error_number OutOfMemory = 1
tier_error_number TooManyTiers = 2
tier_error_number (TierTooLarge tier) = 3
