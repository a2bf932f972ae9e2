-- The order in which tiers are solved.
use Rattle.std.specs.Prelude.{◌≡◌, ℕ, ◌<◌, ◌≤◌, ◌⊎◌, ◌↔◌, List, length, take, slice_get, Some}
use Rattle.std.specs.List.{Contains, AllPairs}
use Rattle.gm_game.specs.declared.limits.TheConstants.{TIER_SIZE, TIERS}
use Rattle.gm_game.specs.Rules.{Rules}
use Rattle.gm_tiers.specs.Reach.{IsReachedFrom}

-- t has a smaller rank, or the same rank and a smaller number
abbrev pub IsTierBefore : Rules → ℕ → ℕ → Type 0
IsTierBefore r t u = (r.tier_rank t < r.tier_rank u) ⊎ ((r.tier_rank t ≡ r.tier_rank u) × (t < u))

-- exactly the tiers that are reached from the first one, each before those after it, within the limits
pub record IsOrderFrom (r : Rules) (first : ℕ) (tiers : List ℕ) : Type 0 where
  pub each : (t : ℕ) → Contains tiers t ↔ IsReachedFrom r first t
  pub ordered : AllPairs (IsTierBefore r) tiers
  pub few : length tiers ≤ TIERS
  pub small : (t : ℕ) → Contains tiers t → r.tier_size t ≤ TIER_SIZE

-- the order of all tiers of the game: those reached from the initial one
abbrev pub IsTierOrder : Rules → List ℕ → Type 0
IsTierOrder r tiers = IsOrderFrom r r.initial.tier tiers

-- the child tiers of each tier come before it
abbrev pub ComeChildrenFirst : Rules → List ℕ → Type 0
ComeChildrenFirst r tiers = (k t child : ℕ) → slice_get tiers k ≡ Some t → Contains (r.child_tiers t) child → Contains (take k tiers) child
