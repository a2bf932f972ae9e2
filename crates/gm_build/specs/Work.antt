-- What a build has done with some tiers.
use Rattle.std.specs.Prelude.{◌≡◌, ℕ, ◌≤◌, ◌↔◌, ◌⊎◌, List}
use Rattle.std.specs.List.{Contains}
use Rattle.gm_game.specs.Rules.{Rules}
use Rattle.gm_table.specs.Tables.{TableData, IsHeld}
use Rattle.gm_game.specs.declared.position.Position.{Position}
use Rattle.gm_game.specs.Numbers.{AreThere}
use Rattle.gm_table.specs.Solving.{IsDelivery}
use Rattle.gm_build.specs.declared.work.Work.{Work}

-- a tier that is neither reused nor migrated is solved
abbrev pub IsSolvedTier : (ℕ → Type 0) → (ℕ → Type 0) → ℕ → Type 0
IsSolvedTier IsReused IsMigrated tier = (IsReused tier → ⊥) × (IsMigrated tier → ⊥)

-- a pair of one of the tiers that was solved, whose child is no draw
pub record IsSolvedDelivery (r : Rules) (tiers : List ℕ) (IsSolved : ℕ → Type 0) (d : ℕ × (Position × ℕ)) : Type 0 where
  pub there : Contains tiers d.0
  pub solved : IsSolved d.0
  pub delivery : IsDelivery r d.0 d.1

-- some of the tiers were reused, some migrated, and all others solved: how many of each, how many deliveries that took, and at most as many deliveries by hand
pub record IsWorkOn (r : Rules) (tiers : List ℕ) (IsReused IsMigrated : ℕ → Type 0) (work : Work) : Type 0 where
  pub those_solved : AreThere work.solved (λ tier. Contains tiers tier × IsSolvedTier IsReused IsMigrated tier)
  pub those_reused : AreThere work.reused (λ tier. Contains tiers tier × IsReused tier)
  pub those_migrated : AreThere work.migrated (λ tier. Contains tiers tier × IsMigrated tier)
  pub those_delivered : AreThere work.deliveries (IsSolvedDelivery r tiers (IsSolvedTier IsReused IsMigrated))
  pub few_by_hand : work.by_hand ≤ work.deliveries

-- work on the tiers with these numbers, whichever of them were reused and which migrated; none was both
pub record IsSomeWork (r : Rules) (tiers : List ℕ) (work : Work) : Type 0 where
  pub reused_tiers : List ℕ
  pub migrated_tiers : List ℕ
  pub among : (tier : ℕ) → Contains reused_tiers tier → Contains tiers tier
  pub among_too : (tier : ℕ) → Contains migrated_tiers tier → Contains tiers tier
  pub apart : (tier : ℕ) → Contains reused_tiers tier → Contains migrated_tiers tier → ⊥
  pub among_all : IsWorkOn r tiers (Contains reused_tiers) (Contains migrated_tiers) work

-- exactly these tiers have a table
abbrev pub HoldsExactly : List TableData → List ℕ → Type 0
HoldsExactly entries tiers = (tier : ℕ) → IsHeld entries tier ↔ Contains tiers tier

-- this tier has a table too, besides those that had one before
abbrev pub HoldsToo : ℕ → List TableData → List TableData → Type 0
HoldsToo tier old new = (t : ℕ) → IsHeld new t ↔ (IsHeld old t ⊎ (tier ≡ t))
