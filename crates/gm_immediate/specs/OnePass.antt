-- What one pass over a tier finds, whole or in parts.
use Rattle.std.specs.Prelude.{◌≡◌, ℕ, ◌+◌, ◌*◌, ◌<◌, ◌≤◌, suc, min, List, length, Option, Some, Result, Ok, Err, slice_get}
use Rattle.gm_game.specs.declared.limits.TheConstants.{REMOTENESS, MOVES}
use Rattle.gm_game.specs.declared.position.Position.{Position}
use Rattle.gm_game.specs.Rules.{Rules, IsParent}
use Rattle.gm_game.specs.Records.{IsTrueTable}
use Rattle.gm_game.specs.Numbers.{AreThere}
use Rattle.gm_table.specs.Solving.{ArePart, IsTooFar, IsDelivery}
use Rattle.gm_table.specs.inner.Dealing.{block_in}
use Rattle.gm_game.specs.declared.position.Solved.{Solved}
use Rattle.gm_immediate.specs.declared.stop.Stop.{Stop}
use Rattle.gm_immediate.specs.declared.stop.Stop.TheVariants.{OutOfMemory, Stays, TooFar}

-- a move from a canonical legal position of the tier leads to the tier itself
pub record IsStaying (r : Rules) (tier : ℕ) : Type 0 where
  pub index : ℕ
  pub child : Position
  pub is_parent : IsParent r child tier index
  pub stays : child.tier ≡ tier

-- a pass over the tier stops for this reason
abbrev pub IsStop : Rules → ℕ → Stop → Type 0
IsStop r tier OutOfMemory = Unit {0}
IsStop r tier Stays = IsStaying r tier
IsStop r tier TooFar = IsTooFar r tier

-- a pair of the tier whose child is no draw, and whose parent is in the range
pub record IsDeliveryIn (r : Rules) (tier lo hi : ℕ) (pair : Position × ℕ) : Type 0 where
  pub delivery : IsDelivery r tier pair
  pub low : lo ≤ pair.1
  pub high : pair.1 < hi

-- the true records of the tier
abbrev pub AreTrue : Rules → ℕ → List (Option Solved) → Type 0
AreTrue r tier records = IsTrueTable r REMOTENESS tier records

-- the true records of block k of the tier, whose blocks have 512 indexes, and the number of deliveries into it
pub record IsBlock (r : Rules) (tier k : ℕ) (records : List (Option Solved)) (number : ℕ) : Type 0 where
  pub long : min (k * 512) (r.tier_size tier) + length records ≡ min (suc k * 512) (r.tier_size tier)
  pub part : ArePart r tier (min (k * 512) (r.tier_size tier)) records
  pub deliveries : AreThere number (IsDeliveryIn r tier (min (k * 512) (r.tier_size tier)) (min (suc k * 512) (r.tier_size tier)))
  pub few : number ≤ MOVES * length records

-- what a pass over block k finds
abbrev pub IsBlockFinding : Rules → ℕ → ℕ → Result (List (Option Solved) × ℕ) Stop → Type 0
IsBlockFinding r tier k (Ok found) = IsBlock r tier k found.0 found.1
IsBlockFinding r tier k (Err stop) = IsStop r tier stop

pub record IsBlockFound (r : Rules) (tier k : ℕ) (x : Result (List (Option Solved) × ℕ) Stop) : Type 0 where
  pub finding : IsBlockFinding r tier k x

-- what passes over all blocks find, each at the place at which its block is settled
pub record AreFound (r : Rules) (tier rows : ℕ) (found : List (Result (List (Option Solved) × ℕ) Stop)) : Type 0 where
  pub many : length found ≡ rows * 32
  pub each : (place : ℕ) (x : Result (List (Option Solved) × ℕ) Stop) → slice_get found place ≡ Some x → IsBlockFound r tier (block_in rows place) x
