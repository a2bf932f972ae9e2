-- How many pairs there are into a range, up to a level.
use Rattle.std.specs.Prelude.{◌≡◌, ℕ, ◌+◌, ◌<◌, ◌≤◌, ◌⊎◌, Option, None, Some}
use Rattle.gm_game.specs.declared.position.Position.{Position}
use Rattle.gm_game.specs.declared.position.Phase.{Phase}
use Rattle.gm_game.specs.declared.position.Phase.TheVariants.{WinLose, Ties}
use Rattle.gm_game.specs.declared.position.Place.{Place}
use Rattle.gm_game.specs.declared.limits.TheConstants.{TIER_SIZE}
use Rattle.gm_game.specs.Rules.{Rules, IsParent}
use Rattle.gm_game.specs.Places.{StandsBefore, IsLastLevel}
use Rattle.gm_game.specs.Numbers.{AreThere}

-- a pair of the tier into this range: a child, and the index of a parent
pub record IsPairInto (r : Rules) (tier lo hi : ℕ) (c : Position) (index : ℕ) : Type 0 where
  pub low : lo ≤ index
  pub high : index < hi
  pub is_parent : IsParent r c tier index

-- there are this many pairs into the range whose child is before the place
abbrev pub IsNumberBefore : Rules → ℕ → ℕ → ℕ → Phase → ℕ → ℕ → Type 0
IsNumberBefore r tier lo hi phase level number =
    AreThere number (λ (pair : Position × ℕ). IsPairInto r tier lo hi pair.0 pair.1 × StandsBefore r phase level pair.0)

-- what an Expected shows: its range, the last level that it added, the phase and level that it would add next, and its number
pub record ExpectedData : Type 0 where
  pub tier : ℕ
  pub lo : ℕ
  pub hi : ℕ
  pub last : Option Place
  pub phase : Phase
  pub level : ℕ
  pub number : ℕ

-- the level to add after another one: one above it within its phase, and the first level in the other phase
abbrev pub level_after : Phase → ℕ → Phase → ℕ
level_after WinLose level WinLose = level + 1
level_after WinLose level Ties = 0
level_after Ties level WinLose = 0
level_after Ties level Ties = level + 1

-- the level of this phase that is added after the last one
abbrev pub next_level : Option Place → Phase → ℕ
next_level None phase = 0
next_level (Some last) phase = level_after last.phase last.level phase

-- the next level follows the last one: it is one above it, or the first of ties if no win or loss is left
abbrev pub Follows : Rules → ℕ → Option Place → Phase → ℕ → Type 0
Follows r tier None WinLose n = n ≡ 0
Follows r tier None Ties n = (n ≡ 0) × IsLastLevel r tier WinLose 0
Follows r tier (Some last) phase n =
    ((last.phase ≡ phase) × (n ≡ last.level + 1))
    ⊎ ((phase ≡ Ties) × (n ≡ 0) × (last.phase ≡ WinLose) × IsLastLevel r tier WinLose (last.level + 1))

-- the number of an Expected is exact
pub record IsExpected (r : Rules) (e : ExpectedData) : Type 0 where
  pub small : r.tier_size e.tier ≤ TIER_SIZE
  pub next : Follows r e.tier e.last e.phase e.level
  pub number : IsNumberBefore r e.tier e.lo e.hi e.phase e.level e.number

-- an Expected with one more level added, which has this many pairs into the range
abbrev pub with_level : ExpectedData → Place → ℕ → ExpectedData
with_level e place more = record e { last = Some place; level = e.level + 1; number = e.number + more }
