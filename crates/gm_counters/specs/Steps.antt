-- What events a state takes, and what they leave.
use Rattle.std.specs.Prelude.{◌≡◌, ℕ, ◌+◌, ◌≤◌}
use Rattle.std.specs.List.{Contains}
use Rattle.gm_game.specs.declared.limits.TheConstants.{REMOTENESS}
use Rattle.gm_game.specs.declared.position.Position.{Position}
use Rattle.gm_game.specs.declared.position.Phase.TheVariants.{WinLose, Ties}
use Rattle.gm_game.specs.declared.position.Place.{Place}
use Rattle.gm_game.specs.declared.position.Solved.{Solved}
use Rattle.gm_game.specs.Rules.{Rules, IsParent}
use Rattle.gm_game.specs.Places.{StandsAt, StandsBefore}
use Rattle.gm_frontier.specs.Levels.{place_at}
use Rattle.gm_counters.specs.declared.status.Status.TheVariants.{Settled}
use Rattle.gm_counters.specs.State.{ShardState, IsInRange, delivered_to, with_pair}
use Rattle.gm_counters.specs.Status.{StatusIs}

-- the place of a shard
abbrev pub place_of : ShardState → Place
place_of s = place_at s.tier s.phase s.level

-- c is at the present place and is a child of the parent, which lies in the range; the pair is new, and settles nothing above the limit
pub record CanDeliver (r : Rules) (s : ShardState) (c : Position) (parent : ℕ) : Type 0 where
  pub stands : StandsAt r s.phase s.level c
  pub is_mine : IsInRange s parent
  pub is_parent : IsParent r c s.tier parent
  pub new : Contains (delivered_to s parent) c → ⊥
  pub near : (x : Solved) → StatusIs r (with_pair s c parent) parent (Settled x) → x.remoteness ≤ REMOTENESS

-- every pair into the range whose child is at or before the present place is delivered
abbrev pub IsWhole : Rules → ShardState → Type 0
IsWhole r s = (i : ℕ) (c : Position) → IsInRange s i → IsParent r c s.tier i → StandsBefore r s.phase (s.level + 1) c → Contains (delivered_to s i) c

-- the shard can turn to ties
pub record CanTurn (s : ShardState) (last : Place) : Type 0 where
  pub phase : s.phase ≡ WinLose
  pub stands : last ≡ place_of s

-- the state at the next level, and at the first level of ties
abbrev pub at_next_level : ShardState → ShardState
at_next_level s = record s { level = s.level + 1 }

abbrev pub first_ties : ShardState → ShardState
first_ties s = record s { phase = Ties; level = 0 }
