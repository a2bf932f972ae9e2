-- A good shard.
use Rattle.std.specs.Prelude.{◌≡◌, ℕ, ◌+◌, ◌-◌, ◌≤◌, List, Some, length, slice_get}
use Rattle.std.specs.List.{Contains}
use Rattle.gm_game.specs.declared.limits.TheConstants.{REMOTENESS, MOVES, TIER_SIZE}
use Rattle.gm_game.specs.declared.position.Position.{Position}
use Rattle.gm_game.specs.declared.position.Solved.{Solved}
use Rattle.gm_game.specs.Rules.{Rules, at, IsCanonical, IsInner, IsParent}
use Rattle.gm_game.specs.Values.{IsTrueValue}
use Rattle.gm_game.specs.Places.{StandsBefore}
use Rattle.gm_game.specs.Children.{AreAscending, canonical_children_of}
use Rattle.gm_counters.specs.declared.status.Status.{Status}
use Rattle.gm_counters.specs.declared.status.Status.TheVariants.{Hole, Undecided, Settled}
use Rattle.gm_counters.specs.State.{ShardState, IsInRange, delivered_to, pairs_in}
use Rattle.gm_counters.specs.Status.{StatusIs}

pub record IsGood (r : Rules) (s : ShardState) : Type 0 where
  -- the children of an index are a set
  pub once : (i : ℕ) → IsInRange s i → AreAscending (delivered_to s i)
  -- each delivered pair is a pair of the tier, and its child is at or before the present place
  pub pairs : (i : ℕ) (c : Position) → IsInRange s i → Contains (delivered_to s i) c
      → IsParent r c s.tier i × StandsBefore r s.phase (s.level + 1) c
  -- each pair of the range whose child is before the present place is delivered
  pub whole : (i : ℕ) (c : Position) → IsInRange s i → IsParent r c s.tier i → StandsBefore r s.phase s.level c
      → Contains (delivered_to s i) c
  -- each settled status is the true value, of remoteness within the limit
  pub settled_is_true : (i : ℕ) (x : Solved) → IsInRange s i → StatusIs r s i (Settled x)
      → IsTrueValue r (at s.tier i) x × (x.remoteness ≤ REMOTENESS)
  -- each position whose own place is at or before the present one is settled
  pub true_is_settled : (i : ℕ) → IsInRange s i → IsCanonical r (at s.tier i)
      → StandsBefore r s.phase (s.level + 1) (at s.tier i) → (x : Solved) × StatusIs r s i (Settled x)

-- a stored status is no settled one above the limit
abbrev pub IsWithinLimit : Status → Type 0
IsWithinLimit Hole = Unit {0}
IsWithinLimit Undecided = Unit {0}
IsWithinLimit (Settled x) = x.remoteness ≤ REMOTENESS

-- what a shard keeps, with a stored status for each index: the rest of IsGood follows from it
pub record IsShard (r : Rules) (s : ShardState) (statuses : List Status) : Type 0 where
  pub once : (i : ℕ) → IsInRange s i → AreAscending (delivered_to s i)
  pub pairs : (i : ℕ) (c : Position) → IsInRange s i → Contains (delivered_to s i) c
      → IsParent r c s.tier i × StandsBefore r s.phase (s.level + 1) c
  pub whole : (i : ℕ) (c : Position) → IsInRange s i → IsParent r c s.tier i → StandsBefore r s.phase s.level c
      → Contains (delivered_to s i) c
  pub fits : s.level ≤ REMOTENESS + 1
  pub many : length statuses ≡ length s.delivered
  pub known : (i : ℕ) (x : Status) → IsInRange s i → slice_get statuses (i - s.lo) ≡ Some x → StatusIs r s i x × IsWithinLimit x

-- the number of distinct canonical children that are not delivered
pub record IsCounter (r : Rules) (s : ShardState) (index n : ℕ) : Type 0 where
  pub inner : IsInner r (at s.tier index) → n + length (delivered_to s index) ≡ length (canonical_children_of r (at s.tier index))
  pub other : (IsInner r (at s.tier index) → ⊥) → n ≡ 0

-- what a shard keeps in all: a stored status and a stored counter for each index, and the number of pairs
pub record IsShardKept (r : Rules) (s : ShardState) (statuses : List Status) (left : List ℕ) (count : ℕ) : Type 0 where
  pub shard : IsShard r s statuses
  pub as_many : length left ≡ length s.delivered
  pub counted : (i n : ℕ) → IsInRange s i → slice_get left (i - s.lo) ≡ Some n → IsCounter r s i n
  pub number : count ≡ pairs_in s
  -- so the number of pairs fits
  pub few : s.lo + length s.delivered ≤ TIER_SIZE
  pub short : (i : ℕ) → IsInRange s i → length (delivered_to s i) ≤ MOVES
