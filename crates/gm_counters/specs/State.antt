-- A shard's state, and the pairs that are delivered to it.
use Rattle.std.specs.Prelude.{ℕ, ◌+◌, ◌-◌, ◌<◌, ◌≤◌, List, [], length, slice_index_or, slice_set, sum_by}
use Rattle.gm_game.specs.declared.position.Position.{Position}
use Rattle.gm_game.specs.declared.position.Phase.{Phase}
use Rattle.gm_game.specs.Children.{with_position}

-- a tier, a range of its indexes from lo on, the present place, and for each index of the range the children
-- that are delivered to it, ascending
pub record ShardState : Type 0 where
  pub tier : ℕ
  pub lo : ℕ
  pub phase : Phase
  pub level : ℕ
  pub delivered : List (List Position)

abbrev pub IsInRange : ShardState → ℕ → Type 0
IsInRange s index = (s.lo ≤ index) × (index < s.lo + length s.delivered)

-- the children that are delivered to the position with this index
abbrev pub delivered_to : ShardState → ℕ → List Position
delivered_to s index = slice_index_or s.delivered (index - s.lo) []

-- the state with one more pair
abbrev pub with_pair : ShardState → Position → ℕ → ShardState
with_pair s c index = record s { delivered = slice_set s.delivered (index - s.lo) (with_position c (delivered_to s index)) }

-- the number of pairs
abbrev pub pairs_in : ShardState → ℕ
pairs_in s = sum_by length s.delivered
