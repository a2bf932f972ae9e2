-- A shard's state by the pairs that were delivered to it, in their order.
use Rattle.std.specs.Prelude.{ℕ, ◌-◌, List, [], ◌∷◌, slice_index_or, slice_set, replicate}
use Rattle.gm_game.specs.declared.position.Position.{Position}
use Rattle.gm_game.specs.declared.position.Phase.{Phase}
use Rattle.gm_game.specs.Children.{with_position}
use Rattle.gm_counters.specs.State.{ShardState}

-- the children of each index of a range from lo on, with one pair more
abbrev pub with_one : ℕ → List (List Position) → Position × ℕ → List (List Position)
with_one lo ds pair = slice_set ds (pair.1 - lo) (with_position pair.0 (slice_index_or ds (pair.1 - lo) []))

-- the same with more pairs, one after another
abbrev pub with_all : ℕ → List (List Position) → List (Position × ℕ) → List (List Position)
with_all lo ds [] = ds
with_all lo ds (pair ∷ pairs) = with_all lo (with_one lo ds pair) pairs

-- the state of a range of n indexes to which these pairs were delivered
abbrev pub state_by : ℕ → ℕ → Phase → ℕ → ℕ → List (Position × ℕ) → ShardState
state_by tier lo phase level n pairs =
    record { tier = tier; lo = lo; phase = phase; level = level; delivered = with_all lo (replicate n []) pairs }
