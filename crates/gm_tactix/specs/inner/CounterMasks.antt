-- Boards of counters by masks.
use Rattle.std.specs.Prelude.{ℕ, Bool, List, map}
use Rattle.std.specs.List.{range_with_len}
use Rattle.gm_board.specs.Masks.{has_cell}

-- the board of n cells with the counters of a mask
unfoldable pub counters_of : ℕ → ℕ → List Bool
counters_of n mask = map (has_cell mask) (range_with_len 0 n)
