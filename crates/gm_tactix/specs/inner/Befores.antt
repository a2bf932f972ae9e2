-- The boards before a board, by the numbers of the moves.
use Rattle.std.specs.Prelude.{◌≡◌, ℕ, Bool, List, [], map}
use Rattle.std.specs.List.{filter_map, range_with_len}
use Rattle.gm_game.specs.Ascending.{put_all}
use Rattle.gm_game.specs.Boards.{least_index}
use Rattle.gm_pieces.specs.MoveGames.{board_game, before_at}
use Rattle.gm_tactix.specs.Board.{tactix}

-- the list has the least indexes of the boards before the moves with numbers below n, ascending and once each
abbrev pub AreBeforesBelow : ℕ → Bool → ℕ → List Bool → ℕ → List ℕ → Type 0
AreBeforesBelow s misere t d n is = is ≡ put_all [] (map (least_index (board_game (tactix s misere)))
    (filter_map (before_at (tactix s misere) t d) (range_with_len 0 n)))
