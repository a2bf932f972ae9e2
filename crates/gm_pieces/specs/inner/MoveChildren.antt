-- Children of a board, by the numbers of the moves.
use Rattle.std.specs.Prelude.{ℕ}
use Rattle.gm_game.specs.declared.position.Position.{Position}
use Rattle.gm_game.specs.Boards.{least_image}
use Rattle.gm_pieces.specs.MoveGames.{MoveGame, board_game}

-- the position of the least image of the board after a move
abbrev pub position_after : {B S : Type 0} → MoveGame B S → B → ℕ → Position
position_after g b m = least_image (board_game g) (g.moved b m)
