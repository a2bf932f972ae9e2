-- The texts of boards and of moves of Connect Four.
use Rattle.std.specs.Prelude.{ℕ, ◌+◌, List, [], ◌∷◌}
use Rattle.gm_game.specs.declared.position.Position.{Position}
use Rattle.gm_pieces.specs.SideTexts.{cells_text}
use Rattle.gm_connect.specs.declared.size.Size.{Size}
use Rattle.gm_connect.specs.ConnectFour.{board_at}

-- the text of a move: the digit of the column, from 1
unfoldable pub step_text : ℕ → List ℕ
step_text c = (49 + c) ∷ []

-- the text of a position
abbrev pub position_text : Size → Position → List ℕ
position_text s p = cells_text (board_at s p.tier p.index)
