-- The texts of boards and of moves of Dao.
use Rattle.std.specs.Prelude.{ℕ, List, ◌∷◌, ◌++◌}
use Rattle.gm_dao.specs.Lower.{Position, cell_text, cells_text, from_point, to_point}
use Rattle.gm_dao.specs.DaoRules.{board_at}

-- the text of a move: the cell that a piece leaves, `-` and the cell to which it goes
unfoldable pub step_text : ℕ → List ℕ
step_text m = cell_text 4 (from_point m) ++ 45 ∷ cell_text 4 (to_point m)

-- the text of a position
abbrev pub position_text : Position → List ℕ
position_text p = cells_text (board_at p.index)

-- the text of a position's move
abbrev pub move_text : Position → ℕ → List ℕ
move_text p m = step_text m
