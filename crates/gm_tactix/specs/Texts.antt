-- The texts of boards and of moves.
use Rattle.std.specs.Prelude.{ℕ, ◌+◌, ◌-◌, ◌*◌, Bool, ◌==◌, List, ◌∷◌, ◌++◌, map, if◌then◌else◌}
use Rattle.gm_game.specs.declared.position.Position.{Position}
use Rattle.gm_board.specs.Squares.{cell_text}
use Rattle.gm_tactix.specs.Segments.{first_cell, segment_length, stride}
use Rattle.gm_tactix.specs.Board.{side_of, counters_at}

-- the byte of a cell: `x` for a counter, `.` for an empty cell
abbrev pub counter_text : Bool → ℕ
counter_text b = if b then 120 else 46

-- the text of a board: its cells in order
unfoldable pub board_text : List Bool → List ℕ
board_text b = map counter_text b

-- the last cell of a segment
abbrev pub last_cell : ℕ → ℕ → ℕ
last_cell s m = first_cell m + stride s m * (segment_length m - 1)

-- the text of a segment: its first cell, and for more than one cell `-` and its last
unfoldable pub segment_text : ℕ → ℕ → List ℕ
segment_text s m = if segment_length m == 1 then cell_text s (first_cell m) else cell_text s (first_cell m) ++ 45 ∷ cell_text s (last_cell s m)

-- the text of a position
abbrev pub position_text : ℕ → Position → List ℕ
position_text n p = board_text (counters_at (side_of n) p.tier p.index)

-- the text of a position's move
abbrev pub move_text : ℕ → Position → ℕ → List ℕ
move_text n p m = segment_text (side_of n) m
