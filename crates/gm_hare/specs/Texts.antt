-- The texts of boards and of moves.
use Rattle.std.specs.Prelude.{ℕ, ◌==◌, List, [], ◌∷◌, ◌++◌, map, slice_index_or, if◌then◌else◌}
use Rattle.std.specs.List.{range_with_len}
use Rattle.gm_game.specs.declared.position.Position.{Position}
use Rattle.gm_pieces.specs.Steps.{from_point, to_point}
use Rattle.gm_hare.specs.declared.hunt.Hunt.{Hunt}
use Rattle.gm_hare.specs.Board.{has_hound, hunt_board}

-- the byte at a place of a text: for each point `d` for a hound, `h` for the hare, `.` if it is empty; then a space, and `d` or `h` for who moves
abbrev pub hunt_char : Hunt → ℕ → ℕ
hunt_char b k =
    if k == 11 then 32
    else (if k == 12 then (if b.hounds_move then 100 else 104)
    else (if has_hound b k then 100 else (if k == b.hare then 104 else 46)))

-- the text of a board, of thirteen bytes
unfoldable pub hunt_text : Hunt → List ℕ
hunt_text b = map (hunt_char b) (range_with_len 0 13)

-- the names of the points
abbrev pub names : List (List ℕ)
names =
    (76 ∷ [])
    ∷ (84 ∷ 49 ∷ [])
    ∷ (77 ∷ 49 ∷ [])
    ∷ (66 ∷ 49 ∷ [])
    ∷ (84 ∷ 50 ∷ [])
    ∷ (77 ∷ 50 ∷ [])
    ∷ (66 ∷ 50 ∷ [])
    ∷ (84 ∷ 51 ∷ [])
    ∷ (77 ∷ 51 ∷ [])
    ∷ (66 ∷ 51 ∷ [])
    ∷ (82 ∷ [])
    ∷ []

-- the name of a point
unfoldable pub point_name : ℕ → List ℕ
point_name k = slice_index_or names k []

-- the text of a move: the names of its two points with `-` between them
unfoldable pub step_text : ℕ → List ℕ
step_text m = point_name (from_point m) ++ 45 ∷ point_name (to_point m)

-- the text of a position
abbrev pub position_text : Position → List ℕ
position_text p = hunt_text (hunt_board p.index)

-- the text of a position's move
abbrev pub move_text : Position → ℕ → List ℕ
move_text p m = step_text m
