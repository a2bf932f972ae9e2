-- Slides over masks of the free and of the taken cells.
use Rattle.std.specs.Prelude.{◌≡◌, ◌+◌, ◌*◌, ℕ, Bool, ◌&&◌, List, [], if◌then◌else◌}
use Rattle.gm_dao.specs.Lower.{not, map, list_all, filter, filter_map, range_with_len, put_all, pattern_mask, has_cell, before_at, from_point, to_point}
use Rattle.gm_board.specs.declared.cell.Cell.{Cell}
use Rattle.gm_board.specs.Cells.{is_mine}
use Rattle.gm_dao.specs.DaoRules.{has_formation, has_trapped, in_line, path, beyond, can_move, least_index_of, dao}

-- the mask of the way from one cell to another in line with it; 0 for other cells
unfoldable pub way_mask : ℕ → ℕ → ℕ
way_mask a c = if in_line a c then pattern_mask (path a c) else 0

-- whether a piece slides from a to c: all cells on the way are free, and the cell after c is taken or off the board
abbrev pub slides_by_masks : ℕ → ℕ → ℕ → ℕ → Bool
slides_by_masks free taken a c = in_line a c && (list_all (has_cell free) (path a c) && list_all (has_cell taken) (beyond a c))

-- the same by a test of the free cells
abbrev pub slides_over : (ℕ → Bool) → ℕ → ℕ → Bool
slides_over free a c = in_line a c && (list_all free (path a c) && list_all (λ k. not (free k)) (beyond a c))

-- whether a piece can have slid to c from a: a and the cells between are free, and the cell after c is taken or off the board
abbrev pub came_by_masks : ℕ → ℕ → ℕ → ℕ → Bool
came_by_masks free taken c a = in_line c a && (list_all (has_cell free) (path c a) && list_all (has_cell taken) (beyond a c))

-- the number of the move between the same cells the other way
abbrev pub way_back : ℕ → ℕ
way_back m = 16 * to_point m + from_point m

-- the list has the moves with numbers below n
abbrev pub AreMovesBelow : List Cell → ℕ → List ℕ → Type 0
AreMovesBelow b n ms = ms ≡ filter (can_move b) (range_with_len 0 n)

-- the boards before the moves whose numbers the other way are below n: those that end on the first cells
abbrev pub befores_below : ℕ → List Cell → ℕ → List (List Cell)
befores_below t d n = filter_map (λ m. before_at dao t d (way_back m)) (range_with_len 0 n)

-- the list has their least indexes, ascending and once each
abbrev pub AreBeforesBelow : ℕ → List Cell → ℕ → List ℕ → Type 0
AreBeforesBelow t d n is = is ≡ put_all [] (map least_index_of (befores_below t d n))

-- whether the mover has neither a formation nor a trapped piece
abbrev pub is_unended : List Cell → Bool
is_unended b = not (has_formation is_mine b) && not (has_trapped b)
