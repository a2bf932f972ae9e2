-- Segments of a square board: adjacent cells of one row or of one column. A move of Tac Tix takes the counters of a segment, and its number is `16*first +
-- 2*length + direction`.
use Rattle.std.specs.Prelude.{ℕ, zero, suc, ◌+◌, ◌*◌, ◌/◌, ◌%◌, Bool, ◌&&◌, ◌==◌, nat_le, nat_lt, List, [], ◌∷◌, if◌then◌else◌}
use Rattle.std.specs.List.{filter, range_with_len}

-- the least cell of a segment
abbrev pub first_cell : ℕ → ℕ
first_cell m = m / 16

-- how many cells a segment has
abbrev pub segment_length : ℕ → ℕ
segment_length m = m % 16 / 2

-- whether a segment goes down a column; else it goes along a row
abbrev pub goes_down : ℕ → Bool
goes_down m = m % 2 == 1

-- the step from each cell of a segment to the next, on a square of side s
abbrev pub stride : ℕ → ℕ → ℕ
stride s m = if goes_down m then s else 1

-- n cells from c on, each this far from the one before
abbrev pub cells_from : ℕ → ℕ → ℕ → List ℕ
cells_from c step zero = []
cells_from c step (suc n) = c ∷ cells_from (c + step) step n

-- the cells of a segment
unfoldable pub segment_cells : ℕ → ℕ → List ℕ
segment_cells s m = cells_from (first_cell m) (stride s m) (segment_length m)

-- whether there is a segment with this number: it has a cell and stays in its row or column, and a single cell goes along its row
unfoldable pub is_segment : ℕ → ℕ → Bool
is_segment s m = nat_lt (first_cell m) (s * s)
    && (if goes_down m
    then nat_le 2 (segment_length m) && nat_le (first_cell m / s + segment_length m) s
    else nat_le 1 (segment_length m) && nat_le (first_cell m % s + segment_length m) s)

-- all numbers of segments are below this number
abbrev pub move_number_bound : ℕ → ℕ
move_number_bound s = 16 * (s * s)

-- the numbers of all segments, ascending
abbrev pub segments : ℕ → List ℕ
segments s = filter (is_segment s) (range_with_len 0 (move_number_bound s))
