-- The lines of the square of side 5: its rows, 0 to 4, and then its columns, 5 to 9.
use Rattle.std.specs.Prelude.{ℕ, ◌+◌, ◌-◌, ◌*◌, ◌/◌, ◌%◌, Bool, ◌==◌, nat_lt, List, if◌then◌else◌}
use Rattle.std.specs.List.{filter, flat_map, list_all, range_with_len}
use Rattle.gm_board.specs.Masks.{has_cell}
use Rattle.gm_tactix.specs.Segments.{first_cell, goes_down, segment_cells, segments}

-- the cell at this place of a line, the least at place 0
abbrev pub line_cell : ℕ → ℕ → ℕ
line_cell line place = if nat_lt line 5 then 5 * line + place else line - 5 + 5 * place

-- the place of a cell in its line
abbrev pub line_place : ℕ → ℕ → ℕ
line_place line cell = if nat_lt line 5 then cell % 5 else cell / 5

-- the line of a segment
abbrev pub line_of : ℕ → ℕ
line_of m = if goes_down m then 5 + first_cell m % 5 else first_cell m / 5

-- whether all cells of a segment of a line are at places that the mask has
unfoldable pub lies_in : ℕ → ℕ → ℕ → Bool
lies_in line content m = list_all (λ cell. has_cell content (line_place line cell)) (segment_cells 5 m)

-- the numbers of a line's segments, ascending
unfoldable pub line_segments : ℕ → List ℕ
line_segments line = filter (λ m. line_of m == line) (segments 5)

-- the numbers of all segments, line by line
abbrev pub segments_by_line : List ℕ
segments_by_line = flat_map line_segments (range_with_len 0 10)
