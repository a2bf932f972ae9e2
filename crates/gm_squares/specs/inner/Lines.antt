-- Lines of the chess board as masks, where bit s stands for square s.
use Rattle.std.specs.Prelude.{ℕ, ◌+◌, ◌-◌, ◌*◌, ◌/◌, ◌%◌, ◌^◌, Bool, not, ◌&&◌, ◌||◌, ◌==◌, nat_lt, slice_index, if◌then◌else◌, List, [], ◌∷◌}
use Rattle.gm_board.specs.Masks.{has_cell}
use Rattle.gm_squares.specs.declared.lines.TheConstants.{DIAGONALS, FALLING}

-- the line through a square: 0 its row, 1 its file, 2 its diagonal that goes up, 3 its diagonal that goes down
unfoldable pub line_mask : ℕ → ℕ → ℕ
line_mask x s =
    if x == 0 then 255 * 2 ^ (s / 8 * 8) % 2 ^ 64
    else (if x == 1 then 72340172838076673 * 2 ^ (s % 8) % 2 ^ 64
    else (if x == 2 then slice_index DIAGONALS (7 + s / 8 - s % 8) else slice_index FALLING (s / 8 + s % 8)))

-- whether a number is between two others; on a line squares are in the order of their numbers
abbrev pub lies_between : ℕ → ℕ → ℕ → Bool
lies_between a c u = (nat_lt a u && nat_lt u c) || (nat_lt c u && nat_lt u a)

-- whether a man on u leaves the way along a line open
abbrev pub is_open_line : ℕ → ℕ → ℕ → ℕ → Bool
is_open_line line a c u = not (has_cell line u && lies_between a c u)

-- the lines along which the rook, or with `queen` the queen, goes
abbrev pub lines_of : Bool → List ℕ
lines_of queen = if queen then 0 ∷ 1 ∷ 2 ∷ 3 ∷ [] else 0 ∷ 1 ∷ []

-- whether a man reaches a square along a line, with men on two others that stop it
abbrev pub goes_along : ℕ → ℕ → ℕ → ℕ → ℕ → Bool
goes_along line a c u v = has_cell line c && (not (c == a) && (is_open_line line a c u && is_open_line line a c v))
