-- The lines of Connect Four: four cells side by side, one below the other, or on a diagonal. Cell w*r + c is in row r and column c; the first row is the top row.
use Rattle.std.specs.Prelude.{ℕ, ◌+◌, ◌-◌, ◌*◌, ◌/◌, ◌%◌, Bool, ◌&&◌, nat_le, nat_lt, List, [], ◌∷◌, ◌++◌, if◌then◌else◌}
use Rattle.std.specs.List.{flat_map, range_with_len}
use Rattle.gm_connect.specs.declared.size.Size.{Size}
use Rattle.gm_connect.specs.Sizes.{columns, rows}

-- four cells from cell k on, each so far from the one before it
abbrev pub four : ℕ → ℕ → List ℕ
four k step = k ∷ (k + step) ∷ (k + 2 * step) ∷ (k + 3 * step) ∷ []

-- whether three more cells are to the right of cell k, below it, or to its left
abbrev pub has_right : ℕ → ℕ → Bool
has_right w k = nat_lt (k % w + 3) w

abbrev pub has_below : ℕ → ℕ → ℕ → Bool
has_below w h k = nat_lt (k / w + 3) h

abbrev pub has_left : ℕ → ℕ → Bool
has_left w k = nat_le 3 (k % w)

-- the lines that go from cell k to the right, down, and down on both diagonals
abbrev pub lines_from : ℕ → ℕ → ℕ → List (List ℕ)
lines_from w h k =
    (if has_right w k then four k 1 ∷ [] else [])
    ++ ((if has_below w h k then four k w ∷ [] else [])
    ++ ((if has_right w k && has_below w h k then four k (w + 1) ∷ [] else [])
    ++ (if has_left w k && has_below w h k then four k (w - 1) ∷ [] else [])))

-- all lines
unfoldable pub lines : Size → List (List ℕ)
lines s = flat_map (lines_from (columns s) (rows s)) (range_with_len 0 (rows s * columns s))
