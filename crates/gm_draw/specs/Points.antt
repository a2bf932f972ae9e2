-- The points of boards: their names, in the order of the bytes of a position's text.
use Rattle.std.specs.Prelude.{◌≡◌, ℕ, ◌*◌, ◌⊎◌, Bool, true, not, ◌&&◌, ◌==◌, List, [], ◌∷◌, ◌++◌, map, length, codes}
use Rattle.std.specs.Fmt.{decimal}
use Rattle.std.specs.List.{Contains, list_all, list_any, range_with_len}
use Rattle.std.specs.Str.{bytes_eq}
use Rattle.gm_board.specs.Squares.{cell_text}

-- ---- points
-- the cells of a square of side s, row by row
unfoldable pub square_points : ℕ → List (List ℕ)
square_points s = map (cell_text s) (range_with_len 0 (s * s))

-- how cells and positions are written on a square
abbrev pub square_naming : List ℕ
square_naming = codes "A cell is its row and its column, as a1.\nA position is its cells, row by row: x for the\nside to move, o for the other, . where it is empty\n"

-- the numbers below n
unfoldable pub number_points : ℕ → List (List ℕ)
number_points n = map decimal (range_with_len 0 n)

-- ---- names and moves
-- whether a name is not empty and has no `-`
abbrev pub is_name : List ℕ → Bool
is_name text = not (length text == 0) && list_all (λ b. not (b == 45)) text

-- whether no name occurs twice
abbrev pub are_apart : List (List ℕ) → Bool
are_apart [] = true
are_apart (n ∷ ns) = not (list_any (bytes_eq n) ns) && are_apart ns

-- the text is the name of a point, or two names with `-` between them
abbrev pub IsPointWord : List (List ℕ) → List ℕ → Type 0
IsPointWord points text = Contains points text ⊎ ((a : List ℕ) × (b : List ℕ) × Contains points a × Contains points b × (text ≡ a ++ 45 ∷ b))
