-- The mark of a move on a board: an arrow from a point to another, or a ring round a point.
use Rattle.std.specs.Prelude.{ℕ, ◌+◌, ◌-◌, Bool, true, false, ◌&&◌, ◌==◌, List, [], ◌∷◌, take, drop, slice_index_or, if◌then◌else◌, Option, None, Some}
use Rattle.std.specs.List.{position}
use Rattle.std.specs.Str.{bytes_eq}
use Rattle.gm_draw.specs.declared.pictured.Style.{Style}
use Rattle.gm_draw.specs.declared.pictured.Style.TheVariants.{Chess, Figures, Hounds}
use Rattle.gm_draw.specs.declared.marks.Place.{Place}
use Rattle.gm_draw.specs.declared.marks.Mark.{Mark}
use Rattle.gm_draw.specs.declared.marks.Mark.TheVariants.{Nothing, Ring, Arrow}
use Rattle.gm_draw.specs.Templates.{is_slot, next_x, next_y}
use Rattle.gm_draw.specs.Chessboards.{file_at, rank_at}

-- whether men are on the squares of a chess board
abbrev pub has_squares : Style → Bool
has_squares Chess = true
has_squares Figures = true
has_squares Hounds = true
has_squares style = false

-- whether the text of a move begins with a man's letter
abbrev pub has_letter : Style → Bool
has_letter Chess = true
has_letter Figures = true
has_letter style = false

-- whether this is the name of the square at a point
unfoldable pub is_square : ℕ → ℕ → List ℕ → Bool
is_square x y [] = false
is_square x y (f ∷ []) = false
is_square x y (f ∷ r ∷ []) = f == file_at x && r == rank_at y
is_square x y (f ∷ r ∷ b ∷ rest) = false

-- whether this is the name of the point whose slot is at a place; points have these names
abbrev pub is_named : Style → List (List ℕ) → List ℕ → ℕ → ℕ → ℕ → Bool
is_named style points name x y b =
    is_slot b && (if has_squares style then is_square x y name else bytes_eq (slice_index_or points (b - 65) []) name)

-- the place of the point with this name; the first byte of the board is at x and y
unfoldable pub named_from : Style → List (List ℕ) → List ℕ → ℕ → ℕ → List ℕ → Option Place
named_from style points name x y [] = None
named_from style points name x y (b ∷ bs) =
    if is_named style points name x y b then Some (record { x = x; y = y }) else named_from style points name (next_x x b) (next_y y b) bs

abbrev pub named_place : Style → List (List ℕ) → List ℕ → List ℕ → Option Place
named_place style points board name = named_from style points name 40 40 board

abbrev pub ring_at : Option Place → Mark
ring_at None = Nothing
ring_at (Some place) = Ring place

abbrev pub arrow_at : Option Place → Option Place → Mark
arrow_at None to = Nothing
arrow_at (Some from) None = Nothing
arrow_at (Some from) (Some to) = Arrow from to

-- the mark of the names before and after the `-` at this index of a text, or of the whole text as a name
abbrev pub mark_by : Style → List (List ℕ) → List ℕ → List ℕ → Option ℕ → Mark
mark_by style points board word None = ring_at (named_place style points board word)
mark_by style points board word (Some k) = arrow_at (named_place style points board (take k word)) (named_place style points board (drop (k + 1) word))

-- the mark of the move with this text, on a board whose points have these names; no mark if the text is empty
abbrev pub mark_of : Style → List (List ℕ) → List ℕ → List ℕ → Mark
mark_of style points board [] = Nothing
mark_of style points board (b ∷ bs) =
    if has_letter style then mark_by style points board bs (position (λ c. c == 45) bs)
    else mark_by style points board (b ∷ bs) (position (λ c. c == 45) (b ∷ bs))
