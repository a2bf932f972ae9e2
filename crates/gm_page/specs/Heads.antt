-- The first line of a page, which describes the game.
use Rattle.std.specs.Prelude.{ℕ, Bool, true, false, List, [], ◌∷◌, ◌==◌, map, codes}
use Rattle.serde_json.specs.Data.{Data, string, array, object, Members, boolean, member, no_members}
use Rattle.serde_json.specs.View.{items_of}
use Rattle.gm_json.specs.Words.{text}
use Rattle.gm_draw.specs.Pictures.{PictureSpec}
use Rattle.std.specs.List.{before_first}
use Rattle.gm_draw.specs.declared.pictured.Style.{Style}
use Rattle.gm_draw.specs.declared.pictured.Style.TheVariants.{Row, Crosses, Counters, Stones, Discs, Letters, Chess, Figures, Hounds, Digits}

-- the bytes of a position's text that are men; on a board of chess the last is that of the second side, and the others are of the first
abbrev pub men_of : Style → List ℕ
men_of Row = []
men_of Crosses = codes "xo"
men_of Counters = codes "x"
men_of Stones = codes "xo"
men_of Discs = codes "xo"
men_of Letters = codes "dh"
men_of Chess = codes "KQRBNPk"
men_of Figures = codes "KQRBNPk"
men_of Hounds = codes "fh"
men_of Digits = []

-- the name of the side that begins, and that of the other side
abbrev pub first_side : Style → List ℕ
first_side Row = codes "First"
first_side Crosses = codes "X"
first_side Counters = codes "First"
first_side Stones = codes "Black"
first_side Discs = codes "Black"
first_side Letters = codes "Hounds"
first_side Chess = codes "White"
first_side Figures = codes "White"
first_side Hounds = codes "Fox"
first_side Digits = codes "First"

abbrev pub second_side : Style → List ℕ
second_side Row = codes "Second"
second_side Crosses = codes "O"
second_side Counters = codes "Second"
second_side Stones = codes "White"
second_side Discs = codes "White"
second_side Letters = codes "Hare"
second_side Chess = codes "Black"
second_side Figures = codes "Black"
second_side Hounds = codes "Hounds"
second_side Digits = codes "Second"

-- whether the first kind of men always belongs to the side to move, so that the sides swap after each move
abbrev pub swaps : Style → Bool
swaps Row = false
swaps Crosses = true
swaps Counters = false
swaps Stones = true
swaps Discs = true
swaps Letters = false
swaps Chess = false
swaps Figures = false
swaps Hounds = false
swaps Digits = false

abbrev pub sides_tree : Style → Data
sides_tree style = array (items_of (string (first_side style) ∷ string (second_side style) ∷ []))

-- the name of the game: the bytes before the first zero
abbrev pub name_text : List ℕ → List ℕ
name_text bs = before_first (λ b. b == 0) bs

-- the board, the names of the points and the other members that a page shows, the text of the position that it begins with, and whether it has every position
-- that play reaches; the members are in alphabetical order
abbrev pub head_members : List ℕ → PictureSpec → List ℕ → Bool → Members
head_members name picture start whole =
    member (codes "board") (text picture.board)
    (member (codes "game") (text (name_text name))
    (member (codes "men") (string (men_of picture.style))
    (member (codes "naming") (text picture.naming)
    (member (codes "points") (array (items_of (map text picture.points)))
    (member (codes "sides") (sides_tree picture.style)
    (member (codes "start") (text start)
    (member (codes "swap") (boolean (swaps picture.style)) (member (codes "title") (text picture.title) (member (codes "whole") (boolean whole) no_members)))))))))

abbrev pub head_tree : List ℕ → PictureSpec → List ℕ → Bool → Data
head_tree name picture start whole = object (head_members name picture start whole)
