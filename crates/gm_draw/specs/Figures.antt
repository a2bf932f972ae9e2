-- The figures of chess men, as paths from the left end of the foot. The square of a figure is 40 wide.
use Rattle.std.specs.Prelude.{ℕ, Bool, ◌||◌, ◌==◌, List, [], codes, if◌then◌else◌}

-- whether a byte is the letter of a chess man
abbrev pub has_figure : ℕ → Bool
has_figure b =
    b == 75 || b == 107 || b == 81 || b == 113 || b == 82 || b == 114 || b == 66 || b == 98 || b == 78 || b == 110 || b == 80 || b == 112

-- the outline of a man with this letter, a path of SVG: king, queen, rook, bishop, knight and pawn
unfoldable pub outline : ℕ → List ℕ
outline b =
    if b == 75 || b == 107 then codes "h22v-4c8-9 5-18-2-17-4 0-7 3-8 6v-7h4v-4h-4v-4h-2v4h-4v4h4v7c-1-3-4-6-8-6-7-1-10 8-2 17z" else
    if b == 81 || b == 113 then codes "h22v-4l4-19-7 9-1-13-5 12-2-15-2 15-5-12-1 13-7-9 4 19z" else
    if b == 82 || b == 114 then codes "h22v-4h-3v-14h3v-9h-5v3h-3v-3h-6v3h-3v-3h-5v9h3v14h-3z" else
    if b == 66 || b == 98 then codes "h22v-4h-6l-2-3c8-7 4-14-2-19 3-6-5-6-2 0-6 5-10 12-2 19l-2 3h-6z" else
    if b == 78 || b == 110 then codes "h22v-4h-3c3-12 0-21-11-23l-1-4-3 4c-4 4-7 9-8 15l4 2 7-4c1 5-5 6-5 10h-2z" else
    if b == 80 || b == 112 then codes "h22v-4c0-6-4-8-6-10 5-4 2-13-5-13-7 0-10 9-5 13-2 2-6 4-6 10z" else
    []

-- the same path in TikZ, after the coordinates of its beginning
unfoldable pub outline_tikz : ℕ → List ℕ
outline_tikz b =
    if b == 75 || b == 107 then codes ")--++(22,0)--++(0,-4)..controls+(8,-9)and+(7,-1)..++(-2,-17)..controls+(-4,0)and+(1,-3)..++(-8,6)--++(0,-7)--++(4,0)--++(0,-4)--++(-4,0)--++(0,-4)--++(-2,0)--++(0,4)--++(-4,0)--++(0,4)--++(4,0)--++(0,7)..controls+(-1,-3)and+(4,0)..++(-8,-6)..controls+(-7,-1)and+(-8,-9)..++(-2,17)--cycle;\n" else
    if b == 81 || b == 113 then codes ")--++(22,0)--++(0,-4)--++(4,-19)--++(-7,9)--++(-1,-13)--++(-5,12)--++(-2,-15)--++(-2,15)--++(-5,-12)--++(-1,13)--++(-7,-9)--++(4,19)--cycle;\n" else
    if b == 82 || b == 114 then codes ")--++(22,0)--++(0,-4)--++(-3,0)--++(0,-14)--++(3,0)--++(0,-9)--++(-5,0)--++(0,3)--++(-3,0)--++(0,-3)--++(-6,0)--++(0,3)--++(-3,0)--++(0,-3)--++(-5,0)--++(0,9)--++(3,0)--++(0,14)--++(-3,0)--cycle;\n" else
    if b == 66 || b == 98 then codes ")--++(22,0)--++(0,-4)--++(-6,0)--++(-2,-3)..controls+(8,-7)and+(6,5)..++(-2,-19)..controls+(3,-6)and+(-3,-6)..++(-2,0)..controls+(-6,5)and+(-8,-7)..++(-2,19)--++(-2,3)--++(-6,0)--cycle;\n" else
    if b == 78 || b == 110 then codes ")--++(22,0)--++(0,-4)--++(-3,0)..controls+(3,-12)and+(11,2)..++(-11,-23)--++(-1,-4)--++(-3,4)..controls+(-4,4)and+(1,-6)..++(-8,15)--++(4,2)--++(7,-4)..controls+(1,5)and+(0,-4)..++(-5,10)--++(-2,0)--cycle;\n" else
    if b == 80 || b == 112 then codes ")--++(22,0)--++(0,-4)..controls+(0,-6)and+(2,2)..++(-6,-10)..controls+(5,-4)and+(7,0)..++(-5,-13)..controls+(-7,0)and+(-5,-4)..++(-5,13)..controls+(-2,2)and+(0,-6)..++(-6,10)--cycle;\n" else
    []
