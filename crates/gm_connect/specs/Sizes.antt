-- The sizes of Connect Four.
use Rattle.std.specs.Prelude.{ℕ, ◌-◌, ◌*◌, ◌&&◌, ◌==◌, List, [], ◌∷◌, ◌++◌, codes, if◌then◌else◌}
use Rattle.gm_connect.specs.declared.size.Size.{Size}
use Rattle.gm_connect.specs.declared.size.Size.TheVariants.{FourByFour, FiveByFour, FourByFive, FourBySix, FiveByFive, SixByFour}

-- the size with these columns and rows; any others stand for 4 columns and 4 rows
unfoldable pub size_of : ℕ → ℕ → Size
size_of w h = if w == 5 && h == 4 then FiveByFour else (if w == 4 && h == 5 then FourByFive else (if w == 4 && h == 6 then FourBySix else
    (if w == 5 && h == 5 then FiveByFive else (if w == 6 && h == 4 then SixByFour else FourByFour))))

-- how many columns there are
unfoldable pub columns : Size → ℕ
columns FourByFour = 4
columns FiveByFour = 5
columns FourByFive = 4
columns FourBySix = 4
columns FiveByFive = 5
columns SixByFour = 6

-- how many rows there are
unfoldable pub rows : Size → ℕ
rows FourByFour = 4
rows FiveByFour = 4
rows FourByFive = 5
rows FourBySix = 6
rows FiveByFive = 5
rows SixByFour = 4

-- how many middle columns are numbered apart from the others
unfoldable pub middle : Size → ℕ
middle FourByFour = 0
middle FiveByFour = 0
middle FourByFive = 0
middle FourBySix = 0
middle FiveByFive = 1
middle SixByFour = 2

-- how many cells there are
abbrev pub cells : Size → ℕ
cells s = rows s * columns s

-- how many of them are in the middle columns, and in the others
abbrev pub middle_cells : Size → ℕ
middle_cells s = rows s * middle s

abbrev pub outer_cells : Size → ℕ
outer_cells s = rows s * (columns s - middle s)

-- the name, padded with zeros
unfoldable pub name_of : Size → List ℕ
name_of FourByFour = codes "connect4-4x4" ++ 0 ∷ 0 ∷ 0 ∷ 0 ∷ []
name_of FiveByFour = codes "connect4-5x4" ++ 0 ∷ 0 ∷ 0 ∷ 0 ∷ []
name_of FourByFive = codes "connect4-4x5" ++ 0 ∷ 0 ∷ 0 ∷ 0 ∷ []
name_of FourBySix = codes "connect4-4x6" ++ 0 ∷ 0 ∷ 0 ∷ 0 ∷ []
name_of FiveByFive = codes "connect4-5x5" ++ 0 ∷ 0 ∷ 0 ∷ 0 ∷ []
name_of SixByFour = codes "connect4-6x4" ++ 0 ∷ 0 ∷ 0 ∷ 0 ∷ []
