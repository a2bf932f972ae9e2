-- What games of patterns look like.
use Rattle.std.specs.Prelude.{ℕ, ◌==◌, List, [], codes, if◌then◌else◌}
use Rattle.gm_draw.specs.declared.pictured.Style.{Style}
use Rattle.gm_draw.specs.GameSpecs.{GameSpec, game_spec}
use Rattle.gm_draw.specs.Pictures.{PictureSpec}
use Rattle.gm_draw.specs.Points.{square_points}
use Rattle.gm_patterns.specs.PatternGames.{PatternGame, pattern_rules}
use Rattle.gm_patterns.specs.PatternTexts.{pattern_text, pattern_move_text}

-- a game, its texts, and what it looks like
abbrev pub pattern_spec : ℕ → PatternGame → PictureSpec → GameSpec
pattern_spec n g = game_spec (pattern_rules n g) (pattern_text n g) (pattern_move_text n g)

-- a square of side 3 to 5, with the names of its rows and its columns
unfoldable pub square_board : ℕ → List ℕ
square_board s =
    if s == 5 then codes "    1 2 3 4 5\na   A B C D E\nb   F G H I J\nc   K L M N O\nd   P Q R S T\ne   U V W X Y" else
    if s == 4 then codes "    1 2 3 4\na   A B C D\nb   E F G H\nc   I J K L\nd   M N O P" else
    codes "    1 2 3\na   A B C\nb   D E F\nc   G H I"

-- a game on a board with a slot for each cell: the look of its men, its title, the board, the names of the cells, the side to move, and how cells, positions and
-- moves are written
abbrev pub on_board : Style → List ℕ → List ℕ → List (List ℕ) → List ℕ → List ℕ → PictureSpec
on_board style title board points mover naming =
    record { title = title; style = style; board = board; rows = []; points = points; mover = λ p. mover; naming = naming }

-- the same on a square of side 3 to 5
abbrev pub on_square : ℕ → Style → List ℕ → List ℕ → List ℕ → PictureSpec
on_square s style title = on_board style title (square_board s) (square_points s)

-- how cells and positions are written on a square with common pieces
abbrev pub common_naming : List ℕ
common_naming = codes "A cell is its row and its column, as a1.\nA position is its cells, row by row: x where it is\ntaken, . where it is empty.\n"
