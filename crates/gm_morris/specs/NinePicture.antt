-- What the games of nine points look like.
use Rattle.std.specs.Prelude.{ℕ, List, ◌++◌, codes}
use Rattle.gm_draw.specs.declared.pictured.Style.{Style}
use Rattle.gm_draw.specs.declared.pictured.Style.TheVariants.{Crosses, Discs, Stones}
use Rattle.gm_draw.specs.Pictures.{PictureSpec}
use Rattle.gm_draw.specs.GameSpecs.{GameSpec}
use Rattle.gm_draw.specs.Points.{square_naming, square_points}
use Rattle.gm_patterns.specs.PatternPictures.{pattern_spec, on_board, on_square}
use Rattle.gm_morris.specs.declared.games.Variant.{Variant}
use Rattle.gm_morris.specs.declared.games.Variant.TheVariants.{TicTacToe, TicTacToeMisere, ThreeMens, NineHoles, Achi, Picaria}
use Rattle.gm_morris.specs.Morris.{variant_of, nine_points}

-- a board with far columns, and how moves are written
abbrev pub nine_with : List ℕ → Style → List ℕ → List ℕ → PictureSpec
nine_with title style board naming = on_board style title (codes "    1   2   3\n" ++ board) (square_points 3) (codes "x") (square_naming ++ naming)

abbrev pub crossing : List ℕ
crossing = codes "a   A | B | C\n   ---+---+---\nb   D | E | F\n   ---+---+---\nc   G | H | I"

abbrev pub straight : List ℕ
straight = codes "a   A---B---C\n    |   |   |\nb   D---E---F\n    |   |   |\nc   G---H---I"

abbrev pub with_six : List ℕ
with_six = codes "A move is the cell where a piece is put; with six\npieces on the board, from one cell to the next.\n"

unfoldable pub nine_picture : Variant → PictureSpec
nine_picture TicTacToe = nine_with (codes "Tic-Tac-Toe") Crosses crossing (codes "A move is the cell that is taken.\n")
nine_picture TicTacToeMisere = nine_with (codes "Misere Tic-Tac-Toe") Crosses crossing (codes "A move is the cell that is taken.\n")
nine_picture ThreeMens = nine_with (codes "Three Men's Morris") Discs straight with_six
nine_picture NineHoles = nine_with (codes "Nine Holes") Discs straight with_six
nine_picture Achi = nine_with (codes "Achi") Discs
    (codes "a   A---B---C\n    | \\ | / |\nb   D---E---F\n    | / | \\ |\nc   G---H---I")
    (codes "A move is the cell where a piece is put; with\neight on the board, from one cell to the next.\n")
nine_picture Picaria = on_square 3 Stones (codes "Picaria") (codes "x") (square_naming ++ with_six)

-- the game with this number
abbrev pub nine_spec : ℕ → GameSpec
nine_spec n = pattern_spec 9 (nine_points n) (nine_picture (variant_of n))

abbrev pub tictactoe_misere_spec : GameSpec
tictactoe_misere_spec = nine_spec 1

abbrev pub nine_holes_spec : GameSpec
nine_holes_spec = nine_spec 2

abbrev pub picaria_spec : GameSpec
picaria_spec = nine_spec 3
