-- What these games look like.
use Rattle.std.specs.Prelude.{ℕ, List, ◌++◌, codes}
use Rattle.gm_draw.specs.declared.pictured.Style.TheVariants.{Counters, Crosses, Stones}
use Rattle.gm_draw.specs.Pictures.{PictureSpec}
use Rattle.gm_draw.specs.GameSpecs.{GameSpec}
use Rattle.gm_draw.specs.Points.{square_naming}
use Rattle.gm_patterns.specs.PatternPictures.{pattern_spec, on_board, on_square, common_naming}
pub use Rattle.gm_morris.specs.NinePicture.{tictactoe_misere_spec}
use Rattle.gm_placing.specs.RowRules.{tictactoe_four, notakto}
use Rattle.gm_placing.specs.HexRules.{hex_three, hex_four}
use Rattle.gm_placing.specs.SimRules.{sim}

-- how placed pieces are written
abbrev pub place_naming : List ℕ
place_naming = square_naming ++ codes "A move is the cell that is taken.\n"

abbrev pub hex_naming : List ℕ
hex_naming = square_naming ++ codes "The side to move joins the first row to the last.\nA move is the cell that is taken.\n"

unfoldable pub tictactoe_four_picture : PictureSpec
tictactoe_four_picture = on_board Crosses (codes "Tic-Tac-Toe 4 by 4")
    (codes "    1   2   3   4\na   A | B | C | D\n   ---+---+---+---\nb   E | F | G | H\n   ---+---+---+---\nc   I | J | K | L\n   ---+---+---+---\nd   M | N | O | P")
    tictactoe_four.names (codes "x") place_naming

abbrev pub tictactoe_four_spec : GameSpec
tictactoe_four_spec = pattern_spec 16 tictactoe_four tictactoe_four_picture

unfoldable pub notakto_picture : PictureSpec
notakto_picture = on_square 3 Counters (codes "Notakto") (codes "player") (common_naming ++ codes "A move is the cell that is taken.\n")

abbrev pub notakto_spec : GameSpec
notakto_spec = pattern_spec 9 notakto notakto_picture

unfoldable pub hex_three_picture : PictureSpec
hex_three_picture = on_board Stones (codes "Hex 3 by 3") (codes "    1 2 3\na   A B C\nb    D E F\nc     G H I") hex_three.names (codes "x") hex_naming

abbrev pub hex_three_spec : GameSpec
hex_three_spec = pattern_spec 9 hex_three hex_three_picture

unfoldable pub hex_four_picture : PictureSpec
hex_four_picture = on_board Stones (codes "Hex 4 by 4") (codes "    1 2 3 4\na   A B C D\nb    E F G H\nc     I J K L\nd      M N O P")
    hex_four.names (codes "x") hex_naming

abbrev pub hex_four_spec : GameSpec
hex_four_spec = pattern_spec 16 hex_four hex_four_picture

unfoldable pub sim_picture : PictureSpec
sim_picture = on_board Stones (codes "Sim") (codes "    2 3 4 5 6\n1   A B C D E\n2     F G H I\n3       J K L\n4         M N\n5           O")
    sim.names (codes "x") (codes "A line is its two points, as 12.\nA position is its lines, 12, 13 and so on to 56:\nx for the side to move, o for the other, . where\nit has no colour.\nA move is the line that gets a colour.\n")

abbrev pub sim_spec : GameSpec
sim_spec = pattern_spec 15 sim sim_picture
