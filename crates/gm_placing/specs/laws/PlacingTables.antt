-- The tables of games of placing are right, and so are their pictures: a computation finds nothing wrong with them.
use Rattle.std.proofs.Common.{refl}
use Rattle.gm_board.specs.Squares.{square_symmetries}
use Rattle.gm_draw.specs.Points.{square_points}
use Rattle.gm_patterns.specs.PatternTables.{faults}
use Rattle.gm_placing.specs.RowRules.{tictactoe_four, notakto}
use Rattle.gm_placing.specs.HexRules.{hex_three, hex_four}
use Rattle.gm_placing.specs.SimRules.{sim}
use Rattle.gm_patterns.specs.PatternPictures.{square_board}
use Rattle.gm_patterns.specs.laws.PatternPictured.{IsRight, right}
use Rattle.gm_placing.specs.PlacingPictures.{tictactoe_four_picture, notakto_picture, hex_three_picture, hex_four_picture, sim_picture}

pub tictactoe_four_right : IsRight 16 tictactoe_four tictactoe_four_picture
unfolding faults square_points square_symmetries tictactoe_four_picture
tictactoe_four_right = right refl refl refl refl refl refl refl refl refl refl refl refl refl (λ ps t w. w)

pub notakto_right : IsRight 9 notakto notakto_picture
unfolding faults square_points square_symmetries notakto_picture square_board
notakto_right = right refl refl refl refl refl refl refl refl refl refl refl refl refl (λ ps t w. w)

pub hex_three_right : IsRight 9 hex_three hex_three_picture
unfolding faults square_points square_symmetries hex_three_picture
hex_three_right = right refl refl refl refl refl refl refl refl refl refl refl refl refl (λ ps t w. w)

pub hex_four_right : IsRight 16 hex_four hex_four_picture
unfolding faults square_points square_symmetries hex_four_picture
hex_four_right = right refl refl refl refl refl refl refl refl refl refl refl refl refl (λ ps t w. w)

pub sim_right : IsRight 15 sim sim_picture
unfolding faults square_points square_symmetries sim_picture
sim_right = right refl refl refl refl refl refl refl refl refl refl refl refl refl (λ ps t w. w)
