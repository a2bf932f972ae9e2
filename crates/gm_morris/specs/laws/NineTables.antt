-- The tables of the games of nine points are right, and so are their pictures: a computation finds nothing wrong with them.
use Rattle.std.proofs.Common.{refl}
use Rattle.gm_board.specs.Squares.{square_symmetries}
use Rattle.gm_draw.specs.Points.{square_points}
use Rattle.gm_patterns.specs.PatternPictures.{square_board}
use Rattle.gm_patterns.specs.PatternTables.{faults}
use Rattle.gm_patterns.specs.laws.PatternPictured.{IsRight, right}
use Rattle.gm_morris.specs.declared.games.Variant.{Variant}
use Rattle.gm_morris.specs.declared.games.Variant.TheVariants.{TicTacToe, TicTacToeMisere, ThreeMens, NineHoles, Achi, Picaria}
use Rattle.gm_morris.specs.Morris.{morris}
use Rattle.gm_morris.specs.NinePicture.{nine_picture}

pub nine_right : (v : Variant) → IsRight 9 (morris v) (nine_picture v)
unfolding faults square_points square_symmetries nine_picture square_board
nine_right TicTacToe = right refl refl refl refl refl refl refl refl refl refl refl refl refl (λ ps t w. w)
nine_right TicTacToeMisere = right refl refl refl refl refl refl refl refl refl refl refl refl refl (λ ps t w. w)
nine_right ThreeMens = right refl refl refl refl refl refl refl refl refl refl refl refl refl (λ ps t w. w)
nine_right NineHoles = right refl refl refl refl refl refl refl refl refl refl refl refl refl (λ ps t w. w)
nine_right Achi = right refl refl refl refl refl refl refl refl refl refl refl refl refl (λ ps t w. w)
nine_right Picaria = right refl refl refl refl refl refl refl refl refl refl refl refl refl (λ ps t w. w)
