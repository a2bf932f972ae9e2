-- The tables of Domineering, of Cram and of Kayles are right, and so are their pictures: a computation finds nothing wrong with them.
use Rattle.std.proofs.Common.{Bool, true, false, refl}
use Rattle.gm_board.specs.Squares.{square_symmetries}
use Rattle.gm_draw.specs.Points.{square_points}
use Rattle.gm_patterns.specs.PatternTables.{faults}
use Rattle.gm_dominoes.specs.DominoRules.{domino_four, domino_five}
use Rattle.gm_dominoes.specs.KaylesRules.{kayles}
use Rattle.gm_patterns.specs.PatternPictures.{square_board}
use Rattle.gm_patterns.specs.laws.PatternPictured.{IsRight, right}
use Rattle.gm_dominoes.specs.DominoPictures.{domino_four_picture, domino_five_picture, kayles_picture}

pub domino_four_right : (cram : Bool) → IsRight 16 (domino_four cram) (domino_four_picture cram)
unfolding faults square_points square_symmetries domino_four_picture square_board
domino_four_right true = right refl refl refl refl refl refl refl refl refl refl refl refl refl (λ ps t w. w)
domino_four_right false = right refl refl refl refl refl refl refl refl refl refl refl refl refl (λ ps t w. w)

pub domino_five_right : (cram : Bool) → IsRight 25 (domino_five cram) (domino_five_picture cram)
unfolding faults square_points square_symmetries domino_five_picture square_board
domino_five_right true = right refl refl refl refl refl refl refl refl refl refl refl refl refl (λ ps t w. w)
domino_five_right false = right refl refl refl refl refl refl refl refl refl refl refl refl refl (λ ps t w. w)

pub kayles_right : IsRight 12 kayles kayles_picture
unfolding faults square_points square_symmetries kayles_picture
kayles_right = right refl refl refl refl refl refl refl refl refl refl refl refl refl (λ ps t w. w)
