-- The tables of games of sliding and taking are right, and so are their pictures: a computation finds nothing wrong with them.
use Rattle.std.proofs.Common.{refl}
use Rattle.gm_board.specs.Squares.{square_symmetries}
use Rattle.gm_draw.specs.Points.{square_points}
use Rattle.gm_patterns.specs.PatternTables.{faults}
use Rattle.gm_sliding.specs.HexapawnRules.{hexapawn, hexapawn_four}
use Rattle.gm_sliding.specs.ClobberRules.{clobber}
use Rattle.gm_sliding.specs.KonoRules.{kono}
use Rattle.gm_patterns.specs.PatternPictures.{square_board}
use Rattle.gm_patterns.specs.laws.PatternPictured.{IsRight, right}
use Rattle.gm_sliding.specs.SlidingPictures.{hexapawn_picture, hexapawn_four_picture, clobber_picture, kono_picture}

pub hexapawn_right : IsRight 9 hexapawn hexapawn_picture
unfolding faults square_points square_symmetries hexapawn_picture square_board
hexapawn_right = right refl refl refl refl refl refl refl refl refl refl refl refl refl (λ ps t w. w)

pub hexapawn_four_right : IsRight 16 hexapawn_four hexapawn_four_picture
unfolding faults square_points square_symmetries hexapawn_four_picture square_board
hexapawn_four_right = right refl refl refl refl refl refl refl refl refl refl refl refl refl (λ ps t w. w)

pub clobber_right : IsRight 16 clobber clobber_picture
unfolding faults square_points square_symmetries clobber_picture square_board
clobber_right = right refl refl refl refl refl refl refl refl refl refl refl refl refl (λ ps t w. w)

pub kono_right : IsRight 16 kono kono_picture
unfolding faults square_points square_symmetries kono_picture square_board
kono_right = right refl refl refl refl refl refl refl refl refl refl refl refl refl (λ ps t w. w)
