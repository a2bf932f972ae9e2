-- The table of Pong Hau K'i is right, and so is its picture: a computation finds nothing wrong with them.
use Rattle.std.proofs.Common.{refl}
use Rattle.gm_patterns.specs.PatternTables.{faults}
use Rattle.gm_patterns.specs.laws.PatternPictured.{IsRight, right}
use Rattle.gm_pong.specs.PongRules.{pong}
use Rattle.gm_pong.specs.PongPicture.{pong_picture}

pub pong_right : IsRight 5 pong pong_picture
unfolding faults pong_picture
pong_right = right refl refl refl refl refl refl refl refl refl refl refl refl refl (λ ps t w. w)
