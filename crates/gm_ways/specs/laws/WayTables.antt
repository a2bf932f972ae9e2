-- The tables of games on points are right, and so are their pictures: a computation finds nothing wrong with them.
use Rattle.std.proofs.Common.{refl}
use Rattle.gm_board.specs.Squares.{square_symmetries}
use Rattle.gm_patterns.specs.PatternTables.{faults}
use Rattle.gm_patterns.specs.laws.PatternPictured.{IsRight, right}
use Rattle.gm_ways.specs.declared.ways.Variant.{Variant}
use Rattle.gm_ways.specs.declared.ways.Variant.TheVariants.{Shisima, Tapatan, MuTorere}
use Rattle.gm_ways.specs.Ways.{ways}
use Rattle.gm_ways.specs.WayPictures.{way_picture}

pub way_right : (v : Variant) → IsRight 9 (ways v) (way_picture v)
unfolding faults square_symmetries way_picture
way_right Shisima = right refl refl refl refl refl refl refl refl refl refl refl refl refl (λ ps t w. w)
way_right Tapatan = right refl refl refl refl refl refl refl refl refl refl refl refl refl (λ ps t w. w)
way_right MuTorere = right refl refl refl refl refl refl refl refl refl refl refl refl refl (λ ps t w. w)
