-- What games on points look like.
use Rattle.std.specs.Prelude.{List, ℕ, codes}
use Rattle.gm_draw.specs.declared.pictured.Style.TheVariants.{Discs}
use Rattle.gm_draw.specs.Pictures.{PictureSpec}
use Rattle.gm_draw.specs.GameSpecs.{GameSpec}
use Rattle.gm_patterns.specs.PatternPictures.{pattern_spec, on_board}
use Rattle.gm_ways.specs.declared.ways.Variant.{Variant}
use Rattle.gm_ways.specs.declared.ways.Variant.TheVariants.{Shisima, Tapatan, MuTorere}
use Rattle.gm_ways.specs.Ways.{variant_of, ring_names, tapatan, on_ways}

-- a ring: point 0 is at the top, and the ring goes round clockwise
abbrev pub ring_with : List ℕ → PictureSpec
ring_with title = on_board Discs title (codes "H---A---B\n| \\ | / |\nG---I---C\n| / | \\ |\nF---E---D")
    ring_names (codes "x") (codes "Points are named so:\n7---0---1\n| \\ | / |\n6---c---2\n| / | \\ |\n5---4---3\nA position is points 0 to 7 and c: x for the side\nto move, o for the other, . where it is empty.\nA move is from one point to another.\n")

unfoldable pub way_picture : Variant → PictureSpec
way_picture Shisima = ring_with (codes "Shisima")
way_picture MuTorere = ring_with (codes "Mu Torere")
way_picture Tapatan = on_board Discs (codes "Tapatan") (codes "A---B---C\n| \\ | / |\nD---E---F\n| / | \\ |\nG---H---I")
    tapatan.names (codes "x") (codes "Points are named so:\n1---2---3\n| \\ | / |\n4---5---6\n| / | \\ |\n7---8---9\nA position is points 1 to 9: x for the side to\nmove, o for the other, . where it is empty.\nA move is from one point to another.\n")

-- the game with this number
abbrev pub way_spec : ℕ → GameSpec
way_spec n = pattern_spec 9 (on_ways n) (way_picture (variant_of n))

abbrev pub shisima_spec : GameSpec
shisima_spec = way_spec 0

abbrev pub tapatan_spec : GameSpec
tapatan_spec = way_spec 1

abbrev pub mutorere_spec : GameSpec
mutorere_spec = way_spec 2
