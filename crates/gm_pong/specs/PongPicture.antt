-- What Pong Hau K'i looks like: the two upper points are not joined.
use Rattle.std.specs.Prelude.{codes}
use Rattle.gm_draw.specs.declared.pictured.Style.TheVariants.{Discs}
use Rattle.gm_draw.specs.Pictures.{PictureSpec}
use Rattle.gm_draw.specs.GameSpecs.{GameSpec}
use Rattle.gm_patterns.specs.PatternPictures.{pattern_spec, on_board}
use Rattle.gm_pong.specs.PongRules.{pong}

unfoldable pub pong_picture : PictureSpec
pong_picture = on_board Discs (codes "Pong Hau K'i") (codes "A       B\n| \\   / |\n|   C   |\n| /   \\ |\nD-------E")
    pong.names (codes "x") (codes "Points are named so:\n0       1\n| \\   / |\n|   2   |\n| /   \\ |\n3-------4\nA position is points 0 to 4: x for the side to\nmove, o for the other, . where it is empty.\nA move is from one point to another.\n")

abbrev pub pong_spec : GameSpec
pong_spec = pattern_spec 5 pong pong_picture
