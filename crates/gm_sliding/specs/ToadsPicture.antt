-- What Toads and Frogs looks like, made of tables/toads.game by tools/new_game.
use Rattle.std.specs.Prelude.{codes}
use Rattle.gm_draw.specs.declared.pictured.Style.TheVariants.{Stones}
use Rattle.gm_draw.specs.Pictures.{PictureSpec}
use Rattle.gm_draw.specs.GameSpecs.{GameSpec}
use Rattle.gm_patterns.specs.PatternPictures.{pattern_spec, on_board}
use Rattle.gm_sliding.specs.ToadsRules.{toads}

unfoldable pub toads_picture : PictureSpec
toads_picture = on_board Stones (codes "Toads and Frogs") (codes "a b c d e f g h i j k\nA B C D E F G H I J K")
    toads.names (codes "x") (codes "A cell is its letter.\nA position is its cells from a to k: x for the\nside to move, which goes right, o for the other,\n. where it is empty.\nA move is from one cell to another.\n")

abbrev pub toads_spec : GameSpec
toads_spec = pattern_spec 11 toads toads_picture
