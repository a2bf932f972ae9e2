-- What these games look like.
use Rattle.std.specs.Prelude.{ℕ, Bool, true, false, List, ◌++◌, codes, if◌then◌else◌}
use Rattle.gm_draw.specs.declared.pictured.Style.TheVariants.{Counters}
use Rattle.gm_draw.specs.Pictures.{PictureSpec}
use Rattle.gm_draw.specs.GameSpecs.{GameSpec}
use Rattle.gm_patterns.specs.PatternPictures.{pattern_spec, on_board, on_square, common_naming}
use Rattle.gm_dominoes.specs.DominoRules.{domineering_four, domineering_five, cram_four, cram_five}
use Rattle.gm_dominoes.specs.KaylesRules.{kayles}

-- how dominoes are written
abbrev pub domino_naming : List ℕ
domino_naming = common_naming ++ codes "A move is the two cells of a domino.\n"

unfoldable pub domino_four_picture : Bool → PictureSpec
domino_four_picture cram = on_square 4 Counters (if cram then codes "Cram 4 by 4" else codes "Domineering 4 by 4") (codes "player") domino_naming

abbrev pub domineering_four_spec : GameSpec
domineering_four_spec = pattern_spec 16 domineering_four (domino_four_picture false)

abbrev pub cram_four_spec : GameSpec
cram_four_spec = pattern_spec 16 cram_four (domino_four_picture true)

unfoldable pub domino_five_picture : Bool → PictureSpec
domino_five_picture cram = on_square 5 Counters (if cram then codes "Cram 5 by 5" else codes "Domineering 5 by 5") (codes "player") domino_naming

abbrev pub domineering_five_spec : GameSpec
domineering_five_spec = pattern_spec 25 domineering_five (domino_five_picture false)

abbrev pub cram_five_spec : GameSpec
cram_five_spec = pattern_spec 25 cram_five (domino_five_picture true)

unfoldable pub kayles_picture : PictureSpec
kayles_picture = on_board Counters (codes "Kayles") (codes "a b c d e f g h i j k l\nA B C D E F G H I J K L")
    kayles.names (codes "player") (codes "A pin is its letter.\nA position is the pins from a to l: x for a pin\nthat stands, . for one that is taken.\nA move is a pin, or two.\n")

abbrev pub kayles_spec : GameSpec
kayles_spec = pattern_spec 12 kayles kayles_picture
