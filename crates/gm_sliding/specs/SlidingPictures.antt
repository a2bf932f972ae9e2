-- What these games look like.
use Rattle.std.specs.Prelude.{ℕ, List, ◌++◌, codes}
use Rattle.gm_draw.specs.declared.pictured.Style.TheVariants.{Stones}
use Rattle.gm_draw.specs.Pictures.{PictureSpec}
use Rattle.gm_draw.specs.GameSpecs.{GameSpec}
use Rattle.gm_draw.specs.Points.{square_naming}
use Rattle.gm_patterns.specs.PatternPictures.{pattern_spec, on_square}
pub use Rattle.gm_morris.specs.NinePicture.{nine_holes_spec, picaria_spec}
use Rattle.gm_sliding.specs.HexapawnRules.{hexapawn, hexapawn_four}
use Rattle.gm_sliding.specs.ClobberRules.{clobber}
use Rattle.gm_sliding.specs.KonoRules.{kono}

-- how moves from cell to cell are written
abbrev pub slide_naming : List ℕ
slide_naming = square_naming ++ codes "A move is from one cell to another.\n"

-- the same where men go one way
abbrev pub pawn_naming : List ℕ
pawn_naming = square_naming ++ codes "The side to move goes up.\nA move is from one cell to another.\n"

unfoldable pub hexapawn_picture : PictureSpec
hexapawn_picture = on_square 3 Stones (codes "Hexapawn") (codes "x") pawn_naming

abbrev pub hexapawn_spec : GameSpec
hexapawn_spec = pattern_spec 9 hexapawn hexapawn_picture

unfoldable pub hexapawn_four_picture : PictureSpec
hexapawn_four_picture = on_square 4 Stones (codes "Hexapawn 4 by 4") (codes "x") pawn_naming

abbrev pub hexapawn_four_spec : GameSpec
hexapawn_four_spec = pattern_spec 16 hexapawn_four hexapawn_four_picture

unfoldable pub clobber_picture : PictureSpec
clobber_picture = on_square 4 Stones (codes "Clobber 4 by 4") (codes "x") slide_naming

abbrev pub clobber_spec : GameSpec
clobber_spec = pattern_spec 16 clobber clobber_picture

unfoldable pub kono_picture : PictureSpec
kono_picture = on_square 4 Stones (codes "Four Field Kono") (codes "x") slide_naming

abbrev pub kono_spec : GameSpec
kono_spec = pattern_spec 16 kono kono_picture
