-- What Dodgem looks like.
use Rattle.std.specs.Prelude.{[], ◌++◌, codes}
use Rattle.gm_draw.specs.declared.pictured.Style.TheVariants.{Stones}
use Rattle.gm_draw.specs.Pictures.{PictureSpec, x_moves}
use Rattle.gm_draw.specs.GameSpecs.{GameSpec, game_spec}
use Rattle.gm_draw.specs.Points.{square_naming, square_points}
use Rattle.gm_dodgem.specs.Dodgem.{dodgem_rules, dodgem_text, dodgem_move}

unfoldable pub dodgem_picture : PictureSpec
dodgem_picture = record {
  title = codes "Dodgem";
  style = Stones;
  board = codes "    1 2 3\na   A B C\nb   D E F\nc   G H I";
  rows = [];
  points = square_points 3;
  mover = x_moves;
  naming = square_naming ++ codes "Your cars go to the right, up or down. A move is\nfrom one cell to the next; a car that leaves the\nboard to the right is written as its cell.\n";
}

abbrev pub dodgem_spec : GameSpec
dodgem_spec = game_spec dodgem_rules dodgem_text dodgem_move dodgem_picture
