-- What Dao looks like.
use Rattle.std.specs.Prelude.{[], ◌++◌}
use Rattle.gm_dao.specs.Lower.{codes, Stones, PictureSpec, x_moves, GameSpec, game_spec, square_naming, square_points}
use Rattle.gm_dao.specs.DaoRules.{dao_rules}
use Rattle.gm_dao.specs.Texts.{position_text, move_text}

unfoldable pub dao_picture : PictureSpec
dao_picture = record {
  title = codes "Dao";
  style = Stones;
  board = codes "    1 2 3 4\na   A B C D\nb   E F G H\nc   I J K L\nd   M N O P";
  rows = [];
  points = square_points 4;
  mover = x_moves;
  naming = square_naming ++ codes "A move is from one cell to another; a piece\nslides as far as it can.\n";
}

abbrev pub dao_spec : GameSpec
dao_spec = game_spec dao_rules position_text move_text dao_picture
