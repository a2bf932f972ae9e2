-- What Connect Four looks like.
use Rattle.std.specs.Prelude.{ℕ, ◌+◌, ◌/◌, ◌%◌, nat_lt, List, [], ◌∷◌, map, codes, if◌then◌else◌}
use Rattle.std.specs.List.{range_with_len}
use Rattle.gm_draw.specs.declared.pictured.Style.TheVariants.{Stones}
use Rattle.gm_draw.specs.Pictures.{PictureSpec, x_moves}
use Rattle.gm_draw.specs.GameSpecs.{GameSpec, game_spec}
use Rattle.gm_connect.specs.declared.size.Size.{Size}
use Rattle.gm_connect.specs.declared.size.Size.TheVariants.{FourByFour, FiveByFour, FourByFive, FourBySix, FiveByFive, SixByFour}
use Rattle.gm_connect.specs.ConnectFour.{connect_rules}
use Rattle.gm_connect.specs.Sizes.{size_of, columns, cells}
use Rattle.gm_connect.specs.Texts.{step_text, position_text}

-- the name of a cell: in the top row the digit of its column, which is also the name of the move that drops a piece there; below, the letter of the row before it
abbrev pub cell_name : Size → ℕ → List ℕ
cell_name s k = if nat_lt k (columns s) then (49 + k) ∷ [] else (97 + k / columns s) ∷ (49 + k % columns s) ∷ []

unfoldable pub cell_names : Size → List (List ℕ)
cell_names s = map (cell_name s) (range_with_len 0 (cells s))

unfoldable pub connect_title : Size → List ℕ
connect_title FourByFour = codes "Connect Four 4 by 4"
connect_title FiveByFour = codes "Connect Four 5 by 4"
connect_title FourByFive = codes "Connect Four 4 by 5"
connect_title FourBySix = codes "Connect Four 4 by 6"
connect_title FiveByFive = codes "Connect Four 5 by 5"
connect_title SixByFour = codes "Connect Four 6 by 4"

unfoldable pub connect_board : Size → List ℕ
connect_board FourByFour = codes "    1 2 3 4\na   A B C D\nb   E F G H\nc   I J K L\nd   M N O P"
connect_board FiveByFour = codes "    1 2 3 4 5\na   A B C D E\nb   F G H I J\nc   K L M N O\nd   P Q R S T"
connect_board FourByFive = codes "    1 2 3 4\na   A B C D\nb   E F G H\nc   I J K L\nd   M N O P\ne   Q R S T"
connect_board FourBySix = codes "    1 2 3 4\na   A B C D\nb   E F G H\nc   I J K L\nd   M N O P\ne   Q R S T\nf   U V W X"
connect_board FiveByFive = codes "    1 2 3 4 5\na   A B C D E\nb   F G H I J\nc   K L M N O\nd   P Q R S T\ne   U V W X Y"
connect_board SixByFour = codes "    1 2 3 4 5 6\na   A B C D E F\nb   G H I J K L\nc   M N O P Q R\nd   S T U V W X"

-- a board with these numbers of columns and rows
unfoldable pub connect_picture : Size → PictureSpec
connect_picture s = record {
  title = connect_title s;
  style = Stones;
  board = connect_board s;
  rows = [];
  points = cell_names s;
  mover = x_moves;
  naming = codes "A cell is its row and its column, as b1; in the\ntop row it is its column.\nA position is its cells, row by row: x for the\nside to move, o for the other, . where it is empty\nA move is the column that a piece is dropped into.\n";
}

-- Connect Four on w columns and h rows
abbrev pub connect_spec : ℕ → ℕ → GameSpec
connect_spec w h = game_spec (connect_rules w h) (position_text (size_of w h)) (λ p c. step_text c) (connect_picture (size_of w h))
