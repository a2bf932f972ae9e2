-- What Tac Tix looks like.
use Rattle.std.specs.Prelude.{ℕ, ◌+◌, Bool, ◌==◌, List, [], ◌∷◌, ◌++◌, codes, if◌then◌else◌}
use Rattle.gm_draw.specs.declared.pictured.Style.TheVariants.{Counters}
use Rattle.gm_draw.specs.Pictures.{PictureSpec, player_moves}
use Rattle.gm_draw.specs.GameSpecs.{GameSpec, game_spec}
use Rattle.gm_draw.specs.Points.{square_points}
use Rattle.gm_tactix.specs.Board.{side_of, tactix_rules}
use Rattle.gm_tactix.specs.Texts.{position_text, move_text}

-- the board of Tac Tix, by its side
unfoldable pub tactix_board : ℕ → List ℕ
tactix_board s =
    if s == 5 then codes "    1 2 3 4 5\na   A B C D E\nb   F G H I J\nc   K L M N O\nd   P Q R S T\ne   U V W X Y" else
    if s == 4 then codes "    1 2 3 4\na   A B C D\nb   E F G H\nc   I J K L\nd   M N O P" else
    if s == 3 then codes "    1 2 3\na   A B C\nb   D E F\nc   G H I" else
    if s == 2 then codes "    1 2\na   A B\nb   C D" else
    codes "    1\na   A"

unfoldable pub tactix_title : ℕ → Bool → List ℕ
tactix_title s misere = codes "Tac Tix " ++ (48 + s) ∷ codes " by " ++ (48 + s) ∷ (if misere then codes ", misere" else [])

-- Tac Tix on a square of side s
unfoldable pub tactix_picture : ℕ → Bool → PictureSpec
tactix_picture s misere = record {
  title = tactix_title s misere;
  style = Counters;
  board = tactix_board s;
  rows = [];
  points = square_points s;
  mover = player_moves;
  naming = codes "A cell is its row and its column, as a1.\nA position is its cells, row by row: x for a\ncounter, . where there is none.\nA move is the counter that is taken, or the first\nand the last of neighbors in a row or a column.\n";
}

-- Tac Tix on a square of side n, by the misère rule or the normal one
abbrev pub tactix_spec : ℕ → Bool → GameSpec
tactix_spec n misere = game_spec (tactix_rules n misere) (position_text n) (move_text n) (tactix_picture (side_of n) misere)
