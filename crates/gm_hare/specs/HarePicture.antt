-- What Hare and Hounds looks like.
use Rattle.std.specs.Prelude.{ℕ, Bool, List, [], map, codes, if◌then◌else◌}
use Rattle.std.specs.List.{range_with_len}
use Rattle.gm_game.specs.declared.position.Position.{Position}
use Rattle.gm_draw.specs.declared.pictured.Style.TheVariants.{Letters}
use Rattle.gm_draw.specs.Pictures.{PictureSpec}
use Rattle.gm_draw.specs.GameSpecs.{GameSpec, game_spec}
use Rattle.gm_hare.specs.Board.{hunt_board, hare_rules}
use Rattle.gm_hare.specs.Texts.{point_name, position_text, move_text}

-- the names of the points
unfoldable pub hare_points : List (List ℕ)
hare_points = map point_name (range_with_len 0 11)

-- the side to move
abbrev pub hunt_mover : Bool → List ℕ
hunt_mover hounds = if hounds then codes "hounds" else codes "hare"

abbrev pub hare_mover : Position → List ℕ
hare_mover p = hunt_mover (hunt_board p.index).hounds_move

-- the hounds begin on the left
unfoldable pub hare_picture : PictureSpec
hare_picture = record {
  title = codes "Hare and Hounds";
  style = Letters;
  board = codes "      B---E---H\n    / | \\ | / | \\\n  A---C---F---I---K\n    \\ | / | \\ | /\n      D---G---J";
  rows = [];
  points = hare_points;
  mover = hare_mover;
  naming = codes "Points are named so:\n     T1--T2--T3\n   / | \\ | / | \\\n  L--M1--M2--M3--R\n   \\ | / | \\ | /\n     B1--B2--B3\nA position is L T1 M1 B1 T2 M2 B2 T3 M3 B3 R:\nd for a hound, h for the hare, . where it is\nempty; then a space, and d or h for who moves.\nA move is from one point to another.\n";
}

abbrev pub hare_spec : GameSpec
hare_spec = game_spec hare_rules position_text move_text hare_picture
