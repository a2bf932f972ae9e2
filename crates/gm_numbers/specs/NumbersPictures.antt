-- What Nim and Chomp look like: the four numbers of a position under the names of heaps or rows.
use Rattle.std.specs.Prelude.{ℕ, ◌+◌, ◌/◌, ◌%◌, Bool, ◌==◌, List, [], ◌∷◌, map, codes, if◌then◌else◌}
use Rattle.std.specs.List.{range_with_len}
use Rattle.gm_draw.specs.declared.pictured.Style.TheVariants.{Digits}
use Rattle.gm_draw.specs.Pictures.{PictureSpec, player_moves}
use Rattle.gm_draw.specs.GameSpecs.{GameSpec, game_spec}
use Rattle.gm_numbers.specs.Nim.{nim_rules, nim_text, nim_move}
use Rattle.gm_numbers.specs.Chomp.{chomp_rules, chomp_text, chomp_move}

-- a text has the four numbers in the places 0, 2, 4 and 6, and spaces between them. The names of these places are those of the heaps or rows, from 1; the names of
-- the spaces are the numbers that no heap or row has
abbrev pub place_name : ℕ → List ℕ
place_name k = (if k % 2 == 0 then 49 + k / 2 else 53 + k / 2) ∷ []

unfoldable pub number_places : List (List ℕ)
number_places = map place_name (range_with_len 0 7)

unfoldable pub nim_title : Bool → List ℕ
nim_title misere = if misere then codes "Nim, misere" else codes "Nim"

unfoldable pub nim_picture : Bool → PictureSpec
nim_picture misere = record {
  title = nim_title misere;
  style = Digits;
  board = codes "heap      1   2   3   4\ncounters  A B C D E F G";
  rows = [];
  points = number_places;
  mover = player_moves;
  naming = codes "A position is how many counters are left in the\nfour heaps, as 1 3 5 7. A move is a heap and how\nmany counters are taken from it, as 2-3.\n";
}

abbrev pub nim_spec : Bool → GameSpec
nim_spec misere = game_spec (nim_rules misere) nim_text nim_move (nim_picture misere)

unfoldable pub chomp_picture : PictureSpec
chomp_picture = record {
  title = codes "Chomp";
  style = Digits;
  board = codes "row      1   2   3   4\nsquares  A B C D E F G";
  rows = [];
  points = number_places;
  mover = player_moves;
  naming = codes "A position is how long the four rows of the bar\nare, the top row first, as 7 7 3 1. A move is the\nrow and the column of a square, as 2-5: this\nsquare is bitten off, with all to the right and\nbelow.\n";
}

abbrev pub chomp_spec : GameSpec
chomp_spec = game_spec chomp_rules chomp_text chomp_move chomp_picture
