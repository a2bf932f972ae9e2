-- What the games of the program look like: rows of numbers, in which the current one is in brackets, and its moves follow.
use Rattle.std.specs.Prelude.{[], ◌∷◌}
use Rattle.gm_toys.specs.Lower.{codes, Row, PictureSpec, player_moves, GameSpec, game_spec, number_points}
use Rattle.gm_toys.specs.Subtraction.{number_text, step_text}
use Rattle.gm_toys.specs.Countdown.{countdown}
use Rattle.gm_toys.specs.Takeaway.{takeaway}
use Rattle.gm_toys.specs.Wheel.{wheel, target_text}

unfoldable pub countdown_picture : PictureSpec
countdown_picture = record {
  title = codes "Countdown";
  style = Row;
  board = codes "0 1 2 3 4 5 6 7 8 9 10";
  rows =
      codes "[0] 1 2 3 4 5 6 7 8 9 10"
      ∷ codes "0 [1] 2 3 4 5 6 7 8 9 10     take 1"
      ∷ codes "0 1 [2] 3 4 5 6 7 8 9 10     take 1 or 2"
      ∷ codes "0 1 2 [3] 4 5 6 7 8 9 10     take 1 or 2"
      ∷ codes "0 1 2 3 [4] 5 6 7 8 9 10     take 1 or 2"
      ∷ codes "0 1 2 3 4 [5] 6 7 8 9 10     take 1 or 2"
      ∷ codes "0 1 2 3 4 5 [6] 7 8 9 10     take 1 or 2"
      ∷ codes "0 1 2 3 4 5 6 [7] 8 9 10     take 1 or 2"
      ∷ codes "0 1 2 3 4 5 6 7 [8] 9 10     take 1 or 2"
      ∷ codes "0 1 2 3 4 5 6 7 8 [9] 10     take 1 or 2"
      ∷ codes "0 1 2 3 4 5 6 7 8 9 [10]     take 1 or 2"
      ∷ [];
  points = number_points 11;
  mover = player_moves;
  naming = codes "A position is a number. A move is how much is\ntaken from it.\n";
}

abbrev pub countdown_spec : GameSpec
countdown_spec = game_spec (countdown 10) number_text step_text countdown_picture

unfoldable pub takeaway_picture : PictureSpec
takeaway_picture = record {
  title = codes "Takeaway";
  style = Row;
  board = codes "0 1 2 3 4 5 6 7 8 9 10 11 12";
  rows =
      codes "[0] 1 2 3 4 5 6 7 8 9 10 11 12"
      ∷ codes "0 [1] 2 3 4 5 6 7 8 9 10 11 12     take 1"
      ∷ codes "0 1 [2] 3 4 5 6 7 8 9 10 11 12     take 1 or 2"
      ∷ codes "0 1 2 [3] 4 5 6 7 8 9 10 11 12     take 1 to 3"
      ∷ codes "0 1 2 3 [4] 5 6 7 8 9 10 11 12     take 1 to 3"
      ∷ codes "0 1 2 3 4 [5] 6 7 8 9 10 11 12     take 1 to 3"
      ∷ codes "0 1 2 3 4 5 [6] 7 8 9 10 11 12     take 1 to 3"
      ∷ codes "0 1 2 3 4 5 6 [7] 8 9 10 11 12     take 1 to 3"
      ∷ codes "0 1 2 3 4 5 6 7 [8] 9 10 11 12     take 1 to 3"
      ∷ codes "0 1 2 3 4 5 6 7 8 [9] 10 11 12     take 1 to 3"
      ∷ codes "0 1 2 3 4 5 6 7 8 9 [10] 11 12     take 1 to 3"
      ∷ codes "0 1 2 3 4 5 6 7 8 9 10 [11] 12     take 1 to 3"
      ∷ codes "0 1 2 3 4 5 6 7 8 9 10 11 [12]     take 1 to 3"
      ∷ [];
  points = number_points 13;
  mover = player_moves;
  naming = codes "A position is the number of counters that are\nleft. A move is how many are taken.\n";
}

abbrev pub takeaway_spec : GameSpec
takeaway_spec = game_spec takeaway number_text step_text takeaway_picture

unfoldable pub wheel_picture : PictureSpec
wheel_picture = record {
  title = codes "Wheel";
  style = Row;
  board = codes "0 1 2 3 4 5 6 7 8 9";
  rows =
      codes "[0] 1 2 3 4 5 6 7 8 9"
      ∷ codes "0 [1] 2 3 4 5 6 7 8 9        1 -> 0 2"
      ∷ codes "0 1 [2] 3 4 5 6 7 8 9        2 -> 1 3"
      ∷ codes "0 1 2 [3] 4 5 6 7 8 9        3 -> 4"
      ∷ codes "0 1 2 3 [4] 5 6 7 8 9        4 -> 3"
      ∷ codes "0 1 2 3 4 [5] 6 7 8 9"
      ∷ codes "0 1 2 3 4 5 [6] 7 8 9        6 -> 0 5"
      ∷ codes "0 1 2 3 4 5 6 [7] 8 9        7 -> 6"
      ∷ codes "0 1 2 3 4 5 6 7 [8] 9        8 -> 3 6"
      ∷ codes "0 1 2 3 4 5 6 7 8 [9]        9 -> 1 7"
      ∷ [];
  points = number_points 10;
  mover = player_moves;
  naming = codes "A position is a number. A move is the number that\nit leads to.\n";
}

abbrev pub wheel_spec : GameSpec
wheel_spec = game_spec wheel number_text target_text wheel_picture
