-- The rules of games of rows: on a square of side s the players place pieces by turns, and a line of one side's pieces ends the game.
use Rattle.std.specs.Prelude.{ℕ, ◌+◌, ◌-◌, ◌*◌, ◌==◌, false, List, [], ◌∷◌, ◌++◌, map, replicate, codes}
use Rattle.std.specs.List.{range_with_len}
use Rattle.gm_board.specs.Squares.{square_symmetries}
use Rattle.gm_draw.specs.Points.{square_points}
use Rattle.gm_game.specs.declared.position.End.TheVariants.{Win, Tie}
use Rattle.gm_patterns.specs.Patterns.{mine_on, theirs_on}
use Rattle.gm_patterns.specs.Steps.{place}
use Rattle.gm_patterns.specs.PatternGames.{PatternGame, usual}
use Rattle.gm_patterns.specs.declared.rules.Tiers.TheVariants.{Common}

-- the cells from one on, each so many after the last
abbrev pub run : ℕ → ℕ → ℕ → List ℕ
run s first step = map (λ k. first + step * k) (range_with_len 0 s)

-- the rows, the columns and the two diagonals
abbrev pub lines : ℕ → List (List ℕ)
lines s =
    map (λ k. run s (s * k) 1) (range_with_len 0 s)
    ++ map (λ k. run s k s) (range_with_len 0 s)
    ++ run s 0 (s + 1) ∷ run s (s - 1) (s - 1) ∷ []

-- the game on a square of side s: the player who has made a line has won; a full board without a line is a tie
abbrev pub rows_with : List ℕ → ℕ → PatternGame
rows_with name s = record (usual (s * s)) {
  name = name;
  names = square_points s;
  forbidden = map mine_on (lines s);
  lost = map theirs_on (lines s);
  stuck = Tie;
  symmetries = square_symmetries s;
}

-- Tic-tac-toe on four by four: a line of four wins
abbrev pub tictactoe_four : PatternGame
tictactoe_four = rows_with (codes "tictactoe-4" ++ replicate 5 0) 4

-- Notakto: the pieces belong to both players, and the player who makes a line loses
abbrev pub notakto : PatternGame
notakto = record (rows_with (codes "notakto" ++ replicate 9 0) 3) {
  numbers = λ mine theirs. theirs == 0;
  tiers = Common;
  swapped = false;
  forbidden = [];
  lost = [];
  won = map mine_on (lines 3);
  stuck = Win;
}
