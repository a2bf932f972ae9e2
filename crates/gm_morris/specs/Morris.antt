-- The rules of the games of nine points: three rows from the top, each from left to right.
use Rattle.std.specs.Prelude.{ℕ, ◌+◌, ◌-◌, ◌/◌, ◌%◌, ◌==◌, ◌&&◌, ◌||◌, nat_le, Bool, true, false, List, [], ◌∷◌, ◌++◌, map, replicate, codes, if◌then◌else◌}
use Rattle.std.specs.List.{range_with_len}
use Rattle.gm_board.specs.Squares.{square_symmetries}
use Rattle.gm_draw.specs.Points.{square_points}
use Rattle.gm_game.specs.declared.position.End.{End}
use Rattle.gm_game.specs.declared.position.End.TheVariants.{Lose, Tie}
use Rattle.gm_patterns.specs.Patterns.{mine_on, theirs_on}
use Rattle.gm_patterns.specs.Steps.{place, slides}
use Rattle.gm_patterns.specs.PatternGames.{PatternGame, usual}
use Rattle.gm_morris.specs.declared.games.Variant.{Variant}
use Rattle.gm_morris.specs.declared.games.Variant.TheVariants.{TicTacToe, TicTacToeMisere, ThreeMens, NineHoles, Achi, Picaria}

-- the game with this number; any other number stands for Tic-tac-toe
unfoldable pub variant_of : ℕ → Variant
variant_of n =
    if n == 1 then TicTacToeMisere else
    if n == 2 then NineHoles else
    if n == 3 then Picaria else
    if n == 6 then ThreeMens else
    if n == 8 then Achi else
    TicTacToe

-- the name, padded with zeros
abbrev pub variant_name : Variant → List ℕ
variant_name TicTacToe = codes "tictactoe" ++ replicate 7 0
variant_name TicTacToeMisere = codes "tictactoe-misere"
variant_name ThreeMens = codes "threemens" ++ replicate 7 0
variant_name NineHoles = codes "nineholes" ++ replicate 7 0
variant_name Achi = codes "achi" ++ replicate 12 0
variant_name Picaria = codes "picaria" ++ replicate 9 0

-- the last tier: the number of pieces from which on no more are placed
abbrev pub last_tier : Variant → ℕ
last_tier TicTacToe = 9
last_tier TicTacToeMisere = 9
last_tier ThreeMens = 6
last_tier NineHoles = 6
last_tier Achi = 8
last_tier Picaria = 6

-- how the game ends for a player who can't move: the board is full in Tic-tac-toe
abbrev pub end_if_no_move : Variant → End
end_if_no_move v = if last_tier v == 9 then Tie else Lose

-- the rows and the columns, and the diagonals
abbrev pub straight_lines : List (List ℕ)
straight_lines = (0 ∷ 1 ∷ 2 ∷ []) ∷ (3 ∷ 4 ∷ 5 ∷ []) ∷ (6 ∷ 7 ∷ 8 ∷ []) ∷ (0 ∷ 3 ∷ 6 ∷ []) ∷ (1 ∷ 4 ∷ 7 ∷ []) ∷ (2 ∷ 5 ∷ 8 ∷ []) ∷ []

abbrev pub diagonals : List (List ℕ)
diagonals = (0 ∷ 4 ∷ 8 ∷ []) ∷ (2 ∷ 4 ∷ 6 ∷ []) ∷ []

-- the lines of each game
abbrev pub lines_of : Variant → List (List ℕ)
lines_of ThreeMens = straight_lines
lines_of NineHoles = straight_lines
lines_of v = straight_lines ++ diagonals

-- how far two numbers are from each other
abbrev pub distance : ℕ → ℕ → ℕ
distance x y = (x - y) + (y - x)

-- whether two points are neighbors in a row or a column, and whether they are on a diagonal
abbrev pub adjoin : ℕ → ℕ → Bool
adjoin a c = distance (a / 3) (c / 3) + distance (a % 3) (c % 3) == 1

abbrev pub are_diagonal : ℕ → ℕ → Bool
are_diagonal a c = distance (a / 3) (c / 3) == 1 && distance (a % 3) (c % 3) == 1

-- whether a piece can move from one point to another in the last tier: in Achi diagonally only between the center and a corner, in Picaria also beside the center
abbrev pub joins : Variant → ℕ → ℕ → Bool
joins TicTacToe a c = false
joins TicTacToeMisere a c = false
joins ThreeMens a c = adjoin a c
joins NineHoles a c = adjoin a c
joins Achi a c = adjoin a c || ((a == 4 || c == 4) && are_diagonal a c)
joins Picaria a c = adjoin a c || are_diagonal a c

-- the ends of a line of the opponent's: the mover has lost, and in misere play has won
abbrev pub is_misere : Variant → Bool
is_misere TicTacToeMisere = true
is_misere v = false

-- the game: each side places pieces by turns up to the last tier, in which they move; a full line ends the game, and else it ends where the player to move can't
abbrev pub morris : Variant → PatternGame
morris v = record (usual 9) {
  name = variant_name v;
  names = square_points 3;
  numbers = λ mine theirs. (mine == theirs || mine + 1 == theirs) && nat_le (mine + theirs) (last_tier v);
  phase = λ pieces. if pieces == last_tier v then 1 else 0;
  phases = map place (range_with_len 0 9) ∷ slides 9 (joins v) ∷ [];
  forbidden = map mine_on (lines_of v);
  lost = if is_misere v then [] else map theirs_on (lines_of v);
  won = if is_misere v then map theirs_on (lines_of v) else [];
  stuck = end_if_no_move v;
  symmetries = square_symmetries 3;
}

-- the game with this number
abbrev pub nine_points : ℕ → PatternGame
nine_points n = morris (variant_of n)

abbrev pub tictactoe_misere : PatternGame
tictactoe_misere = morris TicTacToeMisere

abbrev pub nine_holes : PatternGame
nine_holes = morris NineHoles
