-- The rules of Hare and Hounds on boards: a board tells who moves, for each of the eleven points whether a hound is there, and the point of the hare.
use Rattle.std.specs.Prelude.{ℕ, ◌+◌, ◌-◌, ◌*◌, ◌/◌, ◌%◌, Bool, true, false, not, ◌&&◌, ◌||◌, ◌==◌, nat_lt, nat_le, List, [], ◌∷◌, ◌++◌, reverse, length, slice_index_or, slice_set, codes, if◌then◌else◌, Option, None, Some}
use Rattle.std.specs.List.{list_all, list_any, range_with_len}
use Rattle.gm_game.specs.declared.position.End.{End}
use Rattle.gm_game.specs.declared.position.End.TheVariants.{Lose, Win}
use Rattle.gm_game.specs.Rules.{Rules}
use Rattle.gm_board.specs.Ranks.{members, rank, unrank}
use Rattle.gm_board.specs.Permutations.{permute}
use Rattle.gm_pieces.specs.Steps.{from_point, to_point}
use Rattle.gm_pieces.specs.MoveGames.{MoveGame, move_rules}
use Rattle.gm_hare.specs.declared.hunt.Hunt.{Hunt}

-- ---- points
-- the column of each point
abbrev pub columns : List ℕ
columns = 0 ∷ 1 ∷ 1 ∷ 1 ∷ 2 ∷ 2 ∷ 2 ∷ 3 ∷ 3 ∷ 3 ∷ 4 ∷ []

-- the column of a point
unfoldable pub column : ℕ → ℕ
column k = slice_index_or columns k 0

-- the points that an edge joins to each point
abbrev pub edges : List (List ℕ)
edges =
    (1 ∷ 2 ∷ 3 ∷ [])
    ∷ (0 ∷ 2 ∷ 4 ∷ 5 ∷ [])
    ∷ (0 ∷ 1 ∷ 3 ∷ 5 ∷ [])
    ∷ (0 ∷ 2 ∷ 5 ∷ 6 ∷ [])
    ∷ (1 ∷ 5 ∷ 7 ∷ [])
    ∷ (1 ∷ 2 ∷ 3 ∷ 4 ∷ 6 ∷ 7 ∷ 8 ∷ 9 ∷ [])
    ∷ (3 ∷ 5 ∷ 9 ∷ [])
    ∷ (4 ∷ 5 ∷ 8 ∷ 10 ∷ [])
    ∷ (5 ∷ 7 ∷ 9 ∷ 10 ∷ [])
    ∷ (5 ∷ 6 ∷ 8 ∷ 10 ∷ [])
    ∷ (7 ∷ 8 ∷ 9 ∷ [])
    ∷ []

-- whether an edge joins two points
unfoldable pub are_joined : ℕ → ℕ → Bool
are_joined a c = list_any (λ k. k == c) (slice_index_or edges a [])

-- whether the second point is in the next column or in the column of the first
unfoldable pub is_ahead : ℕ → ℕ → Bool
is_ahead a c = column c == column a || column c == column a + 1

-- ---- boards
-- whether a hound is on a point
abbrev pub has_hound : Hunt → ℕ → Bool
has_hound b k = slice_index_or b.hounds k false

-- whether a point is empty
abbrev pub is_free : Hunt → ℕ → Bool
is_free b k = not (has_hound b k) && not (k == b.hare)

-- the sum of the columns of the hounds, on points from k on
abbrev pub columns_from : ℕ → List Bool → ℕ
columns_from k [] = 0
columns_from k (h ∷ hs) = (if h then column k else 0) + columns_from (k + 1) hs

-- the tier of a board: the sum of the columns of its hounds
abbrev pub hunt_tier : Hunt → ℕ
hunt_tier b = columns_from 0 b.hounds

-- the hare has escaped where every hound's column is at least the hare's
unfoldable pub has_escaped : Hunt → Bool
has_escaped b = list_all (λ k. not (has_hound b k) || nat_le (column b.hare) (column k)) (range_with_len 0 11)

-- a legal board has three hounds on eleven points, and the hare on a point without a hound
unfoldable pub legal : Hunt → Bool
legal b = length b.hounds == 11 && (members b.hounds == 3 && (nat_lt b.hare 11 && not (has_hound b b.hare)))

-- ---- moves
-- whether a piece of the side to move can go from one point to another: a hound can't go back, and the hare can go along any edge
abbrev pub can_go : Hunt → ℕ → ℕ → Bool
can_go b a c = are_joined a c && (is_free b c && (if b.hounds_move then (has_hound b a && is_ahead a c) else (a == b.hare)))

-- whether the move with this number could be made if the game were not over
unfoldable pub can_move : Hunt → ℕ → Bool
can_move b m = can_go b (from_point m) (to_point m)

-- all numbers of moves are below this number
abbrev pub move_number_bound : ℕ
move_number_bound = 176

-- the board after a hound, or the hare, has gone from one point to another
abbrev pub hound_gone : Hunt → ℕ → ℕ → Hunt
hound_gone b a c = record { hounds_move = false; hounds = slice_set (slice_set b.hounds a false) c true; hare = b.hare }

abbrev pub hare_gone : Hunt → ℕ → Hunt
hare_gone b c = record { hounds_move = true; hounds = b.hounds; hare = c }

abbrev pub gone : Hunt → ℕ → ℕ → Hunt
gone b a c = if b.hounds_move then hound_gone b a c else hare_gone b c

-- the board after a move, when the other side is to move
unfoldable pub play : Hunt → ℕ → Hunt
play b m = gone b (from_point m) (to_point m)

-- how the last move has ended the game, if it has, for the side to move: by the hare's escape
unfoldable pub end_by_last_move : Hunt → Option End
end_by_last_move b = if has_escaped b then Some (if b.hounds_move then Lose else Win) else None

-- ---- moves back
-- whether a piece of the side that moved last can have gone from one point to another
abbrev pub can_have_gone : Hunt → ℕ → ℕ → Bool
can_have_gone d a c = are_joined a c && (is_free d a && (if d.hounds_move then (c == d.hare) else (has_hound d c && is_ahead a c)))

-- the board before a hound, or the hare, went from one point to another
abbrev pub hound_back : Hunt → ℕ → ℕ → Hunt
hound_back d a c = record { hounds_move = true; hounds = slice_set (slice_set d.hounds c false) a true; hare = d.hare }

abbrev pub hare_back : Hunt → ℕ → Hunt
hare_back d a = record { hounds_move = false; hounds = d.hounds; hare = a }

unfoldable pub undo : Hunt → ℕ → Hunt
undo d m = if d.hounds_move then hare_back d (from_point m) else hound_back d (from_point m) (to_point m)

-- whether the move with this number can have led to the board
unfoldable pub can_have_led_here : Hunt → ℕ → Bool
can_have_led_here d m = can_have_gone d (from_point m) (to_point m)

-- ---- the game
-- for each point, the point that comes in its place when top and bottom are exchanged
abbrev pub mirror : List ℕ
mirror = 0 ∷ 3 ∷ 2 ∷ 1 ∷ 6 ∷ 5 ∷ 4 ∷ 9 ∷ 8 ∷ 7 ∷ 10 ∷ []

abbrev pub mirror_point : ℕ → ℕ
mirror_point k = slice_index_or mirror k 0

-- the board with top and bottom exchanged
abbrev pub mirrored : Hunt → Hunt
mirrored b = record { hounds_move = b.hounds_move; hounds = permute false mirror b.hounds; hare = mirror_point b.hare }

-- 0 if the hounds move, 1 if the hare does
abbrev pub turn_of : Bool → ℕ
turn_of hounds_move = if hounds_move then 0 else 1

-- the index of a board
unfoldable pub hunt_index : Hunt → ℕ
hunt_index b = (turn_of b.hounds_move * 165 + rank (reverse b.hounds)) * 11 + b.hare

-- the board with this index
unfoldable pub hunt_board : ℕ → Hunt
hunt_board i = record { hounds_move = i / 11 / 165 == 0; hounds = reverse (unrank 11 3 (i / 11 % 165)); hare = i % 11 }

-- the name, padded with zeros
abbrev pub hare_name : List ℕ
hare_name = codes "hare" ++ 0 ∷ 0 ∷ 0 ∷ 0 ∷ 0 ∷ 0 ∷ 0 ∷ 0 ∷ 0 ∷ 0 ∷ 0 ∷ 0 ∷ []

-- Hare and Hounds: an escape is tested first, and then a side that can't move has lost; a symmetry tells whether top and bottom are exchanged
abbrev pub hare_and_hounds : MoveGame Hunt Bool
hare_and_hounds = record {
  name = hare_name;
  start = record { hounds_move = true; hounds = true ∷ true ∷ false ∷ true ∷ false ∷ false ∷ false ∷ false ∷ false ∷ false ∷ false ∷ []; hare = 10 };
  legal = legal;
  end_by_last_move = end_by_last_move;
  end_if_no_move = λ b. Lose;
  move_number_bound = λ t. move_number_bound;
  can_move = can_move;
  moved = play;
  can_have_led_here = λ t d m. can_have_led_here d m;
  undo = λ t d m. undo d m;
  symmetries = false ∷ true ∷ [];
  image = λ exchanged b. if exchanged then mirrored b else b;
  tier = hunt_tier;
  index = hunt_index;
  board = λ t i. hunt_board i;
  size = λ t. if (nat_le 2 t && nat_le t 10) then 3630 else 0;
  child_tiers = λ t. if (nat_le 2 t && nat_le t 9) then (t + 1) ∷ [] else [];
  tier_rank = λ t. if (nat_le 2 t && nat_le t 10) then 10 - t else 0;
}

-- the rules of the positions of Hare and Hounds
abbrev pub hare_rules : Rules
hare_rules = move_rules hare_and_hounds
