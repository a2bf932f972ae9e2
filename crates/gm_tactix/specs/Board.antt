-- The rules of Tac Tix on boards: a board is a list that tells for each cell, the lowest first, whether it has a counter.
use Rattle.std.specs.Prelude.{ℕ, ◌+◌, ◌-◌, ◌*◌, Bool, true, false, not, ◌&&◌, ◌||◌, ◌==◌, nat_le, List, [], ◌∷◌, ◌++◌, map, reverse, replicate, length, slice_index_or, codes, if◌then◌else◌, Option, None, Some}
use Rattle.std.specs.List.{list_all, list_any, range_with_len}
use Rattle.gm_game.specs.declared.position.End.{End}
use Rattle.gm_game.specs.declared.position.End.TheVariants.{Lose, Win}
use Rattle.gm_game.specs.Rules.{Rules}
use Rattle.gm_board.specs.Binomials.{binomial}
use Rattle.gm_board.specs.Ranks.{members, rank, unrank}
use Rattle.gm_board.specs.Permutations.{permute}
use Rattle.gm_board.specs.Squares.{square_symmetries}
use Rattle.gm_pieces.specs.MoveGames.{MoveGame, move_rules}
use Rattle.gm_tactix.specs.Segments.{is_segment, segment_cells, segment_length, move_number_bound}

-- the side of the square in the game for N: N if it is 1 to 5, and 1 for any other N
unfoldable pub side_of : ℕ → ℕ
side_of n = if nat_le 1 n && nat_le n 5 then n else 1

-- whether a cell has a counter
abbrev pub has_counter : List Bool → ℕ → Bool
has_counter b k = slice_index_or b k false

-- whether all of these cells have a counter
abbrev pub is_full : List Bool → List ℕ → Bool
is_full b cells = list_all (has_counter b) cells

-- whether none of these cells has a counter
abbrev pub is_free : List Bool → List ℕ → Bool
is_free b cells = list_all (λ k. not (has_counter b k)) cells

-- whether a cell is one of these
abbrev pub is_among : ℕ → List ℕ → Bool
is_among k cells = list_any (λ c. c == k) cells

-- the board with no counter on these cells
unfoldable pub without : List Bool → List ℕ → List Bool
without b cells = map (λ k. has_counter b k && not (is_among k cells)) (range_with_len 0 (length b))

-- the board with a counter on each of these cells
unfoldable pub with_counters : List Bool → List ℕ → List Bool
with_counters b cells = map (λ k. has_counter b k || is_among k cells) (range_with_len 0 (length b))

-- how the game has ended, if it has, for the player to move: the player who has taken the last counter has won, or in misère lost
abbrev pub end_by_last_move : Bool → List Bool → Option End
end_by_last_move misere b = if members b == 0 then Some (if misere then Win else Lose) else None

-- whether the counters of a segment can be taken
unfoldable pub can_take : ℕ → List Bool → ℕ → Bool
can_take s b m = is_segment s m && is_full b (segment_cells s m)

-- a move takes the counters of its segment
unfoldable pub play : ℕ → List Bool → ℕ → List Bool
play s b m = without b (segment_cells s m)

-- whether taking a segment from a board with t counters can have left d
unfoldable pub was_taken : ℕ → ℕ → List Bool → ℕ → Bool
was_taken s t d m = is_segment s m && (is_free d (segment_cells s m) && (members d + segment_length m == t))

-- the name: `tactix-N` or `tactix-N-misere`, padded with zeros
unfoldable pub tactix_name : ℕ → Bool → List ℕ
tactix_name s misere = codes "tactix-" ++ (48 + s) ∷ (if misere then codes "-misere" ++ 0 ∷ [] else 0 ∷ 0 ∷ 0 ∷ 0 ∷ 0 ∷ 0 ∷ 0 ∷ 0 ∷ [])

-- the index of a board: the rank of its cells with counters
unfoldable pub counters_index : List Bool → ℕ
counters_index b = rank (reverse b)

-- the board of t counters with this index
unfoldable pub counters_at : ℕ → ℕ → ℕ → List Bool
counters_at s t i = reverse (unrank (s * s) t i)

-- the image of a board under a symmetry
abbrev pub counters_image : List ℕ → List Bool → List Bool
counters_image g b = permute false g b

-- Tac Tix on a square of side s: all cells have counters at the start, and the tier is how many are left. While there are counters one of them can be taken, so
-- there is always a move until the game is over
abbrev pub tactix : ℕ → Bool → MoveGame (List Bool) (List ℕ)
tactix s misere = record {
  name = tactix_name s misere;
  start = replicate (s * s) true;
  legal = λ b. length b == s * s;
  end_by_last_move = end_by_last_move misere;
  end_if_no_move = λ b. Lose;
  move_number_bound = λ t. move_number_bound s;
  can_move = can_take s;
  moved = play s;
  can_have_led_here = was_taken s;
  undo = λ t d m. with_counters d (segment_cells s m);
  symmetries = square_symmetries s;
  image = counters_image;
  tier = members;
  index = counters_index;
  board = counters_at s;
  size = λ t. binomial (s * s) t;
  child_tiers = λ t. range_with_len (t - s) (t - (t - s));
  tier_rank = λ t. t;
}

-- the rules of the game for N, normal or misère
abbrev pub tactix_rules : ℕ → Bool → Rules
tactix_rules n misere = move_rules (tactix (side_of n) misere)
