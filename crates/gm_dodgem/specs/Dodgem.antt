-- The rules of Dodgem on three by three. A side sees its cars go to the right; the other side sees the board across the diagonal, so that its cars come down.
-- A crew is a number of two digits: the cells of a side's two cars as it sees them, the lesser first; 9 is a car that is off the board. A board is the crew of
-- the side to move, and then that of the other: four digits.
use Rattle.std.specs.Prelude.{ℕ, ◌+◌, ◌*◌, ◌/◌, ◌%◌, Bool, not, ◌&&◌, ◌||◌, ◌==◌, nat_lt, List, [], ◌∷◌, ◌++◌, map, slice_index_or, codes, Option, None, Some, if◌then◌else◌}
use Rattle.std.specs.List.{range_with_len}
use Rattle.gm_game.specs.declared.position.End.{End}
use Rattle.gm_game.specs.declared.position.End.TheVariants.{Lose, Win}
use Rattle.gm_game.specs.declared.position.Position.{Position}
use Rattle.gm_game.specs.Rules.{Rules}
use Rattle.gm_board.specs.Squares.{cell_text}
use Rattle.gm_pieces.specs.Small.{SmallGame, small_rules}

-- ---- crews
-- a crew has a car on a cell, or off the board for 9
unfoldable pub holds : ℕ → ℕ → Bool
holds crew k = crew / 10 == k || crew % 10 == k

-- the crew of two cars
unfoldable pub crew_of : ℕ → ℕ → ℕ
crew_of a c = if nat_lt a c then 10 * a + c else 10 * c + a

-- the crew after its car has gone from one cell to another
unfoldable pub driven : ℕ → ℕ → ℕ → ℕ
driven crew a c = if crew / 10 == a then crew_of c (crew % 10) else crew_of (crew / 10) c

-- whether a number is that of a crew: the lesser cell comes first, and 99 is both cars off the board
unfoldable pub is_crew : ℕ → Bool
is_crew crew = nat_lt (crew / 10) (crew % 10) || crew == 99

-- ---- the board
-- a cell as the other side sees it
unfoldable pub across : ℕ → ℕ
across k = 3 * (k % 3) + k / 3

-- whether a car can go from one cell to another: to the right, up or down, and from the last column off the board
unfoldable pub leads : ℕ → ℕ → Bool
leads a c = if c == 9 then a % 3 == 2 else ((a + 1 == c && not (a % 3 == 2)) || (a + 3 == c || c + 3 == a))

-- whether the other side's crew leaves a cell free
unfoldable pub is_clear : ℕ → ℕ → Bool
is_clear theirs k = k == 9 || not (holds theirs (across k))

-- a legal board has two crews that are on different cells, and the side to move has a car on the board
unfoldable pub legal : ℕ → Bool
legal b = is_crew (b / 100) && (is_crew (b % 100) && (is_clear (b % 100) (b / 1000) && is_clear (b % 100) (b / 100 % 10)))

-- ---- moves: 10 times the cell that a car leaves, and the cell to which it goes
unfoldable pub can_move : ℕ → ℕ → Bool
can_move b m = holds (b / 100) (m / 10) && (leads (m / 10) (m % 10) && (is_clear (b % 100) (m % 10) && (m % 10 == 9 || not (holds (b / 100) (m % 10)))))

unfoldable pub moved : ℕ → ℕ → ℕ
moved b m = b % 100 * 100 + driven (b / 100) (m / 10) (m % 10)

unfoldable pub can_have_led_here : ℕ → ℕ → Bool
can_have_led_here d m = holds (d % 100) (m % 10) && (leads (m / 10) (m % 10) && (is_clear (d / 100) (m / 10) && not (holds (d % 100) (m / 10))))

unfoldable pub undo : ℕ → ℕ → ℕ
undo d m = driven (d % 100) (m % 10) (m / 10) * 100 + d / 100

-- whoever has both cars off the board has won
unfoldable pub end_by_last_move : ℕ → Option End
end_by_last_move b = if b % 100 == 99 then Some Lose else None

-- ---- texts
-- the byte of a cell, as the side to move sees it
unfoldable pub cell_byte : ℕ → ℕ → ℕ
cell_byte b k = if holds (b / 100) k then 120 else (if holds (b % 100) (across k) then 111 else 46)

unfoldable pub board_text : ℕ → List ℕ
board_text b = map (cell_byte b) (range_with_len 0 9)

-- a move off the board is the cell that the car leaves
unfoldable pub step_text : ℕ → List ℕ
step_text m = cell_text 3 (m / 10) ++ (if m % 10 == 9 then [] else 45 ∷ cell_text 3 (m % 10))

abbrev pub dodgem_text : Position → List ℕ
dodgem_text p = board_text p.index

abbrev pub dodgem_move : Position → ℕ → List ℕ
dodgem_move p m = step_text m

-- ---- texts read back
-- the cell, where the byte of a place is the mark, or what the other places say
unfoldable pub marked_or : List ℕ → ℕ → ℕ → ℕ → ℕ → ℕ
marked_or text mark place k rest = if slice_index_or text place 0 == mark then k else rest

-- the crew with a mark: the first and the last cell that have it
unfoldable pub crew_in : List ℕ → ℕ → List ℕ → ℕ
crew_in text mark places =
    let first = marked_or text mark (slice_index_or places 0 0) 0 (marked_or text mark (slice_index_or places 1 0) 1 (marked_or text mark (slice_index_or places 2 0) 2 (marked_or text mark (slice_index_or places 3 0) 3 (marked_or text mark (slice_index_or places 4 0) 4 (marked_or text mark (slice_index_or places 5 0) 5 (marked_or text mark (slice_index_or places 6 0) 6 (marked_or text mark (slice_index_or places 7 0) 7 (marked_or text mark (slice_index_or places 8 0) 8 9)))))))) in
    let last = marked_or text mark (slice_index_or places 8 0) 8 (marked_or text mark (slice_index_or places 7 0) 7 (marked_or text mark (slice_index_or places 6 0) 6 (marked_or text mark (slice_index_or places 5 0) 5 (marked_or text mark (slice_index_or places 4 0) 4 (marked_or text mark (slice_index_or places 3 0) 3 (marked_or text mark (slice_index_or places 2 0) 2 (marked_or text mark (slice_index_or places 1 0) 1 (marked_or text mark (slice_index_or places 0 0) 0 9)))))))) in
    if first == last then 10 * first + 9 else 10 * first + last

unfoldable pub number_in : List ℕ → ℕ
number_in text = crew_in text 120 (0 ∷ 1 ∷ 2 ∷ 3 ∷ 4 ∷ 5 ∷ 6 ∷ 7 ∷ 8 ∷ []) * 100 + crew_in text 111 (0 ∷ 3 ∷ 6 ∷ 1 ∷ 4 ∷ 7 ∷ 2 ∷ 5 ∷ 8 ∷ [])

-- ---- the game
abbrev pub dodgem_name : List ℕ
dodgem_name = codes "dodgem" ++ 0 ∷ 0 ∷ 0 ∷ 0 ∷ 0 ∷ 0 ∷ 0 ∷ 0 ∷ 0 ∷ 0 ∷ []

-- Dodgem: one must leave the other side a move, so that a player who can't move wins
abbrev pub dodgem : SmallGame
dodgem = record {
  name = dodgem_name;
  size = 9900;
  bound = 90;
  start = 3636;
  legal = legal;
  over = end_by_last_move;
  stuck = Win;
  can_move = can_move;
  moved = moved;
  can_have_led_here = can_have_led_here;
  undo = undo;
  text = board_text;
  told = number_in;
  step_text = step_text;
}

abbrev pub dodgem_rules : Rules
dodgem_rules = small_rules dodgem
