-- King and rook, or king and queen, against king, by the laws of chess. A square is a number below 64: eight times its row, plus its file.
use Rattle.std.specs.Prelude.{ℕ, zero, suc, ◌+◌, ◌-◌, ◌*◌, ◌/◌, ◌%◌, Bool, true, false, not, ◌&&◌, ◌||◌, ◌==◌, nat_lt, List, [], ◌∷◌, ◌++◌, codes, length, slice_index, Option, None, Some, if◌then◌else◌}
use Rattle.std.specs.List.{list_any, range_with_len}
use Rattle.gm_game.specs.declared.position.End.{End}
use Rattle.gm_game.specs.declared.position.End.TheVariants.{Lose, Tie}
use Rattle.gm_game.specs.Rules.{Rules}
use Rattle.gm_pieces.specs.MoveGames.{MoveGame, move_rules}
use Rattle.gm_squares.specs.Squares.{goes_on_board, beside, square_text, square_in}
use Rattle.gm_squares.specs.declared.men.Men.{Men}

-- ---- squares
-- the square of a man that has been taken
abbrev pub TAKEN : ℕ
TAKEN = 64

-- ways are numbers, as specs/Squares.antt of gm_squares has them
abbrev pub rook_ways : List ℕ
rook_ways = 1 ∷ 3 ∷ 5 ∷ 7 ∷ []

abbrev pub all_ways : List ℕ
all_ways = 0 ∷ 1 ∷ 2 ∷ 3 ∷ 5 ∷ 6 ∷ 7 ∷ 8 ∷ []

-- the next n squares from a square on a way, up to the edge of the board
unfoldable pub ray : ℕ → ℕ → ℕ → List ℕ
ray zero d s = []
ray (suc n) d s = if goes_on_board d s then beside d s ∷ ray n d (beside d s) else []

-- whether a man that goes along these squares reaches a square, with men on two others that stop it
unfoldable pub reaches : List ℕ → ℕ → ℕ → ℕ → Bool
reaches [] c u v = false
reaches (x ∷ xs) c u v = x == c || (not (x == u || x == v) && reaches xs c u v)

-- whether a man that goes up to n squares on each of these ways attacks one square from another, with men on u and v
abbrev pub attacks : ℕ → List ℕ → ℕ → ℕ → ℕ → ℕ → Bool
attacks n ways a c u v = list_any (λ d. reaches (ray n d a) c u v) ways

-- a king goes one square on any way
unfoldable pub king_attacks : ℕ → ℕ → Bool
king_attacks a c = attacks 1 all_ways a c TAKEN TAKEN

-- a queen goes any number of squares on all ways, a rook on rows and files
abbrev pub piece_ways : Bool → List ℕ
piece_ways queen = if queen then all_ways else rook_ways

unfoldable pub piece_attacks : Bool → ℕ → ℕ → ℕ → ℕ → Bool
piece_attacks q a c u v = attacks 7 (piece_ways q) a c u v

-- ---- boards
-- the black king is attacked
unfoldable pub in_check : Bool → Men → Bool
in_check q b = piece_attacks q b.piece b.foe b.king b.king

-- the men are on different squares of the board, the kings are apart, and the side that has moved is not in check; bare kings are the result of a move of
-- black's
unfoldable pub legal : Bool → Men → Bool
legal q b = nat_lt b.king 64 && (nat_lt b.foe 64 && (not (b.king == b.foe) && (not (king_attacks b.king b.foe)
    && (if b.piece == TAKEN then b.white_moves
    else (nat_lt b.piece 64 && (not (b.piece == b.king) && (not (b.piece == b.foe) && not (b.white_moves && in_check q b))))))))

-- ---- moves
-- the number of the move of a man (0 the white king, 1 the rook or queen, 2 the black king) from one square to another
abbrev pub man_step_number : ℕ → ℕ → ℕ → ℕ
man_step_number k a c = 4096 * k + (64 * a + c)

unfoldable pub man : ℕ → ℕ
man m = m / 4096

unfoldable pub from_square : ℕ → ℕ
from_square m = m / 64 % 64

unfoldable pub to_square : ℕ → ℕ
to_square m = m % 64

-- white's king goes to a free square that black's king does not attack
unfoldable pub king_can : Men → ℕ → ℕ → Bool
king_can b a c = a == b.king && (king_attacks a c && (not (c == b.piece) && not (king_attacks c b.foe)))

-- the rook or queen goes to a free square along free ones
unfoldable pub piece_can : Bool → Men → ℕ → ℕ → Bool
piece_can q b a c = a == b.piece && (piece_attacks q a c b.king b.foe && (not (c == b.king) && not (c == b.foe)))

-- black's king goes to a square that is not attacked after it has left its own; it may take the rook or queen
unfoldable pub foe_can : Bool → Men → ℕ → ℕ → Bool
foe_can q b a c = a == b.foe && (king_attacks a c && (not (king_attacks b.king c) && (c == b.piece || not (piece_attacks q b.piece c b.king b.king))))

unfoldable pub can_move : Bool → Men → ℕ → Bool
can_move q b m =
    if b.white_moves then
    ((man m == 0 && king_can b (from_square m) (to_square m)) || (man m == 1 && piece_can q b (from_square m) (to_square m)))
    else (man m == 2 && foe_can q b (from_square m) (to_square m))

abbrev pub king_gone : Men → ℕ → Men
king_gone b c = record { white_moves = false; king = c; piece = b.piece; foe = b.foe }

abbrev pub piece_gone : Men → ℕ → Men
piece_gone b c = record { white_moves = false; king = b.king; piece = c; foe = b.foe }

abbrev pub foe_gone : Men → ℕ → Men
foe_gone b c = record { white_moves = true; king = b.king; piece = if c == b.piece then TAKEN else b.piece; foe = c }

unfoldable pub moved : Men → ℕ → Men
moved b m =
    if man m == 0 then king_gone b (to_square m)
    else (if man m == 1 then piece_gone b (to_square m) else foe_gone b (to_square m))

-- ---- moves back
unfoldable pub can_have_led_here : Men → ℕ → Bool
can_have_led_here d m =
    if d.white_moves then man m == 2 && to_square m == d.foe
    else ((man m == 0 && to_square m == d.king) || (man m == 1 && to_square m == d.piece))

abbrev pub king_back : Men → ℕ → Men
king_back d a = record { white_moves = true; king = a; piece = d.piece; foe = d.foe }

abbrev pub piece_back : Men → ℕ → Men
piece_back d a = record { white_moves = true; king = d.king; piece = a; foe = d.foe }

-- if the rook or queen has been taken, it is put back on the square of the black king
abbrev pub foe_back : Men → ℕ → Men
foe_back d a = record { white_moves = false; king = d.king; piece = if d.piece == TAKEN then d.foe else d.piece; foe = a }

unfoldable pub undo : Men → ℕ → Men
undo d m =
    if man m == 0 then king_back d (from_square m)
    else (if man m == 1 then piece_back d (from_square m) else foe_back d (from_square m))

-- ---- ends
-- bare kings are a tie at once
unfoldable pub end_by_last_move : Men → Option End
end_by_last_move b = if b.piece == TAKEN then Some Tie else None

-- a side without a move is mated if it is in check, and otherwise stalemated
unfoldable pub end_if_no_move : Bool → Men → End
end_if_no_move q b = if not b.white_moves && in_check q b then Lose else Tie

-- ---- symmetries: a number below 8 encodes whether rows are reversed, whether files are reversed, and whether rows and files are exchanged
abbrev pub reversed_if : Bool → ℕ → ℕ
reversed_if x k = if x then 7 - k else k

abbrev pub exchanged_if : Bool → ℕ → ℕ → ℕ
exchanged_if x r f = if x then 8 * f + r else 8 * r + f

unfoldable pub image_square : ℕ → ℕ → ℕ
image_square x s = if s == TAKEN then TAKEN else exchanged_if (x / 4 == 1) (reversed_if (x % 2 == 1) (s / 8)) (reversed_if (x / 2 % 2 == 1) (s % 8))

abbrev pub image : ℕ → Men → Men
image x b = record { white_moves = b.white_moves; king = image_square x b.king; piece = image_square x b.piece; foe = image_square x b.foe }

-- ---- the numbering: tier 1 has three men, tier 0 bare kings
abbrev pub turn_of : Bool → ℕ
turn_of white_moves = if white_moves then 0 else 1

unfoldable pub tier : Men → ℕ
tier b = if b.piece == TAKEN then 0 else 1

unfoldable pub index : Men → ℕ
index b = if b.piece == TAKEN then 64 * b.king + b.foe else ((turn_of b.white_moves * 64 + b.king) * 64 + b.piece) * 64 + b.foe

unfoldable pub board : ℕ → ℕ → Men
board t i =
    if t == 0 then record { white_moves = true; king = i / 64 % 64; piece = TAKEN; foe = i % 64 }
    else record { white_moves = i / 262144 == 0; king = i / 4096 % 64; piece = i / 64 % 64; foe = i % 64 }

unfoldable pub size : ℕ → ℕ
size t = if t == 0 then 4096 else (if t == 1 then 524288 else 0)

unfoldable pub child_tiers : ℕ → List ℕ
child_tiers t = if t == 1 then 0 ∷ [] else []

-- ---- texts
abbrev pub piece_char : Bool → ℕ
piece_char queen = if queen then 81 else 82

unfoldable pub board_text : Bool → Men → List ℕ
board_text q b =
    75 ∷ square_text b.king ++ (if b.piece == TAKEN then [] else 32 ∷ piece_char q ∷ square_text b.piece)
    ++ 32 ∷ 107 ∷ square_text b.foe ++ 32 ∷ (if b.white_moves then 119 else 98) ∷ []

-- the board with a text, if there is one
unfoldable pub told : List ℕ → Men
told t =
    if length t == 13 then record { white_moves = slice_index t 12 == 119; king = square_in t 1; piece = square_in t 5; foe = square_in t 9 }
    else record { white_moves = true; king = square_in t 1; piece = TAKEN; foe = square_in t 5 }

abbrev pub man_char : Bool → ℕ → ℕ
man_char q k = if k == 0 then 75 else (if k == 1 then piece_char q else 107)

unfoldable pub step_text : Bool → ℕ → List ℕ
step_text q m = man_char q (man m) ∷ square_text (from_square m) ++ 45 ∷ square_text (to_square m)

-- ---- the game
abbrev pub chess_name : Bool → List ℕ
chess_name queen = if queen then codes "kqk" ++ 0 ∷ 0 ∷ 0 ∷ 0 ∷ 0 ∷ 0 ∷ 0 ∷ 0 ∷ 0 ∷ 0 ∷ 0 ∷ 0 ∷ 0 ∷ [] else codes "krk" ++ 0 ∷ 0 ∷ 0 ∷ 0 ∷ 0 ∷ 0 ∷ 0 ∷ 0 ∷ 0 ∷ 0 ∷ 0 ∷ 0 ∷ 0 ∷ []

-- Ke1, the rook or queen on a1, ke8, and white to move
abbrev pub start : Men
start = record { white_moves = true; king = 4; piece = 0; foe = 60 }

abbrev pub ending : Bool → MoveGame Men ℕ
ending q = record {
  name = chess_name q;
  start = start;
  legal = legal q;
  end_by_last_move = end_by_last_move;
  end_if_no_move = end_if_no_move q;
  move_number_bound = λ t. 12288;
  can_move = can_move q;
  moved = moved;
  can_have_led_here = λ t d m. can_have_led_here d m;
  undo = λ t d m. undo d m;
  symmetries = range_with_len 0 8;
  image = image;
  tier = tier;
  index = index;
  board = board;
  size = size;
  child_tiers = child_tiers;
  tier_rank = λ t. t;
}

abbrev pub chess_rules : Bool → Rules
chess_rules q = move_rules (ending q)
