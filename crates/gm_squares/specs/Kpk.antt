-- King and pawn against king, by the laws of chess. When the pawn has become a queen or a rook, the rules are those of specs/Chess.antt; with a bishop or a
-- knight no mate is possible, so the game ends at once.
use Rattle.std.specs.Prelude.{ℕ, ◌+◌, ◌-◌, ◌/◌, Bool, true, false, not, ◌&&◌, ◌||◌, ◌==◌, nat_lt, nat_le, List, [], ◌∷◌, ◌++◌, codes, length, slice_index, Option, None, Some, if◌then◌else◌}
use Rattle.gm_game.specs.declared.position.End.{End}
use Rattle.gm_game.specs.declared.position.End.TheVariants.{Lose, Tie}
use Rattle.gm_game.specs.Rules.{Rules}
use Rattle.gm_pieces.specs.MoveGames.{MoveGame, move_rules}
use Rattle.gm_squares.specs.Squares.{square_text}
use Rattle.gm_squares.specs.declared.men.Men.{Men}
use Rattle.gm_squares.specs.declared.pawns.WhiteMan.{WhiteMan}
use Rattle.gm_squares.specs.declared.pawns.WhiteMan.TheVariants.{Taken, Queen, Rook, Bishop, Knight, Pawn}
use Rattle.gm_squares.specs.declared.pawns.PawnBoard.{PawnBoard}
use Rattle.gm_squares.specs.Chess.{TAKEN, attacks, king_attacks, king_can, piece_gone, piece_back, man, from_square, to_square, told as men_told, index as men_index, board as men_board, legal as men_legal, in_check as men_in_check, can_move as men_can_move, moved as men_moved, can_have_led_here as men_can_have_led_here, undo as men_undo, image as men_image}

-- ---- boards: White's man beside its king, and the squares of the men
-- a pawn attacks the next square up to the left and that up to the right: ways are numbers, as specs/Squares.antt has them
unfoldable pub pawn_attacks : ℕ → ℕ → Bool
pawn_attacks a c = attacks 1 (6 ∷ 8 ∷ []) a c TAKEN TAKEN

-- the men are on different squares of the board, and the kings apart: with Black to move a position of king and rook against king is legal if this is so
abbrev pub black_to_move : Men → Men
black_to_move b = record { white_moves = false; king = b.king; piece = b.piece; foe = b.foe }

abbrev pub are_placed : Men → Bool
are_placed b = men_legal false (black_to_move b)

-- a pawn is on none of the outer rows, and does not attack the black king when White is to move; a bishop or knight is what a pawn has just become, on the last
-- row
unfoldable pub legal_with : WhiteMan → Men → Bool
legal_with Taken b = b.piece == TAKEN && men_legal false b
legal_with Queen b = not (b.piece == TAKEN) && men_legal true b
legal_with Rook b = not (b.piece == TAKEN) && men_legal false b
legal_with Pawn b = are_placed b && (nat_lt 0 (b.piece / 8) && (nat_lt (b.piece / 8) 7 && not (b.white_moves && pawn_attacks b.piece b.foe)))
legal_with kind b = are_placed b && (not b.white_moves && b.piece / 8 == 7)

abbrev pub legal : PawnBoard → Bool
legal b = legal_with b.kind b.men

-- ---- moves of the pawn
abbrev pub is_free : Men → ℕ → Bool
is_free b c = not (c == b.king) && not (c == b.foe)

-- it goes one square up to a free square that is not on the last row, and from the second row also two squares over a free one
unfoldable pub pawn_can : Men → ℕ → ℕ → Bool
pawn_can b a c =
    a == b.piece && (not (a / 8 == 6) && (is_free b c && (c == a + 8 || (a / 8 == 1 && (c == a + 16 && is_free b (a + 8))))))

-- on a free square of the last row it becomes another man
unfoldable pub pawn_promotes : Men → ℕ → ℕ → Bool
pawn_promotes b a c = a == b.piece && (a / 8 == 6 && (c == a + 8 && is_free b c))

-- black's king goes to a square that is not attacked; it may take the pawn
unfoldable pub foe_can_beside_pawn : Men → ℕ → ℕ → Bool
foe_can_beside_pawn b a c = a == b.foe && (king_attacks a c && (not (king_attacks b.king c) && not (pawn_attacks b.piece c)))

-- the man of a move's number is 0 for the white king, 1 for White's other man, 2 for the black king, and 3 to 6 for a pawn that becomes a queen, rook, bishop
-- or knight
unfoldable pub can_move_with_pawn : Men → ℕ → Bool
can_move_with_pawn b m =
    if b.white_moves then
    ((man m == 0 && king_can b (from_square m) (to_square m))
    || ((man m == 1 && pawn_can b (from_square m) (to_square m)) || (nat_le 3 (man m) && pawn_promotes b (from_square m) (to_square m))))
    else (man m == 2 && foe_can_beside_pawn b (from_square m) (to_square m))

unfoldable pub can_move_with : WhiteMan → Men → ℕ → Bool
can_move_with Queen b m = men_can_move true b m
can_move_with Rook b m = men_can_move false b m
can_move_with Pawn b m = can_move_with_pawn b m
can_move_with kind b m = false

abbrev pub can_move : PawnBoard → ℕ → Bool
can_move b m = can_move_with b.kind b.men m

-- ---- the tiers: 0 has the bare kings, 1 a queen, 2 a rook, 3 a bishop, 4 a knight, and 5 the pawn
unfoldable pub tier_with : WhiteMan → ℕ
tier_with Taken = 0
tier_with Queen = 1
tier_with Rook = 2
tier_with Bishop = 3
tier_with Knight = 4
tier_with Pawn = 5

unfoldable pub man_at_tier : ℕ → WhiteMan
man_at_tier t =
    if t == 0 then Taken
    else (if t == 1 then Queen else (if t == 2 then Rook else (if t == 3 then Bishop else (if t == 4 then Knight else Pawn))))

abbrev pub tier : PawnBoard → ℕ
tier b = tier_with b.kind

-- ---- boards after moves
-- what a pawn becomes
abbrev pub promoted : ℕ → WhiteMan
promoted k = man_at_tier (k - 2)

abbrev pub left_of : WhiteMan → Men → WhiteMan
left_of kind b = if b.piece == TAKEN then Taken else kind

unfoldable pub moved : PawnBoard → ℕ → PawnBoard
moved b m =
    if nat_le 3 (man m) then record { kind = promoted (man m); men = piece_gone b.men (to_square m) }
    else record { kind = left_of b.kind (men_moved b.men m); men = men_moved b.men m }

-- ---- moves back
-- a pawn has become the man of this board, or the man was there before, or it has been taken
unfoldable pub can_have_led_here : ℕ → PawnBoard → ℕ → Bool
can_have_led_here t d m =
    if nat_le 3 (man m) then
    (t == 5 && (not d.men.white_moves && (man m == tier d + 2 && (to_square m == d.men.piece && from_square m + 8 == to_square m))))
    else ((tier d == 0 || tier d == t) && men_can_have_led_here d.men m)

unfoldable pub undo : ℕ → PawnBoard → ℕ → PawnBoard
undo t d m =
    if nat_le 3 (man m) then record { kind = Pawn; men = piece_back d.men (from_square m) }
    else record { kind = man_at_tier t; men = men_undo d.men m }

-- ---- ends
-- with bare kings, a bishop or a knight the game is a tie at once
unfoldable pub end_with : WhiteMan → Option End
end_with Queen = None
end_with Rook = None
end_with Pawn = None
end_with kind = Some Tie

abbrev pub end_by_last_move : PawnBoard → Option End
end_by_last_move b = end_with b.kind

-- whether the black king is attacked
unfoldable pub checks : WhiteMan → Men → Bool
checks Queen b = men_in_check true b
checks Rook b = men_in_check false b
checks Pawn b = pawn_attacks b.piece b.foe
checks kind b = false

-- a side without a move is mated if it is in check, and otherwise stalemated
unfoldable pub end_if_no_move : PawnBoard → End
end_if_no_move b = if not b.men.white_moves && checks b.kind b.men then Lose else Tie

-- ---- symmetries: 0, and 2, which reverses the files, of those of specs/Chess.antt
abbrev pub image : ℕ → PawnBoard → PawnBoard
image x b = record { kind = b.kind; men = men_image x b.men }

-- ---- the numbering
abbrev pub index : PawnBoard → ℕ
index b = men_index b.men

abbrev pub board : ℕ → ℕ → PawnBoard
board t i = record { kind = man_at_tier t; men = men_board t i }

unfoldable pub size : ℕ → ℕ
size t = if t == 0 then 4096 else (if nat_lt t 6 then 524288 else 0)

unfoldable pub child_tiers : ℕ → List ℕ
child_tiers t = if t == 5 then 0 ∷ 1 ∷ 2 ∷ 3 ∷ 4 ∷ [] else (if t == 1 || t == 2 then 0 ∷ [] else [])

unfoldable pub move_number_bound : ℕ → ℕ
move_number_bound t = if t == 5 then 28672 else 12288

-- ---- texts
-- the letter of White's man; there is none in the text of a position in which it has been taken
unfoldable pub letter : WhiteMan → ℕ
letter Queen = 81
letter Rook = 82
letter Bishop = 66
letter Knight = 78
letter kind = 80

-- the text of the men, as with a rook or a queen, with the letter of White's man
abbrev pub men_text : ℕ → Men → List ℕ
men_text c b =
    75 ∷ square_text b.king ++ (if b.piece == TAKEN then [] else 32 ∷ c ∷ square_text b.piece)
    ++ 32 ∷ 107 ∷ square_text b.foe ++ 32 ∷ (if b.white_moves then 119 else 98) ∷ []

unfoldable pub board_text : PawnBoard → List ℕ
board_text b = men_text (letter b.kind) b.men

-- the man with a letter
abbrev pub man_of_letter : ℕ → WhiteMan
man_of_letter c = if c == 81 then Queen else (if c == 82 then Rook else (if c == 66 then Bishop else (if c == 78 then Knight else Pawn)))

-- the board with a text, if there is one
unfoldable pub told : List ℕ → PawnBoard
told t = record { kind = if length t == 13 then man_of_letter (slice_index t 4) else Taken; men = men_told t }

-- the letter before a move: that of the man that goes, or which the pawn becomes
unfoldable pub step_letter : ℕ → ℕ → ℕ
step_letter t k = if k == 0 then 75 else (if k == 1 then letter (man_at_tier t) else (if k == 2 then 107 else letter (promoted k)))

unfoldable pub step_text : ℕ → ℕ → List ℕ
step_text t m = step_letter t (man m) ∷ square_text (from_square m) ++ 45 ∷ square_text (to_square m)

-- ---- the game
abbrev pub kpk_name : List ℕ
kpk_name = codes "kpk" ++ 0 ∷ 0 ∷ 0 ∷ 0 ∷ 0 ∷ 0 ∷ 0 ∷ 0 ∷ 0 ∷ 0 ∷ 0 ∷ 0 ∷ 0 ∷ []

-- Ke1, Pe2, ke8, and white to move
abbrev pub kpk_start : PawnBoard
kpk_start = record { kind = Pawn; men = record { white_moves = true; king = 4; piece = 12; foe = 60 } }

abbrev pub kpk : MoveGame PawnBoard ℕ
kpk = record {
  name = kpk_name;
  start = kpk_start;
  legal = legal;
  end_by_last_move = end_by_last_move;
  end_if_no_move = end_if_no_move;
  move_number_bound = move_number_bound;
  can_move = can_move;
  moved = moved;
  can_have_led_here = can_have_led_here;
  undo = undo;
  symmetries = 0 ∷ 2 ∷ [];
  image = image;
  tier = tier;
  index = index;
  board = board;
  size = size;
  child_tiers = child_tiers;
  tier_rank = λ t. t;
}

abbrev pub kpk_rules : Rules
kpk_rules = move_rules kpk
