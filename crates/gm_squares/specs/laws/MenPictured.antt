-- The drawings of the chess endings distinguish positions, and their pictures satisfy the laws of pictures.
use Rattle.std.proofs.Common.{◌≡◌, ◌≢◌, ℕ, ◌<◌, Bool, true, false, not, if◌then◌else◌, eqb, eqb-true, eq-eqb, List, ◌∷◌, get_or, refl, sym, ap, ◌∙◌, arith, inl, inr}
use Rattle.std.proofs.lemmas.Bool.{cases_Bool, true≢false}
use Rattle.std.proofs.lemmas.Bool.Decides.{nat_tests}
use Rattle.std.specs.Prelude.{◌==◌, codes}
use Rattle.gm_game.specs.declared.position.Position.{Position}
use Rattle.gm_game.proofs.BoardLaws.{legal_board}
use Rattle.gm_pieces.specs.MoveGames.{board_game}
use Rattle.gm_pieces.specs.MoveTexts.{position_text_by, move_text_by}
use Rattle.gm_pieces.specs.laws.TextFacts.{texts_are_shown}
use Rattle.gm_squares.specs.declared.men.Men.{Men}
use Rattle.gm_squares.specs.Chess.{ending, chess_rules, board as men_at, board_text, step_text, piece_char, man_char, man, from_square, to_square, legal}
use Rattle.gm_squares.specs.Kpk.{men_text}
use Rattle.gm_squares.specs.Pictures.{chess_side, chess_mover, chess_picture}
use Rattle.gm_squares.specs.laws.MenFacts.{legal_in, IsLegal, same_men, from_below, to_below}
use Rattle.gm_squares.specs.laws.MenNumbering.{numbered}
use Rattle.gm_squares.specs.laws.MenTexts.{readable}
use Rattle.gm_draw.specs.Chessboards.{chess_points, man_on, chess_drawing}
use Rattle.gm_draw.specs.Pictures.{by_last}
use Rattle.gm_draw.specs.Points.{IsPointWord}
use Rattle.gm_draw.specs.Pictured.{IsPictured}
use Rattle.gm_draw.specs.laws.Chessboards.{is_man, man_of_text, same_on_board, same_square, two_squares, chess_fits, board_fits, squares_named, squares_apart, square_many}

-- ---- the man on a square, with the letter of White's man beside its king
abbrev pub man_of_board : ℕ → Men → ℕ → ℕ
man_of_board letter b s = if eqb s b.king then 75 else (if eqb s b.piece then letter else (if eqb s b.foe then 107 else 0))

armed_on : (letter : ℕ) (b : Men) (s : ℕ) → b.king < 64 → b.piece < 64 → b.foe < 64 → s < 64 → eqb b.piece 64 ≡ false
    → man_of_text (men_text letter b) s ≡ man_of_board letter b s
unfolding man_on
armed_on letter b s k p f l e = rw (e, same_square b.king s k l, same_square b.piece s p l, same_square b.foe s f l) refl

bare_on : (letter : ℕ) (b : Men) (s : ℕ) → b.king < 64 → b.foe < 64 → s < 64 → eqb b.piece 64 ≡ true → eqb s b.piece ≡ false
    → man_of_text (men_text letter b) s ≡ man_of_board letter b s
unfolding man_on
bare_on letter b s k f l e n = rw (e, n, same_square b.king s k l, same_square b.foe s f l) refl

not_taken : (s p : ℕ) → s < 64 → eqb p 64 ≡ true → eqb s p ≡ false
not_taken s p l e = grind (arith, nat_tests)

pub differ : (a c : ℕ) → not (eqb a c) ≡ true → a ≢ c
differ a c e i = true≢false (sym e ∙ ap not (eq-eqb a c i))

pub men_on_board : (letter : ℕ) (b : Men) → b.king < 64 → b.foe < 64 → (eqb b.piece 64 ≡ false → b.piece < 64) → (s : ℕ) → s < 64
    → man_of_text (men_text letter b) s ≡ man_of_board letter b s
men_on_board letter b k f p s l = elim (cases_Bool (eqb b.piece 64)) [
  | inl e ↦ bare_on letter b s k f l e (not_taken s b.piece l e)
  | inr e ↦ armed_on letter b s k (p e) f l e
]

on_board : (q : Bool) (b : Men) → IsLegal q b → (s : ℕ) → s < 64 → man_of_text (board_text q b) s ≡ man_of_board (piece_char q) b s
unfolding board_text
on_board q b h s l = men_on_board (piece_char q) b h.king h.foe (λ e. (h.armed e).below) s l

-- the men of a board are letters
man_char_is : (q : Bool) → is_man (piece_char q) ≡ true
man_char_is true = refl
man_char_is false = refl

pub chosen : (x y z : Bool) (a b c : ℕ) → is_man a ≡ true → is_man b ≡ true → is_man c ≡ true → is_man (if x then a else (if y then b else (if z then c else 0))) ≡ true
chosen true y z a b c h i j = h
chosen false true z a b c h i j = i
chosen false false true a b c h i j = j
chosen false false false a b c h i j = refl

letters : (q : Bool) (b : Men) → IsLegal q b → (s : ℕ) → s < 64 → is_man (man_of_text (board_text q b) s) ≡ true
letters q b h s l = ap is_man (on_board q b h s l) ∙ chosen (eqb s b.king) (eqb s b.piece) (eqb s b.foe) 75 (piece_char q) 107 refl (man_char_is q) refl

-- ---- a board is known by its men and the side to move
is_king : (q : Bool) (b : Men) (s : ℕ) → man_of_board (piece_char q) b s ≡ 75 → s ≡ b.king
is_king true b s e = grind (arith, nat_tests)
is_king false b s e = grind (arith, nat_tests)

is_foe : (q : Bool) (b : Men) (s : ℕ) → man_of_board (piece_char q) b s ≡ 107 → s ≡ b.foe
is_foe true b s e = grind (arith, nat_tests)
is_foe false b s e = grind (arith, nat_tests)

is_piece : (q : Bool) (b : Men) (s : ℕ) → man_of_board (piece_char q) b s ≡ piece_char q → s ≡ b.piece
is_piece true b s e = grind (arith, nat_tests)
is_piece false b s e = grind (arith, nat_tests)

king_at : (q : Bool) (b : Men) → man_of_board (piece_char q) b b.king ≡ 75
king_at q b = grind (arith, nat_tests)

foe_at : (q : Bool) (b : Men) → b.foe ≢ b.king → b.foe ≢ b.piece → man_of_board (piece_char q) b b.foe ≡ 107
foe_at q b h i = grind (arith, nat_tests)

piece_at : (q : Bool) (b : Men) → b.piece ≢ b.king → man_of_board (piece_char q) b b.piece ≡ piece_char q
piece_at q b h = grind (arith, nat_tests)

abbrev AreSame : Bool → Men → Men → Type 0
AreSame q b c = (s : ℕ) → s < 64 → man_of_board (piece_char q) b s ≡ man_of_board (piece_char q) c s

same_king : (q : Bool) (b c : Men) → IsLegal q b → AreSame q b c → b.king ≡ c.king
same_king q b c h e = is_king q c b.king (sym (e b.king h.king) ∙ king_at q b)

foe_apart : (q : Bool) (b : Men) → IsLegal q b → b.foe ≢ b.piece
foe_apart q b h i = elim (cases_Bool (eqb b.piece 64)) [
  | inl e ↦ (let p = eqb-true _ _ e in let f = h.foe in absurd (omega (arith, i, p, f)))
  | inr e ↦ differ b.piece b.foe (h.armed e).foe (sym i)
]

same_foe : (q : Bool) (b c : Men) → IsLegal q b → AreSame q b c → b.foe ≡ c.foe
same_foe q b c h e = is_foe q c b.foe (sym (e b.foe h.foe) ∙ foe_at q b (λ i. differ b.king b.foe h.kings (sym i)) (foe_apart q b h))

-- a rook or queen on the board is on the same square of the other board
armed_same : (q : Bool) (b c : Men) → IsLegal q b → AreSame q b c → eqb b.piece 64 ≡ false → b.piece ≡ c.piece
armed_same q b c h e n = let a = h.armed n in is_piece q c b.piece (sym (e b.piece a.below) ∙ piece_at q b (differ b.piece b.king a.king))

same_piece : (q : Bool) (b c : Men) → IsLegal q b → IsLegal q c → AreSame q b c → b.piece ≡ c.piece
same_piece q b c h i e = elim (cases_Bool (eqb b.piece 64)) [
  | inr n ↦ armed_same q b c h e n
  | inl t ↦ elim (cases_Bool (eqb c.piece 64)) [
    | inr n ↦ sym (armed_same q c b i (λ s l. sym (e s l)) n)
    | inl u ↦ eqb-true _ _ t ∙ sym (eqb-true _ _ u)
  ]
]

pub side_once : (a b : Bool) → chess_side a ≡ chess_side b → a ≡ b
side_once true true e = refl
side_once true false e = (let z : 87 ≡ 66 = ap (λ (t : List ℕ). get_or t 0 0) e in absurd (omega (arith, z)))
side_once false true e = (let z : 66 ≡ 87 = ap (λ (t : List ℕ). get_or t 0 0) e in absurd (omega (arith, z)))
side_once false false e = refl

same_board : (q : Bool) (b c : Men) → legal q b ≡ true → legal q c ≡ true → chess_drawing (board_text q b) ≡ chess_drawing (board_text q c)
    → chess_side b.white_moves ≡ chess_side c.white_moves → b ≡ c
same_board q b c l k e m =
    let h = legal_in q b l in
    let i = legal_in q c k in
    let same : AreSame q b c = (λ s j. sym (on_board q b h s j) ∙ same_on_board (board_text q b) (board_text q c) (letters q b h) (letters q c i) e s j ∙ on_board q c i s j) in
    same_men b c (side_once _ _ m) (same_king q b c h same) (same_piece q b c h i same) (same_foe q b c h same)

-- the last byte of a text is the side to move
pub side_named : (x : Bool) → (if (if x then 119 else 98) == 119 then codes "White" else codes "Black") ≡ chess_side x
side_named true = refl
side_named false = refl

pub chess_named : (q : Bool) (p : Position) → by_last (position_text_by (ending q) (board_text q) p) 119 (codes "White") (codes "Black") ≡ chess_mover p
unfolding board_text
chess_named q p =
    let b = men_at p.tier p.index in elim (cases_Bool (eqb b.piece 64)) [
      | inl e ↦ rw e (side_named b.white_moves)
      | inr e ↦ rw e (side_named b.white_moves)
    ]

-- ---- the laws
step_words : (q : Bool) (m : ℕ) → (c : ℕ) × (word : List ℕ) × (step_text q m ≡ c ∷ word) × IsPointWord chess_points word
unfolding step_text
step_words q m = (man_char q (man m), _, refl, two_squares (from_square m) (to_square m) (from_below m) (to_below m))

pub chess_pictured : (q : Bool) → IsPictured (chess_rules q) (position_text_by (ending q) (board_text q)) (move_text_by (λ t m. step_text q m))
    (chess_picture q)
unfolding chess_picture
chess_pictured q = record {
  drawings = record {
    drawn_fits = λ p l. chess_fits (board_text q (men_at p.tier p.index));
    drawn_once = λ p r l k e m.
        let b = men_at p.tier p.index in
        let c = men_at r.tier r.index in
        let same = same_board q b c (legal_board (board_game (ending q)) p l) (legal_board (board_game (ending q)) r k) e m in
        (texts_are_shown (ending q) (board_text q) (λ t n. step_text q n) (numbered q) (readable q)).shown_once p r l k (ap (board_text q) same);
  };
  fits = board_fits;
  few = omega (arith, square_many);
  named = squares_named;
  apart = squares_apart;
  words = λ p m l c. step_words q m;
  board_is = record { board_is = refl; points_are = refl };
}
