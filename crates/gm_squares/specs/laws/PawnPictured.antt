-- The drawings of king and pawn against king distinguish positions, and its picture satisfies the laws of pictures.
use Rattle.std.proofs.Common.{◌≡◌, ◌≢◌, ℕ, ◌<◌, ◌≤◌, true, false, eqb, eqb-true, List, ◌∷◌, refl, sym, ap, ◌∙◌, arith, inl, inr}
use Rattle.std.proofs.lemmas.Bool.{cases_Bool, true≢false}
use Rattle.std.proofs.lemmas.Bool.Decides.{nat_tests}
use Rattle.std.specs.Prelude.{codes}
use Rattle.gm_game.specs.declared.position.Position.{Position}
use Rattle.gm_game.proofs.BoardLaws.{legal_board}
use Rattle.gm_pieces.specs.MoveGames.{board_game}
use Rattle.gm_pieces.specs.MoveTexts.{position_text_by, move_text_by}
use Rattle.gm_pieces.specs.laws.TextFacts.{texts_are_shown}
use Rattle.gm_squares.specs.declared.men.Men.{Men}
use Rattle.gm_squares.specs.declared.pawns.WhiteMan.{WhiteMan}
use Rattle.gm_squares.specs.declared.pawns.WhiteMan.TheVariants.{Taken, Queen, Rook, Bishop, Knight, Pawn}
use Rattle.gm_squares.specs.declared.pawns.PawnBoard.{PawnBoard}
use Rattle.gm_squares.specs.Chess.{man, from_square, to_square}
use Rattle.gm_squares.specs.Kpk.{kpk, kpk_rules, legal, tier_with, letter, man_of_letter, board, board_text, step_letter, step_text}
use Rattle.gm_squares.specs.Pictures.{chess_side, kpk_mover, kpk_picture}
use Rattle.gm_squares.specs.laws.MenFacts.{same_men, from_below, to_below}
use Rattle.gm_squares.specs.laws.MenPictured.{man_of_board, men_on_board, chosen, side_once, side_named, differ}
use Rattle.gm_squares.specs.laws.PawnFacts.{placed_with, off_with, same_boards}
use Rattle.gm_squares.specs.laws.PawnNumbering.{numbered}
use Rattle.gm_squares.specs.laws.PawnTexts.{letter_back, taken_with, readable}
use Rattle.gm_draw.specs.Chessboards.{chess_points, chess_drawing}
use Rattle.gm_draw.specs.Pictures.{by_last}
use Rattle.gm_draw.specs.Points.{IsPointWord}
use Rattle.gm_draw.specs.Pictured.{IsPictured}
use Rattle.gm_draw.specs.laws.Chessboards.{is_man, man_of_text, same_on_board, two_squares, chess_fits, board_fits, squares_named, squares_apart, square_many}

-- ---- letters
-- the letter of a man of White's is that of no king
record IsLetter (c : ℕ) : Type 0 where
  king : c ≢ 75
  foe : c ≢ 107
  some : c ≢ 0
  man : is_man c ≡ true

letter_is : (k : WhiteMan) → IsLetter (letter k)
unfolding letter
letter_is Taken = record { king = λ e. omega (arith, e); foe = λ e. omega (arith, e); some = λ e. omega (arith, e); man = refl }
letter_is Queen = record { king = λ e. omega (arith, e); foe = λ e. omega (arith, e); some = λ e. omega (arith, e); man = refl }
letter_is Rook = record { king = λ e. omega (arith, e); foe = λ e. omega (arith, e); some = λ e. omega (arith, e); man = refl }
letter_is Bishop = record { king = λ e. omega (arith, e); foe = λ e. omega (arith, e); some = λ e. omega (arith, e); man = refl }
letter_is Knight = record { king = λ e. omega (arith, e); foe = λ e. omega (arith, e); some = λ e. omega (arith, e); man = refl }
letter_is Pawn = record { king = λ e. omega (arith, e); foe = λ e. omega (arith, e); some = λ e. omega (arith, e); man = refl }

-- ---- the men on a board
on_board : (b : PawnBoard) → legal b ≡ true → (s : ℕ) → s < 64 → man_of_text (board_text b) s ≡ man_of_board (letter b.kind) b.men s
unfolding board_text
on_board b l s k =
    let h = placed_with b.kind b.men l in
    men_on_board (letter b.kind) b.men h.king h.foe (λ e. below b.men.piece h.most e) s k
  where
    below : (p : ℕ) → p ≤ 64 → eqb p 64 ≡ false → p < 64
    below p l e = grind (arith, nat_tests, l, e)

letters : (b : PawnBoard) → legal b ≡ true → (s : ℕ) → s < 64 → is_man (man_of_text (board_text b) s) ≡ true
letters b l s k =
    ap is_man (on_board b l s k)
    ∙ chosen (eqb s b.men.king) (eqb s b.men.piece) (eqb s b.men.foe) 75 (letter b.kind) 107 refl (letter_is b.kind).man refl

-- ---- a board is known by its men and the side to move
is_king : (c : ℕ) (b : Men) (s : ℕ) → c ≢ 75 → man_of_board c b s ≡ 75 → s ≡ b.king
is_king c b s n e = grind (arith, nat_tests, n, e)

is_foe : (c : ℕ) (b : Men) (s : ℕ) → c ≢ 107 → man_of_board c b s ≡ 107 → s ≡ b.foe
is_foe c b s n e = grind (arith, nat_tests, n, e)

is_piece : (c d : ℕ) (b : Men) (s : ℕ) → d ≢ 75 → d ≢ 107 → d ≢ 0 → man_of_board c b s ≡ d → s ≡ b.piece
is_piece c d b s k f z e = grind (arith, nat_tests, k, f, z, e)

is_same_letter : (c d : ℕ) (b : Men) (s : ℕ) → d ≢ 75 → d ≢ 107 → d ≢ 0 → man_of_board c b s ≡ d → c ≡ d
is_same_letter c d b s k f z e = grind (arith, nat_tests, k, f, z, e)

king_at : (c : ℕ) (b : Men) → man_of_board c b b.king ≡ 75
king_at c b = grind (arith, nat_tests)

foe_at : (c : ℕ) (b : Men) → b.foe ≢ b.king → b.foe ≢ b.piece → man_of_board c b b.foe ≡ 107
foe_at c b h i = grind (arith, nat_tests, h, i)

piece_at : (c : ℕ) (b : Men) → b.piece ≢ b.king → man_of_board c b b.piece ≡ c
piece_at c b h = grind (arith, nat_tests, h)

abbrev AreSame : PawnBoard → PawnBoard → Type 0
AreSame b c = (s : ℕ) → s < 64 → man_of_board (letter b.kind) b.men s ≡ man_of_board (letter c.kind) c.men s

same_king : (b c : PawnBoard) → legal b ≡ true → AreSame b c → b.men.king ≡ c.men.king
same_king b c l e =
    let h = placed_with b.kind b.men l in
    is_king (letter c.kind) c.men b.men.king (letter_is c.kind).king (sym (e b.men.king h.king) ∙ king_at (letter b.kind) b.men)

same_foe : (b c : PawnBoard) → legal b ≡ true → AreSame b c → b.men.foe ≡ c.men.foe
same_foe b c l e =
    let h = placed_with b.kind b.men l in
    is_foe (letter c.kind) c.men b.men.foe (letter_is c.kind).foe
    (sym (e b.men.foe h.foe) ∙ foe_at (letter b.kind) b.men (λ i. differ b.men.king b.men.foe h.kings (sym i)) (λ i. differ b.men.piece b.men.foe h.apart (sym i)))

-- a man on the board is on the same square of the other board, and with the same letter
record IsThere (b c : PawnBoard) : Type 0 where
  square : b.men.piece ≡ c.men.piece
  kind : letter c.kind ≡ letter b.kind

armed_same : (b c : PawnBoard) → legal b ≡ true → AreSame b c → eqb b.men.piece 64 ≡ false → IsThere b c
armed_same b c l e n =
    let h = placed_with b.kind b.men l in
    let k = letter_is b.kind in
    let most = h.most in
    let below : b.men.piece < 64 = grind (arith, nat_tests, most, n) in
    let at = sym (e b.men.piece below) ∙ piece_at (letter b.kind) b.men (differ b.men.piece b.men.king (h.off n)) in
    record {
      square = is_piece (letter c.kind) (letter b.kind) c.men b.men.piece k.king k.foe k.some at;
      kind = is_same_letter (letter c.kind) (letter b.kind) c.men b.men.piece k.king k.foe k.some at;
    }

letter_once : (j k : WhiteMan) → eqb (tier_with j) 0 ≡ false → eqb (tier_with k) 0 ≡ false → letter j ≡ letter k → j ≡ k
letter_once j k n o e = sym (letter_back j n) ∙ ap man_of_letter e ∙ letter_back k o

off : (b : PawnBoard) → legal b ≡ true → eqb b.men.piece 64 ≡ true → b.kind ≡ Taken
off b l e = taken_with b.kind (sym (off_with b.kind b.men l) ∙ e)

same_board : (b c : PawnBoard) → legal b ≡ true → legal c ≡ true → chess_drawing (board_text b) ≡ chess_drawing (board_text c)
    → chess_side b.men.white_moves ≡ chess_side c.men.white_moves → b ≡ c
same_board b c l k e m =
    let same : AreSame b c = (λ s j. sym (on_board b l s j) ∙ same_on_board (board_text b) (board_text c) (letters b l) (letters c k) e s j ∙ on_board c k s j) in
    let back : AreSame c b = (λ s j. sym (same s j)) in
    let king = same_king b c l same in
    let foe = same_foe b c l same in
    let side = side_once _ _ m in
    elim (cases_Bool (eqb b.men.piece 64)) [
      | inr n ↦ (
          let i = armed_same b c l same n in
          let o : eqb c.men.piece 64 ≡ false = ap (λ (p : ℕ). eqb p 64) (sym i.square) ∙ n in
          same_boards b c
          (letter_once b.kind c.kind (sym (off_with b.kind b.men l) ∙ n) (sym (off_with c.kind c.men k) ∙ o) (sym i.kind))
          (same_men b.men c.men side king i.square foe))
      | inl t ↦ elim (cases_Bool (eqb c.men.piece 64)) [
        | inr o ↦ absurd (true≢false (sym t ∙ ap (λ (p : ℕ). eqb p 64) (sym (armed_same c b k back o).square) ∙ o))
        | inl u ↦ same_boards b c (off b l t ∙ sym (off c k u)) (same_men b.men c.men side king (eqb-true _ _ t ∙ sym (eqb-true _ _ u)) foe)
      ]
    ]

pub kpk_named : (p : Position) → by_last (position_text_by kpk board_text p) 119 (codes "White") (codes "Black") ≡ kpk_mover p
unfolding board_text
kpk_named p =
    let b = (board p.tier p.index).men in elim (cases_Bool (eqb b.piece 64)) [
      | inl e ↦ rw e (side_named b.white_moves)
      | inr e ↦ rw e (side_named b.white_moves)
    ]

-- ---- the laws
step_words : (t m : ℕ) → (c : ℕ) × (word : List ℕ) × (step_text t m ≡ c ∷ word) × IsPointWord chess_points word
unfolding step_text
step_words t m = (step_letter t (man m), _, refl, two_squares (from_square m) (to_square m) (from_below m) (to_below m))

pub kpk_pictured : IsPictured kpk_rules (position_text_by kpk board_text) (move_text_by step_text) kpk_picture
unfolding kpk_picture
kpk_pictured = record {
  drawings = record {
    drawn_fits = λ p l. chess_fits (board_text (board p.tier p.index));
    drawn_once = λ p r l k e m.
        let b = board p.tier p.index in
        let c = board r.tier r.index in
        let same = same_board b c (legal_board (board_game kpk) p l) (legal_board (board_game kpk) r k) e m in
        (texts_are_shown kpk board_text step_text numbered readable).shown_once p r l k (ap board_text same);
  };
  fits = board_fits;
  few = omega (arith, square_many);
  named = squares_named;
  apart = squares_apart;
  words = λ p m l c. step_words p.tier m;
  board_is = record { board_is = refl; points_are = refl };
}
