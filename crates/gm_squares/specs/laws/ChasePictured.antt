-- The drawing of Fox and Hounds distinguishes positions, and its picture satisfies the laws of pictures.
use Rattle.std.proofs.Common.{◌≡◌, ℕ, zero, suc, ◌+◌, ◌/◌, ◌%◌, ◌<◌, Bool, true, false, ◌||◌, if◌then◌else◌, eqb, eqb-true, eq-eqb, List, [], ◌∷◌, ◌++◌, get_or, refl, sym, ap, subst, ◌∙◌, arith, inl, inr}
use Rattle.std.specs.List.{Contains, list_any, flat_map}
use Rattle.std.specs.Int.{trailing_zeros, w32}
use Rattle.std.proofs.lemmas.Bool.{cases_eq}
use Rattle.std.proofs.lemmas.Bool.Decides.{nat_tests}
use Rattle.std.specs.Prelude.{◌-◌, ◌==◌, codes, length}
use Rattle.std.proofs.lemmas.List.{length-append, get_or-append-add}
use Rattle.gm_squares.specs.Squares.{square_text}
use Rattle.gm_game.specs.declared.position.Position.{Position}
use Rattle.gm_game.proofs.BoardLaws.{legal_board}
use Rattle.gm_board.specs.Masks.{has_cell}
use Rattle.gm_board.specs.laws.NextCells.{cell_one, cell_none}
use Rattle.gm_board.specs.laws.Lists.{contains_cases, contains_head, contains_later}
use Rattle.std.proofs.lemmas.Nat.Bits.{bit_at-lt, bit_at-zero, same_from_bits_below}
use Rattle.gm_pieces.specs.Common.{bit_at, ne_eqb}
use Rattle.gm_pieces.specs.MoveGames.{board_game, IsMove}
use Rattle.gm_pieces.specs.MoveTexts.{position_text_by, move_text_by}
use Rattle.gm_pieces.specs.laws.MoveLaws.{move_in}
use Rattle.gm_pieces.specs.laws.TextFacts.{texts_are_shown}
use Rattle.gm_squares.specs.declared.chase.Chase.{Chase}
use Rattle.gm_squares.specs.FoxHounds.{fox_and_hounds, foxhounds_rules, board as chase_at, legal, dark, toggled, squares_of, hound_text, from_square, to_square, board_text, step_text, side_char}
use Rattle.gm_squares.specs.Pictures.{chase_side, chase_mover, foxhounds_picture}
use Rattle.gm_squares.specs.laws.ChaseFacts.{IsLegal, legal_in, same_chase}
use Rattle.gm_squares.specs.laws.ChaseLaws.{on_board as stays_on}
use Rattle.gm_squares.specs.laws.MaskFacts.{toggled_other}
use Rattle.gm_squares.specs.laws.ChaseNumbering.{numbered}
use Rattle.gm_squares.specs.laws.DarkFacts.{dark_below, step}
use Rattle.gm_squares.specs.laws.ChaseTexts.{AreLowest, lowest_of, readable}
use Rattle.gm_draw.specs.Chessboards.{chess_points, man_on, chess_drawing}
use Rattle.gm_draw.specs.Pictures.{by_last}
use Rattle.gm_draw.specs.Points.{IsPointWord}
use Rattle.gm_draw.specs.Pictured.{IsPictured}
use Rattle.gm_draw.specs.laws.Chessboards.{is_man, man_of_text, same_on_board, same_square, two_squares, chess_fits, board_fits, squares_named, squares_apart, square_many}

-- ---- dark squares among all squares
dark_once : (j k : ℕ) → dark j ≡ dark k → j ≡ k
dark_once j k e = omega (arith, e)

-- ---- the man on a square
abbrev after : List ℕ → Bool → List ℕ
after xs turn = flat_map hound_text xs ++ 32 ∷ side_char turn ∷ []

abbrev any_on : ℕ → List ℕ → Bool
any_on s xs = list_any (λ k. eqb s (dark k)) xs

chosen : (x y z : Bool) (c : ℕ) → (if x then c else (if y then 104 else (if z then 104 else 0))) ≡ (if x then c else (if y || z then 104 else 0))
chosen true y z c = refl
chosen false true z c = refl
chosen false false z c = refl

-- the men are a first one on a square, and the hounds on others
man_first : (c k s : ℕ) (xs : List ℕ) (turn : Bool) → k < 32 → s < 64 → ((j : ℕ) → Contains xs j → j < 32)
    → man_of_text (c ∷ (97 + dark k % 8) ∷ (49 + dark k / 8) ∷ after xs turn) s ≡ (if eqb s (dark k) then c else (if any_on s xs then 104 else 0))
unfolding man_on
man_first c k s [] turn l h all = rw (same_square (dark k) s (dark_below k l) h) refl
man_first c k s (x ∷ xs) turn l h all =
    let first = man_first 104 x s xs turn (all x (contains_head x xs)) h (λ j i. all j (contains_later x xs j i)) in
    rw (same_square (dark k) s (dark_below k l) h, first) (chosen (eqb s (dark k)) (eqb s (dark x)) (any_on s xs) c)

squares_below : (n m : ℕ) → AreLowest n m → (j : ℕ) → Contains (squares_of n m) j → j < 32
unfolding squares_of AreLowest
squares_below zero m a j c = absurd (omega (arith, c.1))
squares_below (suc n) m a j c = elim (contains_cases _ _ j c) [
  | inl e ↦ subst (λ (k : ℕ). k < 32) e a.0.below
  | inr d ↦ squares_below n _ a.1 j d
]

hounds_of : (b : Chase) → IsLegal b → AreLowest 4 b.hounds
hounds_of b h = lowest_of 4 b.hounds h.within h.four

-- the man on a square, by whether it is the fox's and whether it is a hound's
abbrev man_by : Bool → Bool → ℕ
man_by x y = if x then 102 else (if y then 104 else 0)

abbrev man_of_board : Chase → ℕ → ℕ
man_of_board b s = man_by (eqb s (dark b.fox)) (any_on s (squares_of 4 b.hounds))

on_board : (b : Chase) → IsLegal b → (s : ℕ) → s < 64 → man_of_text (board_text b) s ≡ man_of_board b s
unfolding board_text
on_board b h s l = man_first 102 b.fox s (squares_of 4 b.hounds) b.hounds_move h.fox l (squares_below 4 b.hounds (hounds_of b h))

men_are : (x y : Bool) → is_man (man_by x y) ≡ true
men_are true y = refl
men_are false true = refl
men_are false false = refl

letters : (b : Chase) → IsLegal b → (s : ℕ) → s < 64 → is_man (man_of_text (board_text b) s) ≡ true
letters b h s l = ap is_man (on_board b h s l) ∙ men_are (eqb s (dark b.fox)) (any_on s (squares_of 4 b.hounds))

-- ---- a board is known by its men and the side to move
any_square : (n m : ℕ) → AreLowest n m → (j : ℕ) → any_on (dark j) (squares_of n m) ≡ has_cell m j
unfolding squares_of AreLowest
any_square zero m a j = sym (ap (λ (v : ℕ). has_cell v j) a ∙ cell_none 0 j (bit_at-zero j))
any_square (suc n) m a j =
    let k = trailing_zeros w32 m in
    ap (λ (x : Bool). eqb (dark j) (dark k) || x) (any_square n (toggled m k) a.1 j) ∙ elim (cases_eq j k) [
      | inl e ↦ ap (λ (x : Bool). x || has_cell (toggled m k) j) (eq-eqb _ _ (ap dark e)) ∙ sym (ap (has_cell m) e ∙ cell_one m k a.0.has)
      | inr d ↦ ap (λ (x : Bool). x || has_cell (toggled m k) j) (ne_eqb _ _ (λ q. d (dark_once j k q))) ∙ ap (λ (v : ℕ). eqb v 1) (toggled_other m k j d)
    ]

any_hound : (b : Chase) → IsLegal b → (j : ℕ) → any_on (dark j) (squares_of 4 b.hounds) ≡ has_cell b.hounds j
any_hound b h j = any_square 4 b.hounds (hounds_of b h) j

fox_told : (x y : Bool) → eqb (man_by x y) 102 ≡ x
fox_told true y = refl
fox_told false true = refl
fox_told false false = refl

hound_told : (x y : Bool) → (x ≡ true → y ≡ false) → eqb (man_by x y) 104 ≡ y
hound_told true y h = sym (h refl)
hound_told false true h = refl
hound_told false false h = refl

abbrev AreSame : Chase → Chase → Type 0
AreSame b c = (s : ℕ) → s < 64 → man_of_board b s ≡ man_of_board c s

same_fox : (b c : Chase) → IsLegal b → AreSame b c → b.fox ≡ c.fox
same_fox b c h same =
    let s = dark b.fox in
    dark_once b.fox c.fox (eqb-true _ _ (sym (fox_told _ _) ∙ ap (λ (m : ℕ). eqb m 102) (sym (same s (dark_below b.fox h.fox))) ∙ fox_told _ _ ∙ eq-eqb s s refl))

-- a square of the board with a hound's byte has a hound, since none is on the fox's square
hound_at : (b : Chase) → IsLegal b → (j : ℕ) → eqb (man_of_board b (dark j)) 104 ≡ has_cell b.hounds j
hound_at b h j =
    hound_told _ _ (λ e. any_hound b h j ∙ ap (has_cell b.hounds) (dark_once j b.fox (eqb-true _ _ e)) ∙ h.apart) ∙ any_hound b h j

same_hound : (b c : Chase) → IsLegal b → IsLegal c → AreSame b c → (j : ℕ) → j < 32 → has_cell b.hounds j ≡ has_cell c.hounds j
same_hound b c h i same j l = sym (hound_at b h j) ∙ ap (λ (m : ℕ). eqb m 104) (same (dark j) (dark_below j l)) ∙ hound_at c i j

same_bit : (m n k : ℕ) → has_cell m k ≡ has_cell n k → bit_at m k ≡ bit_at n k
same_bit m n k e =
    let a = bit_at-lt m k in
    let b = bit_at-lt n k in grind (arith, nat_tests)

side_once : (a b : Bool) → chase_side a ≡ chase_side b → a ≡ b
side_once true true e = refl
side_once true false e = (let z : 104 ≡ 102 = ap (λ (t : List ℕ). get_or t 0 0) e in absurd (omega (arith, z)))
side_once false true e = (let z : 102 ≡ 104 = ap (λ (t : List ℕ). get_or t 0 0) e in absurd (omega (arith, z)))
side_once false false e = refl

same_board : (b c : Chase) → legal b ≡ true → legal c ≡ true → chess_drawing (board_text b) ≡ chess_drawing (board_text c)
    → chase_side b.hounds_move ≡ chase_side c.hounds_move → b ≡ c
same_board b c l k e m =
    let h = legal_in b l in
    let i = legal_in c k in
    let same : AreSame b c = (λ s j. sym (on_board b h s j) ∙ same_on_board (board_text b) (board_text c) (letters b h) (letters c i) e s j ∙ on_board c i s j) in
    same_chase b c (side_once _ _ m)
    (same_from_bits_below 32 b.hounds c.hounds h.within i.within (λ j n. same_bit b.hounds c.hounds j (same_hound b c h i same j n)))
    (same_fox b c h same)

-- the last byte of a text is the side to move
side_named : (x : Bool) → (if (if x then 104 else 102) == 104 then codes "hounds" else codes "fox") ≡ chase_side x
side_named true = refl
side_named false = refl

last_named : (xs : List ℕ) (x : Bool) → by_last (xs ++ 32 ∷ side_char x ∷ []) 104 (codes "hounds") (codes "fox") ≡ chase_side x
last_named xs x =
    let ys : List ℕ = 32 ∷ side_char x ∷ [] in
    let n : length (xs ++ ys) - 1 ≡ length xs + 1 = (let a = length-append xs ys in omega (arith, a)) in
    ap (λ (i : ℕ). if get_or (xs ++ ys) i 0 == 104 then codes "hounds" else codes "fox") n
    ∙ ap (λ (c : ℕ). if c == 104 then codes "hounds" else codes "fox") (get_or-append-add xs ys 1 0)
    ∙ side_named x

pub foxhounds_named : (p : Position) → by_last (position_text_by fox_and_hounds board_text p) 104 (codes "hounds") (codes "fox") ≡ chase_mover p
unfolding board_text
foxhounds_named p =
    let b = chase_at p.index in
    last_named (102 ∷ square_text (dark b.fox) ++ flat_map hound_text (squares_of 4 b.hounds)) b.hounds_move

-- ---- the laws
step_words : (m : ℕ) → from_square m < 32 → to_square m < 32 → IsPointWord chess_points (step_text m)
unfolding step_text
step_words m l h = two_squares (dark (from_square m)) (dark (to_square m)) (dark_below _ l) (dark_below _ h)

move_words : (b : Chase) (m : ℕ) → IsMove fox_and_hounds b m → IsPointWord chess_points (step_text m)
move_words b m h = let s = step m h.below (stays_on b m h.can) in step_words m s.from_below s.to_below

pub foxhounds_pictured : IsPictured foxhounds_rules (position_text_by fox_and_hounds board_text) (move_text_by (λ t m. step_text m)) foxhounds_picture
unfolding foxhounds_picture
foxhounds_pictured = record {
  drawings = record {
    drawn_fits = λ p l. chess_fits (board_text (chase_at p.index));
    drawn_once = λ p q l k e m.
        let b = chase_at p.index in
        let c = chase_at q.index in
        let same = same_board b c (legal_board (board_game fox_and_hounds) p l) (legal_board (board_game fox_and_hounds) q k) e m in
        (texts_are_shown fox_and_hounds board_text (λ t n. step_text n) numbered readable).shown_once p q l k (ap board_text same);
  };
  fits = board_fits;
  few = omega (arith, square_many);
  named = squares_named;
  apart = squares_apart;
  words = λ p m l c. move_words (chase_at p.index) m (move_in fox_and_hounds (chase_at p.index) m c);
  board_is = record { board_is = refl; points_are = refl };
}
