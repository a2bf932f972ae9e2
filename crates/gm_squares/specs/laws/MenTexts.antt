-- Texts are plain, fit a line, and distinguish boards and moves.
use Rattle.std.specs.Prelude.{◌≡◌, ◌≢◌, ◌+◌, ◌<◌, ◌≤◌, ◌/◌, ◌%◌, ◌∷◌, if◌then◌else◌, slice_index}
use Rattle.gm_pieces.specs.Common.{ℕ, zero, suc, Bool, true, false, eqb, eqb-true, eq-eqb, nat_tests, List, [], length, refl, sym, ap, ◌∙◌, arith, inl, inr, cases_Bool, and_both, cond_both, list_all, is_plain, IsPlain, AreTexts}
use Rattle.gm_squares.specs.Squares.{square_in}
use Rattle.gm_squares.specs.laws.Texts.{square_plain, square_told}
use Rattle.gm_squares.specs.declared.men.Men.{Men}
use Rattle.gm_squares.specs.Chess.{legal, man, from_square, to_square, piece_char, man_char, board_text, step_text, told, ending}
use Rattle.gm_squares.specs.Kpk.{men_text}
use Rattle.gm_squares.specs.laws.MenFacts.{IsLegal, legal_in, same_men, from_below, to_below, man_small}

-- ---- the bytes of a text
abbrev pub side_char : Bool → ℕ
side_char white_moves = if white_moves then 119 else 98

abbrev pub bare_text : Men → List ℕ
bare_text b =
    75 ∷ (97 + b.king % 8) ∷ (49 + b.king / 8) ∷ 32 ∷ 107 ∷ (97 + b.foe % 8) ∷ (49 + b.foe / 8) ∷ 32 ∷ side_char b.white_moves ∷ []

abbrev pub armed_text : ℕ → Men → List ℕ
armed_text letter b =
    75 ∷ (97 + b.king % 8) ∷ (49 + b.king / 8) ∷ 32 ∷ letter ∷ (97 + b.piece % 8) ∷ (49 + b.piece / 8) ∷ 32 ∷ 107 ∷ (97 + b.foe % 8)
    ∷ (49 + b.foe / 8) ∷ 32 ∷ side_char b.white_moves ∷ []

pub bare_by : (letter : ℕ) (b : Men) → eqb b.piece 64 ≡ true → men_text letter b ≡ bare_text b
bare_by letter b e = rw e refl

pub armed_by : (letter : ℕ) (b : Men) → eqb b.piece 64 ≡ false → men_text letter b ≡ armed_text letter b
armed_by letter b e = rw e refl

pub bare_is : (letter : ℕ) (b : Men) → b.piece ≡ 64 → men_text letter b ≡ bare_text b
bare_is letter b e = bare_by letter b (eq-eqb _ _ e)

pub armed_is : (letter : ℕ) (b : Men) → b.piece ≢ 64 → men_text letter b ≡ armed_text letter b
armed_is letter b n = armed_by letter b (grind (arith, nat_tests))

-- the text of a rook's or queen's board
text_is : (q : Bool) (b : Men) → board_text q b ≡ men_text (piece_char q) b
unfolding board_text
text_is q b = refl

-- ---- plain
pub side_plain : (w : Bool) → IsPlain (side_char w ∷ [])
side_plain true = refl
side_plain false = refl

piece_plain : (q : Bool) → is_plain (piece_char q) ≡ true
piece_plain true = refl
piece_plain false = refl

bare_plain : (q : Bool) (b : Men) → IsLegal q b → IsPlain (bare_text b)
bare_plain q b h = square_plain b.king h.king (square_plain b.foe h.foe (side_plain b.white_moves))

armed_plain : (q : Bool) (b : Men) → IsLegal q b → b.piece < 64 → IsPlain (armed_text (piece_char q) b)
armed_plain q b h p = square_plain b.king h.king (and_both _ _ (piece_plain q) (square_plain b.piece p (square_plain b.foe h.foe (side_plain b.white_moves))))

-- ---- a text determines its board
pub side_told : (w : Bool) → eqb (side_char w) 119 ≡ w
side_told true = refl
side_told false = refl

bare_told : (q : Bool) (b : Men) → IsLegal q b → b.piece ≡ 64 → told (bare_text b) ≡ b
unfolding told
bare_told q b h e = same_men (told (bare_text b)) b (sym (h.bare (eq-eqb _ _ e))) (square_told b.king) (sym e) (square_told b.foe)

armed_told : (q : Bool) (b : Men) → told (armed_text (piece_char q) b) ≡ b
unfolding told
armed_told q b = same_men (told (armed_text (piece_char q) b)) b (side_told b.white_moves) (square_told b.king) (square_told b.piece) (square_told b.foe)

pub told_text : (q : Bool) (b : Men) → legal q b ≡ true → told (board_text q b) ≡ b
told_text q b l = elim (cases_Bool (eqb b.piece 64)) [
  | inl e ↦ ap told (text_is q b ∙ bare_by (piece_char q) b e) ∙ bare_told q b (legal_in q b l) (eqb-true _ _ e)
  | inr e ↦ ap told (text_is q b ∙ armed_by (piece_char q) b e) ∙ armed_told q b
]

-- ---- moves
abbrev man_told : ℕ → ℕ
man_told c = if eqb c 75 then 0 else (if eqb c 107 then 2 else 1)

man_back : (q : Bool) (k : ℕ) → k ≤ 2 → man_told (man_char q k) ≡ k
man_back true zero l = refl
man_back false zero l = refl
man_back true (suc zero) l = refl
man_back false (suc zero) l = refl
man_back true (suc (suc zero)) l = refl
man_back false (suc (suc zero)) l = refl
man_back q (suc (suc (suc k))) l = absurd (omega (arith, l))

abbrev step_bytes : Bool → ℕ → List ℕ
step_bytes q m = man_char q (man m) ∷ (97 + from_square m % 8) ∷ (49 + from_square m / 8) ∷ 45 ∷ (97 + to_square m % 8) ∷ (49 + to_square m / 8) ∷ []

step_is : (q : Bool) (m : ℕ) → step_text q m ≡ step_bytes q m
unfolding step_text
step_is q m = refl

man_plain : (q : Bool) (k : ℕ) → is_plain (man_char q k) ≡ true
man_plain q k =
    cond_both (eqb k 0) 75 (if eqb k 1 then piece_char q else 107) (λ (c : ℕ). is_plain c ≡ true) (λ e. refl)
    (λ e. cond_both (eqb k 1) (piece_char q) 107 (λ (c : ℕ). is_plain c ≡ true) (λ f. piece_plain q) (λ f. refl))

step_plain : (q : Bool) (m : ℕ) → IsPlain (step_bytes q m)
step_plain q m = and_both _ _ (man_plain q (man m)) (square_plain (from_square m) (from_below m) (square_plain (to_square m) (to_below m) refl))

pub same_number : (l m : ℕ) → man l ≡ man m → from_square l ≡ from_square m → to_square l ≡ to_square m → l ≡ m
unfolding man from_square to_square
same_number l m e f g = omega (arith, e, f, g)

step_once : (q : Bool) (m n : ℕ) → man m ≤ 2 → man n ≤ 2 → step_bytes q m ≡ step_bytes q n → m ≡ n
step_once q m n l k e =
    same_number m n
    (sym (man_back q (man m) l) ∙ ap (λ (t : List ℕ). man_told (slice_index t 0)) e ∙ man_back q (man n) k)
    (sym (square_told (from_square m)) ∙ ap (λ (t : List ℕ). square_in t 1) e ∙ square_told (from_square n))
    (sym (square_told (to_square m)) ∙ ap (λ (t : List ℕ). square_in t 4) e ∙ square_told (to_square n))

pub readable : (q : Bool) → AreTexts (ending q) (board_text q) (λ t m. step_text q m)
readable q = record {
  text_plain = λ b l. elim (cases_Bool (eqb b.piece 64)) [
    | inl e ↦ ap (λ (t : List ℕ). list_all is_plain t) (text_is q b ∙ bare_by (piece_char q) b e) ∙ bare_plain q b (legal_in q b l)
    | inr e ↦ ap (λ (t : List ℕ). list_all is_plain t) (text_is q b ∙ armed_by (piece_char q) b e) ∙ armed_plain q b (legal_in q b l) ((legal_in q b l).armed e).below
  ];
  text_fits = λ b l. elim (cases_Bool (eqb b.piece 64)) [
    | inl e ↦ (let n = ap (λ (t : List ℕ). length t) (text_is q b ∙ bare_by (piece_char q) b e) in omega (arith, n))
    | inr e ↦ (let n = ap (λ (t : List ℕ). length t) (text_is q b ∙ armed_by (piece_char q) b e) in omega (arith, n))
  ];
  text_once = λ a b l k e. sym (told_text q a l) ∙ ap told e ∙ told_text q b k;
  step_plain = λ b m l k. ap (λ (t : List ℕ). list_all is_plain t) (step_is q m) ∙ step_plain q m;
  step_fits = λ b m l k. let n = ap (λ (t : List ℕ). length t) (step_is q m) in omega (arith, n);
  step_once = λ b m n l k i e. step_once q m n (man_small m k.below) (man_small n i.below) (sym (step_is q m) ∙ e ∙ step_is q n);
}
