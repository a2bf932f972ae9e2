-- Texts of king and pawn against king are plain, fit a line, and distinguish boards and moves.
use Rattle.std.specs.Prelude.{◌≡◌, ◌⊎◌, ◌+◌, ◌<◌, ◌≤◌, ◌/◌, ◌%◌, ◌∷◌, if◌then◌else◌, slice_index}
use Rattle.gm_pieces.specs.Common.{ℕ, zero, suc, Bool, true, false, eqb, eqb-true, nat_tests, List, [], length, refl, sym, ap, ◌∙◌, subst, arith, inl, inr, cases_Bool, true≢false, and_both, cond_both, list_all, is_plain, IsPlain, AreTexts}
use Rattle.gm_pieces.specs.MoveGames.{IsMove}
use Rattle.gm_squares.specs.Squares.{square_in}
use Rattle.gm_squares.specs.laws.Texts.{square_plain, square_told}
use Rattle.gm_squares.specs.declared.men.Men.{Men}
use Rattle.gm_squares.specs.declared.pawns.WhiteMan.{WhiteMan}
use Rattle.gm_squares.specs.declared.pawns.WhiteMan.TheVariants.{Taken, Queen, Rook, Bishop, Knight, Pawn}
use Rattle.gm_squares.specs.declared.pawns.PawnBoard.{PawnBoard}
use Rattle.gm_squares.specs.Chess.{man, from_square, to_square, told as men_told}
use Rattle.gm_squares.specs.Kpk.{kpk, legal, can_move_with, tier_with, man_at_tier, tier, promoted, letter, man_of_letter, men_text, board_text, told, step_letter, step_text, move_number_bound}
use Rattle.gm_squares.specs.laws.MenFacts.{same_men, from_below, to_below}
use Rattle.gm_squares.specs.laws.MenTexts.{side_plain, side_told, bare_text, armed_text, bare_by as men_bare_by, armed_by as men_armed_by, same_number}
use Rattle.gm_squares.specs.laws.PawnFacts.{placed_with, off_with, white_with, same_kind, same_boards}
use Rattle.gm_squares.specs.laws.PawnTried.{man_most, bound_most}

-- ---- the bytes of a text
text_is : (b : PawnBoard) → board_text b ≡ men_text (letter b.kind) b.men
unfolding board_text
text_is b = refl

bare_by : (b : PawnBoard) → eqb b.men.piece 64 ≡ true → board_text b ≡ bare_text b.men
bare_by b e = text_is b ∙ men_bare_by (letter b.kind) b.men e

armed_by : (b : PawnBoard) → eqb b.men.piece 64 ≡ false → board_text b ≡ armed_text (letter b.kind) b.men
armed_by b e = text_is b ∙ men_armed_by (letter b.kind) b.men e

-- ---- plain
pub letter_plain : (k : WhiteMan) → is_plain (letter k) ≡ true
unfolding letter
letter_plain Taken = refl
letter_plain Queen = refl
letter_plain Rook = refl
letter_plain Bishop = refl
letter_plain Knight = refl
letter_plain Pawn = refl

piece_lt : (b : PawnBoard) → legal b ≡ true → eqb b.men.piece 64 ≡ false → b.men.piece < 64
piece_lt b l e = let p = (placed_with b.kind b.men l).most in grind (arith, nat_tests, p, e)

text_plain : (b : PawnBoard) → legal b ≡ true → IsPlain (board_text b)
text_plain b l =
    let h = placed_with b.kind b.men l in
    elim (cases_Bool (eqb b.men.piece 64)) [
      | inl e ↦ ap (λ (t : List ℕ). list_all is_plain t) (bare_by b e) ∙ square_plain b.men.king h.king (square_plain b.men.foe h.foe (side_plain b.men.white_moves))
      | inr e ↦ ap (λ (t : List ℕ). list_all is_plain t) (armed_by b e)
          ∙ square_plain b.men.king h.king (and_both _ _ (letter_plain b.kind)
          (square_plain b.men.piece (piece_lt b l e) (square_plain b.men.foe h.foe (side_plain b.men.white_moves))))
    ]

text_fits : (b : PawnBoard) → length (board_text b) ≤ 64
text_fits b = elim (cases_Bool (eqb b.men.piece 64)) [
  | inl e ↦ (let n = ap (λ (t : List ℕ). length t) (bare_by b e) in omega (arith, n))
  | inr e ↦ (let n = ap (λ (t : List ℕ). length t) (armed_by b e) in omega (arith, n))
]

-- ---- a text determines its board
pub letter_back : (k : WhiteMan) → eqb (tier_with k) 0 ≡ false → man_of_letter (letter k) ≡ k
unfolding letter tier_with
letter_back Taken e = absurd (true≢false e)
letter_back Queen e = refl
letter_back Rook e = refl
letter_back Bishop e = refl
letter_back Knight e = refl
letter_back Pawn e = refl

pub taken_with : (k : WhiteMan) → eqb (tier_with k) 0 ≡ true → k ≡ Taken
unfolding tier_with
taken_with k e = same_kind k Taken (eqb-true (tier_with k) 0 e)

bare_told : (b : PawnBoard) → legal b ≡ true → eqb b.men.piece 64 ≡ true → told (bare_text b.men) ≡ b
unfolding told men_told
bare_told b l e =
    let t = sym (off_with b.kind b.men l) ∙ e in
    same_boards (told (bare_text b.men)) b (sym (taken_with b.kind t))
    (same_men (men_told (bare_text b.men)) b.men (sym (white_with b l (eqb-true _ _ t))) (square_told b.men.king) (sym (eqb-true _ _ e)) (square_told b.men.foe))

armed_told : (b : PawnBoard) → legal b ≡ true → eqb b.men.piece 64 ≡ false → told (armed_text (letter b.kind) b.men) ≡ b
unfolding told men_told
armed_told b l e =
    same_boards (told (armed_text (letter b.kind) b.men)) b (letter_back b.kind (sym (off_with b.kind b.men l) ∙ e))
    (same_men (men_told (armed_text (letter b.kind) b.men)) b.men (side_told b.men.white_moves) (square_told b.men.king) (square_told b.men.piece) (square_told b.men.foe))

pub told_text : (b : PawnBoard) → legal b ≡ true → told (board_text b) ≡ b
told_text b l = elim (cases_Bool (eqb b.men.piece 64)) [
  | inl e ↦ ap told (bare_by b e) ∙ bare_told b l e
  | inr e ↦ ap told (armed_by b e) ∙ armed_told b l e
]

-- ---- moves
abbrev step_bytes : ℕ → ℕ → List ℕ
step_bytes t m =
    step_letter t (man m) ∷ (97 + from_square m % 8) ∷ (49 + from_square m / 8) ∷ 45 ∷ (97 + to_square m % 8) ∷ (49 + to_square m / 8) ∷ []

step_is : (t m : ℕ) → step_text t m ≡ step_bytes t m
unfolding step_text
step_is t m = refl

step_letter_plain : (t k : ℕ) → is_plain (step_letter t k) ≡ true
unfolding step_letter
step_letter_plain t k =
    cond_both (eqb k 0) 75 (if eqb k 1 then letter (man_at_tier t) else (if eqb k 2 then 107 else letter (promoted k))) (λ (c : ℕ). is_plain c ≡ true) (λ e. refl)
    (λ e. cond_both (eqb k 1) (letter (man_at_tier t)) (if eqb k 2 then 107 else letter (promoted k)) (λ (c : ℕ). is_plain c ≡ true)
    (λ f. letter_plain (man_at_tier t))
    (λ f. cond_both (eqb k 2) 107 (letter (promoted k)) (λ (c : ℕ). is_plain c ≡ true) (λ g. refl) (λ g. letter_plain (promoted k))))

step_plain : (t m : ℕ) → IsPlain (step_bytes t m)
step_plain t m =
    and_both _ _ (step_letter_plain t (man m)) (square_plain (from_square m) (from_below m) (square_plain (to_square m) (to_below m) refl))

-- the man of a move, by its letter; with a rook or a queen there are only the first three, and a pawn's letter is none of those that it can get
abbrev man_told : ℕ → ℕ → ℕ
man_told t c =
    if eqb c 75 then 0 else (if eqb c 107 then 2 else (if eqb t 5 then (if eqb c 80 then 1 else (if eqb c 81 then 3 else (if eqb c 82 then 4 else (if eqb c 66 then 5 else 6)))) else 1))

told_queen : (k : ℕ) → k ≤ 2 → man_told 1 (step_letter 1 k) ≡ k
unfolding step_letter letter man_at_tier
told_queen zero l = refl
told_queen (suc zero) l = refl
told_queen (suc (suc zero)) l = refl
told_queen (suc (suc (suc k))) l = absurd (omega (arith, l))

told_rook : (k : ℕ) → k ≤ 2 → man_told 2 (step_letter 2 k) ≡ k
unfolding step_letter letter man_at_tier
told_rook zero l = refl
told_rook (suc zero) l = refl
told_rook (suc (suc zero)) l = refl
told_rook (suc (suc (suc k))) l = absurd (omega (arith, l))

told_pawn : (k : ℕ) → k ≤ 6 → man_told 5 (step_letter 5 k) ≡ k
unfolding step_letter letter man_at_tier
told_pawn zero l = refl
told_pawn (suc zero) l = refl
told_pawn (suc (suc zero)) l = refl
told_pawn (suc (suc (suc zero))) l = refl
told_pawn (suc (suc (suc (suc zero)))) l = refl
told_pawn (suc (suc (suc (suc (suc zero))))) l = refl
told_pawn (suc (suc (suc (suc (suc (suc zero)))))) l = refl
told_pawn (suc (suc (suc (suc (suc (suc (suc k))))))) l = absurd (omega (arith, l))

-- a side moves only with a queen, a rook or a pawn
tiers_of : (k : WhiteMan) (b : Men) (m : ℕ) → can_move_with k b m ≡ true → (tier_with k ≡ 1) ⊎ ((tier_with k ≡ 2) ⊎ (tier_with k ≡ 5))
unfolding can_move_with tier_with
tiers_of Taken b m e = absurd (true≢false (sym e))
tiers_of Bishop b m e = absurd (true≢false (sym e))
tiers_of Knight b m e = absurd (true≢false (sym e))
tiers_of Queen b m e = inl refl
tiers_of Rook b m e = inr (inl refl)
tiers_of Pawn b m e = inr (inr refl)

few_at : (t m : ℕ) → t < 5 → m < move_number_bound t → man m ≤ 2
unfolding move_number_bound man
few_at t m n l =
    let e : eqb t 5 ≡ false = grind (arith, nat_tests, n) in
    let k : m < 12288 = subst (λ (x : Bool). m < (if x then 28672 else 12288)) e l in
    omega (arith, k)

man_of : (b : PawnBoard) (m : ℕ) → IsMove kpk b m → man_told (tier b) (step_letter (tier b) (man m)) ≡ man m
man_of b m h =
    let below = h.below in
    elim (tiers_of b.kind b.men m h.can) [
      | inl e ↦ ap (λ (t : ℕ). man_told t (step_letter t (man m))) e ∙ told_queen (man m) (few_at (tier b) m (omega (arith, e)) below)
      | inr u ↦ elim u [
        | inl e ↦ ap (λ (t : ℕ). man_told t (step_letter t (man m))) e ∙ told_rook (man m) (few_at (tier b) m (omega (arith, e)) below)
        | inr e ↦ ap (λ (t : ℕ). man_told t (step_letter t (man m))) e ∙ told_pawn (man m) (man_most m (let most = bound_most (tier b) in omega (arith, below, most)))
      ]
    ]

step_once : (b : PawnBoard) (m n : ℕ) → IsMove kpk b m → IsMove kpk b n → step_bytes (tier b) m ≡ step_bytes (tier b) n → m ≡ n
step_once b m n h i e =
    same_number m n
    (sym (man_of b m h) ∙ ap (λ (t : List ℕ). man_told (tier b) (slice_index t 0)) e ∙ man_of b n i)
    (sym (square_told (from_square m)) ∙ ap (λ (t : List ℕ). square_in t 1) e ∙ square_told (from_square n))
    (sym (square_told (to_square m)) ∙ ap (λ (t : List ℕ). square_in t 4) e ∙ square_told (to_square n))

pub readable : AreTexts kpk board_text step_text
readable = record {
  text_plain = text_plain;
  text_fits = λ b l. text_fits b;
  text_once = λ a b l k e. sym (told_text a l) ∙ ap told e ∙ told_text b k;
  step_plain = λ b m l k. ap (λ (t : List ℕ). list_all is_plain t) (step_is (tier b) m) ∙ step_plain (tier b) m;
  step_fits = λ b m l k. let n = ap (λ (t : List ℕ). length t) (step_is (tier b) m) in omega (arith, n);
  step_once = λ b m n l k i e. step_once b m n k i (sym (step_is (tier b) m) ∙ e ∙ step_is (tier b) n);
}
