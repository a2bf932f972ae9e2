-- Texts are plain, fit a line, and distinguish boards and moves.
use Rattle.std.specs.Prelude.{◌≡◌, ◌+◌, ◌/◌, ◌%◌, ◌^◌, ◌<◌, ◌&&◌, ◌∷◌}
use Rattle.gm_pieces.specs.Common.{ℕ, zero, suc, Bool, true, false, eqb, [], length, refl, sym, ap, ap₂, ◌∙◌, arith, w32, count_ones, trailing_zeros, is_plain, IsPlain, AreTexts}
use Rattle.std.proofs.lemmas.Nat.{zero_from_ones}
use Rattle.gm_squares.specs.laws.Texts.{square_plain}
use Rattle.gm_squares.specs.declared.chase.Chase.{Chase}
use Rattle.gm_squares.specs.FoxHounds.{fox_and_hounds, legal, dark, toggled, squares_of, side_char, board_text, step_text, told}
use Rattle.gm_squares.specs.laws.DarkFacts.{dark_below, dark_told, step, step_told}
use Rattle.gm_squares.specs.laws.MaskFacts.{IsLowest, lowest, toggled_twice}
use Rattle.gm_squares.specs.laws.ChaseFacts.{legal_in, same_chase}
use Rattle.gm_squares.specs.laws.ChaseLaws.{on_board}

-- ---- the hounds, from the lowest square up
abbrev rest : ℕ → ℕ
rest m = toggled m (trailing_zeros w32 m)

-- each square is the lowest of the rest, and none is left
unfoldable pub AreLowest : ℕ → ℕ → Type 0
AreLowest zero m = m ≡ 0
AreLowest (suc n) m = IsLowest m × AreLowest n (rest m)

pub lowest_of : (n m : ℕ) → m < 2 ^ 32 → count_ones m ≡ n → AreLowest n m
unfolding AreLowest
lowest_of zero m l e = zero_from_ones m e
lowest_of (suc n) m l e = let p = lowest m l (omega (arith, e)) in let k = p.fewer in (p, lowest_of n (rest m) p.within (omega (arith, e, k)))

-- ---- boards
side : (t : Bool) → (eqb (side_char t) 104 ≡ t) × IsPlain (32 ∷ side_char t ∷ [])
side true = (refl, refl)
side false = (refl, refl)

dark_plain : (s : ℕ) {x : Bool} → s < 32 → x ≡ true → (is_plain (97 + dark s % 8) && (is_plain (49 + dark s / 8) && x)) ≡ true
dark_plain s l h = square_plain (dark s) (dark_below s l) h

text_plain : (b : Chase) → legal b ≡ true → IsPlain (board_text b)
unfolding board_text squares_of AreLowest
text_plain b l =
    let h = legal_in b l in
    let f = lowest_of 4 b.hounds h.within h.four in
    dark_plain b.fox h.fox (dark_plain _ f.0.below (dark_plain _ f.1.0.below (dark_plain _ f.1.1.0.below (dark_plain _ f.1.1.1.0.below (side b.hounds_move).1))))

pub told_text : (b : Chase) → legal b ≡ true → told (board_text b) ≡ b
unfolding board_text squares_of told AreLowest
told_text b l =
    let h = legal_in b l in
    let f = lowest_of 4 b.hounds h.within h.four in
    let put : (x y m k : ℕ) → x ≡ toggled m k → y ≡ k → toggled x y ≡ m = (λ x y m k e g. ap₂ (λ (v w : ℕ). toggled v w) e g ∙ toggled_twice m k) in
    same_chase (told (board_text b)) b (side b.hounds_move).0
    (put _ _ b.hounds _ (put _ _ _ _ (put _ _ _ _ (put _ _ _ _ (sym f.1.1.1.1) (dark_told _ f.1.1.1.0.below)) (dark_told _ f.1.1.0.below)) (dark_told _ f.1.0.below))
    (dark_told _ f.0.below))
    (dark_told b.fox h.fox)

pub readable : AreTexts fox_and_hounds board_text (λ t m. step_text m)
unfolding board_text squares_of step_text
readable = record {
  text_plain = text_plain;
  text_fits = λ b l. let n : length (board_text b) ≡ 21 = refl in omega (arith, n);
  text_once = λ a b l k e. sym (told_text a l) ∙ ap told e ∙ told_text b k;
  step_plain = λ b m l k. (step m k.below (on_board b m k.can)).text_plain;
  step_fits = λ b m l k. let n : length (step_text m) ≡ 5 = refl in omega (arith, n);
  step_once = λ b m n l k i e.
      sym (step m k.below (on_board b m k.can)).text_told ∙ ap step_told e ∙ (step n i.below (on_board b n i.can)).text_told;
}
