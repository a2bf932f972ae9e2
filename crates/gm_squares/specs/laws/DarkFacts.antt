-- The squares that moves lead from and to: facts that are computed for all 128.
use Rattle.std.specs.Prelude.{◌≡◌, ◌+◌, ◌-◌, ◌*◌, ◌/◌, ◌%◌, ◌<◌, ◌&&◌, ◌||◌, if◌then◌else◌}
use Rattle.gm_pieces.specs.Common.{ℕ, Bool, true, List, not, eqb, eqb-true, ltb, ltb-true, refl, arith, list_all, range_with_len, and_left, and_right, at_below, agree, agree_same, get_or, is_plain, IsPlain}
use Rattle.gm_squares.specs.Squares.{goes_on_board, beside}
use Rattle.gm_squares.specs.laws.Texts.{square_told}
use Rattle.gm_squares.specs.FoxHounds.{dark, dark_in, from_square, way, to_square, step_text}
use Rattle.gm_squares.specs.declared.dark_squares.TheConstants.{TO}

pub dark_below : (s : ℕ) → s < 32 → dark s < 64
dark_below s l = omega (arith, l)

pub dark_told : (s : ℕ) → s < 32 → (8 * (49 + dark s / 8 - 49) + (97 + dark s % 8 - 97)) / 2 % 32 ≡ s
dark_told s l = let e = square_told (dark s) in omega (arith, e, l)

-- the number of the move from one square to the next
number_of : ℕ → ℕ → ℕ
number_of a c = 4 * a + (if ltb a c then 2 else 0) + (if ltb (dark a % 8) (dark c % 8) then 1 else 0)

-- the number of the move with a text
pub step_told : List ℕ → ℕ
step_told t = number_of (dark_in t 0) (dark_in t 3)

abbrev is_step : ℕ → Bool
is_step m = ltb (from_square m) 32 && (ltb (to_square m) 32 && (eqb (get_or TO m 0) (to_square m) && (list_all is_plain (step_text m) && eqb (step_told (step_text m)) m)))

steps_fit : list_all (λ m. not (goes_on_board (way m) (dark (from_square m))) || is_step m) (range_with_len 0 128) ≡ true
unfolding goes_on_board beside from_square way to_square step_text number_of step_told
steps_fit = refl

-- what holds for each move over the board
pub record IsStep (m : ℕ) : Type 0 where
  pub from_below : from_square m < 32
  pub to_below : to_square m < 32
  pub to_is : get_or TO m 0 ≡ to_square m
  pub text_plain : IsPlain (step_text m)
  pub text_told : step_told (step_text m) ≡ m

pub step : (m : ℕ) → m < 128 → goes_on_board (way m) (dark (from_square m)) ≡ true → IsStep m
step m l e =
    let t : is_step m ≡ true = rw e at (at_below 128 (λ m. not (goes_on_board (way m) (dark (from_square m))) || is_step m) steps_fit m l) in
    let u = and_right _ _ t in
    let v = and_right _ _ u in
    let w = and_right _ _ v in
    record {
      from_below = ltb-true _ _ (and_left _ _ t);
      to_below = ltb-true _ _ (and_left _ _ u);
      to_is = eqb-true _ _ (and_left _ _ v);
      text_plain = and_left _ _ w;
      text_told = eqb-true _ _ (and_right _ _ w);
    }

pub to_is : (m : ℕ) → m < 128 → goes_on_board (way m) (dark (from_square m)) ≡ true → get_or TO m 0 ≡ to_square m
to_is m l e = (step m l e).to_is

pub to_small : (m : ℕ) → m < 128 → goes_on_board (way m) (dark (from_square m)) ≡ true → get_or TO m 0 < 32
to_small m l e = let s = step m l e in let i = s.to_is in let b = s.to_below in omega (arith, i, b)

-- the table has a square below 32 for each move that stays on the board
abbrev is_known : ℕ → Bool
is_known m = agree (ltb (get_or TO m 0) 32) (goes_on_board (way m) (dark (from_square m)))

all_known : list_all is_known (range_with_len 0 128) ≡ true
unfolding goes_on_board from_square way
all_known = refl

pub known : (m : ℕ) → m < 128 → ltb (get_or TO m 0) 32 ≡ goes_on_board (way m) (dark (from_square m))
known m l = agree_same _ _ (at_below 128 is_known all_known m l)
