-- The texts of Hare and Hounds are plain, fit a line, and tell positions and moves apart.
use Rattle.std.specs.Prelude.{◌≡◌, ◌^◌, ◌<◌, ◌&&◌, ◌∷◌}
use Rattle.std.specs.Int.Count.{count_trailing_zeros}
use Rattle.gm_pieces.specs.Common.{ℕ, w32, Bool, true, eqb, List, [], map, reverse, get_or, refl, sym, ap, ap₂, ◌∙◌, arith, nat_tests, lt-ltb, IsShown, plain_map, has_cell, mask_of, mask_tests_small, tests_of, IsRead, trailing_zeros, AreTexts, texts_are_shown, Contains, contains_head, contains_later, range_below, range_with_len}
use Rattle.gm_hare.specs.declared.hunt.Hunt.{Hunt}
use Rattle.gm_hare.specs.Board.{legal, hare_and_hounds, hare_rules}
use Rattle.gm_hare.specs.Texts.{hunt_char, hunt_text, step_text, position_text, move_text}
use Rattle.gm_hare.specs.laws.BoardFacts.{hunt, each, same, same_hunt}
use Rattle.gm_hare.specs.laws.MoveFacts.{step_texts, step_told, move_joined}
use Rattle.gm_hare.specs.laws.HareLaws.{numbered}

-- ---- boards
-- for each point, whether the text has the byte there
abbrev pub marked : List ℕ → ℕ → List Bool
marked t c = map (λ k. eqb (get_or t k 0) c) (range_with_len 0 11)

-- the board with this side to move and these tests of hounds and of the hare
abbrev pub board_told : Bool → List Bool → List Bool → Hunt
board_told x hounds hare = hunt x hounds (trailing_zeros w32 (mask_of (reverse hare)))

-- the board that a text says
abbrev pub told : List ℕ → Hunt
told t = board_told (eqb (get_or t 12 0) 100) (marked t 100) (marked t 104)

-- the text of a legal board says the board
pub text_told : (b : Hunt) → legal b ≡ true → told (hunt_text b) ≡ b
unfolding legal hunt_text count_trailing_zeros
text_told b l = same_hunt _ b (each (λ b. same (told (hunt_text b)) b) refl b l)

map_same : {X Y : Type 0} (f g : X → Y) (xs : List X) → ((x : X) → Contains xs x → f x ≡ g x) → map f xs ≡ map g xs
map_same f g [] h = refl
map_same f g (x ∷ xs) h = ap₂ (λ (y : _) (ys : List _). y ∷ ys) (h x (contains_head x xs)) (map_same f g xs (λ y c. h y (contains_later x xs y c)))

-- texts with the same bytes of the points say the same of these
pub same_marks : (s t : List ℕ) (c : ℕ) → ((k : ℕ) → k < 11 → get_or s k 0 ≡ get_or t k 0) → marked s c ≡ marked t c
same_marks s t c h = map_same _ _ (range_with_len 0 11) (λ k i. ap (λ (n : ℕ). eqb n c) (h k (range_below 11 k i)))

-- the tests of a mask that is read
tests_read : (t : List ℕ) (c n : ℕ) → IsRead t c 11 n → marked t c ≡ reverse (tests_of 11 n)
unfolding tests_of
tests_read t c n r = map_same _ (has_cell n) (range_with_len 0 11)
    (λ k i. sym (r k ∙ ap (λ (x : Bool). x && eqb (get_or t k 0) c) (lt-ltb k 11 (range_below 11 k i))))

-- a board that is read
pub read_is : (b : Hunt) (t : List ℕ) (x : Bool) (d n : ℕ) → legal b ≡ true → hunt_text b ≡ t → x ≡ eqb (get_or t 12 0) 100 → IsRead t 100 11 d
    → IsRead t 104 11 n → n < 2 ^ 11 → b ≡ hunt x (reverse (tests_of 11 d)) (trailing_zeros w32 n)
unfolding tests_of
read_is b t x d n l e f r s m =
    sym (text_told b l)
    ∙ ap told e
    ∙ ap (λ (x : Bool). board_told x (marked t 100) (marked t 104)) (sym f)
    ∙ ap₂ (board_told x) (tests_read t 100 d r) (tests_read t 104 n s)
    ∙ ap (λ (m : ℕ). hunt x (reverse (tests_of 11 d)) (trailing_zeros w32 m)) (mask_tests_small 11 n m)

-- ---- the laws of texts
pub readable : AreTexts hare_and_hounds hunt_text (λ t m. step_text m)
unfolding hunt_text
readable = record {
  text_plain = λ b l. plain_map (hunt_char b) (λ k. grind (arith, nat_tests)) (range_with_len 0 13);
  text_fits = λ b l. omega arith;
  text_once = λ a b l k e. sym (text_told a l) ∙ ap told e ∙ text_told b k;
  step_plain = λ b m l h. (step_texts m h.below (move_joined b m h.can)).1;
  step_fits = λ b m l h. let a = (step_texts m h.below (move_joined b m h.can)).0 in omega (arith, a);
  step_once = λ b m n l h k e. sym (step_texts m h.below (move_joined b m h.can)).2 ∙ ap step_told e ∙ (step_texts n k.below (move_joined b n k.can)).2;
}

-- the laws of texts, for positions and their moves
pub texts_readable : IsShown hare_rules position_text move_text
texts_readable = texts_are_shown hare_and_hounds hunt_text (λ t m. step_text m) numbered readable
