-- The texts of Tac Tix are plain, fit a line, and tell positions and moves apart.
use Rattle.std.specs.Prelude.{◌≡◌, ◌+◌, ◌-◌, ◌*◌, ◌≤◌, ◌&&◌, ◌∷◌, ◌++◌}
use Rattle.gm_pieces.specs.Common.{ℕ, Bool, true, false, cond, eqb, eqb-true, List, [], length, refl, sym, ap, ◌∙◌, arith, list_all, cond_both, length-map, is_plain, IsPlain, IsShown, plain_map, and_left, and_right, all_at, cell_text, map_once, AreTexts, texts_are_shown}
use Rattle.gm_tactix.specs.Segments.{first_cell, segment_length, is_segment, segments}
use Rattle.gm_tactix.specs.Board.{side_of, can_take, tactix, tactix_rules}
use Rattle.gm_tactix.specs.laws.SegmentFacts.{for_sides, square_small, in_segments}
use Rattle.gm_tactix.specs.laws.MoveFacts.{take_segment}
use Rattle.gm_tactix.specs.laws.TactixLaws.{numbered, side_low, side_high}
use Rattle.gm_tactix.specs.Texts.{counter_text, board_text, last_cell, segment_text, position_text, move_text}

-- ---- boards
pub text_length : (b : List Bool) → length (board_text b) ≡ length b
unfolding board_text
text_length b = length-map b counter_text

-- the byte of a cell gives back whether it has a counter
pub counter_back : (b : Bool) → eqb (counter_text b) 120 ≡ b
counter_back true = refl
counter_back false = refl

-- boards with the same text are the same
pub text_once : (a b : List Bool) → board_text a ≡ board_text b → a ≡ b
unfolding board_text
text_once a b e = map_once counter_text (λ (v : ℕ). eqb v 120) counter_back a b e

counter_plain : (b : Bool) → is_plain (counter_text b) ≡ true
counter_plain true = refl
counter_plain false = refl

-- the text of a board is plain
pub text_plain : (b : List Bool) → IsPlain (board_text b)
unfolding board_text
text_plain b = plain_map counter_text counter_plain b

-- ---- moves
-- the number of the segment with this text
abbrev pub number_in_text : ℕ → List ℕ → ℕ
number_in_text s (r ∷ c ∷ []) = 16 * (s * (r - 97) + (c - 49)) + 2
number_in_text s (r ∷ c ∷ d ∷ q ∷ e ∷ cs) = 16 * (s * (r - 97) + (c - 49)) + cond (eqb r q) (2 * (e - c + 1)) (2 * (q - r + 1) + 1)
number_in_text s cs = 0

-- whether the text of a segment is plain and its number can be read from it
abbrev pub text_passes : ℕ → ℕ → Bool
text_passes s m = eqb (number_in_text s (segment_text s m)) m && list_all is_plain (segment_text s m)

each_passes : (s : ℕ) → 1 ≤ s → s ≤ 5 → list_all (text_passes s) (segments s) ≡ true
unfolding segment_text is_segment
each_passes = for_sides (λ s. list_all (text_passes s) (segments s) ≡ true) refl refl refl refl refl

-- the text of a segment has at most five bytes
pub segment_short : (s m : ℕ) → length (segment_text s m) ≤ 5
unfolding segment_text
segment_short s m =
    cond_both (eqb (segment_length m) 1) (cell_text s (first_cell m)) (cell_text s (first_cell m) ++ 45 ∷ cell_text s (last_cell s m))
    (λ (t : List ℕ). length t ≤ 5) (λ e. omega arith) (λ e. omega arith)

-- ---- the laws of texts
module _ (s : ℕ) (low : 1 ≤ s) (high : s ≤ 5) where
  passes : (b : List Bool) (m : ℕ) → can_take s b m ≡ true → text_passes s m ≡ true
  passes b m h = all_at (text_passes s) (segments s) m (each_passes s low high) (in_segments s m (take_segment s b m h))

  -- the number of a move comes back from its text
  number_back : (b : List Bool) (m : ℕ) → can_take s b m ≡ true → number_in_text s (segment_text s m) ≡ m
  number_back b m h = eqb-true _ _ (and_left _ _ (passes b m h))

  pub readable : (misere : Bool) → AreTexts (tactix s misere) board_text (λ t m. segment_text s m)
  readable misere = record {
    text_plain = λ b l. text_plain b;
    text_fits = λ b l. let a = text_length b in let e = eqb-true _ _ l in let few = square_small s low high in omega (arith, a, e, few);
    text_once = λ a b l k e. text_once a b e;
    step_plain = λ b m l h. and_right _ _ (passes b m h.can);
    step_fits = λ b m l h. let short = segment_short s m in omega (arith, short);
    step_once = λ b m n l h k e. sym (number_back b m h.can) ∙ ap (number_in_text s) e ∙ number_back b n k.can;
  }

-- the laws of texts, for positions and their moves in the game for any N
pub texts_readable : (n : ℕ) (misere : Bool) → IsShown (tactix_rules n misere) (position_text n) (move_text n)
texts_readable n misere =
    let s = side_of n in
    let low = side_low n in
    let high = side_high n in
    texts_are_shown (tactix s misere) board_text (λ t m. segment_text s m) (numbered s low high misere) (readable s low high misere)
