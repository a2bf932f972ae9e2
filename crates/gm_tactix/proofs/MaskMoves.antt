-- Moves on masks, and the boards before a board.
use Rattle.gm_tactix.proofs.Lower.{◌≡◌, ◌≢◌, ◌↔◌, ◌+◌, ◌^◌, ◌<◌, ◌≤◌, ◌&&◌, ℕ, Bool, true, false, eqb, List, refl, sym, ap, ◌∙◌, subst, arith, bit_and, count_ones, has_cell, segment_length, segment_cells, is_segment, has_counter, square_small, counters_of, counters_members}
use Rattle.gm_pieces.specs.Common.{not, w32, bit_or, bit_not, true≢false, false_from_ne_true, pow-lt, same_all, pattern_mask, has_and, has_not}
use Rattle.gm_board.specs.laws.BoardMasks.{filled_by}
use Rattle.gm_tactix.specs.Board.{is_full, is_free, with_counters, can_take, play, was_taken}
use Rattle.gm_tactix.specs.laws.SegmentFacts.{cells_within}
use Rattle.gm_tactix.specs.laws.MoveFacts.{taken_in}
use Rattle.gm_tactix.specs.laws.CounterMaskFacts.{counter_at, free_mask, without_mask, with_mask}
use Rattle.std.specs.Prelude.{◌*◌}

-- ---- tests
pub when_segment : (s : ℕ) (b : List Bool) (m : ℕ) → is_segment s m ≡ true → can_take s b m ≡ is_full b (segment_cells s m)
unfolding can_take
when_segment s b m e = rw e refl

-- nothing can be taken if there is no segment
pub no_segment : (s : ℕ) (b : List Bool) (m : ℕ) → is_segment s m ≡ false → can_take s b m ≡ false
unfolding can_take
no_segment s b m e = rw e refl

-- the code's test of a segment
pub take_of : (s mask m cells : ℕ) → 1 ≤ s → s ≤ 5 → is_segment s m ≡ true → cells ≡ pattern_mask (segment_cells s m)
    → eqb (bit_and mask cells) cells ≡ can_take s (counters_of (s * s) mask) m
take_of s mask m cells low high e f =
    let cs = segment_cells s m in
    filled_by mask cells cs (sym f)
    ∙ sym (same_all (has_counter (counters_of (s * s) mask)) (has_cell mask) cs (λ k c. counter_at (s * s) mask k (cells_within s low high m k e c)))
    ∙ sym (when_segment s (counters_of (s * s) mask) m e)

-- ---- a move
-- the mask without a segment is that of the board after the move
pub play_of : (s mask m cells : ℕ) → 1 ≤ s → s ≤ 5 → cells < 2 ^ (s * s) → cells ≡ pattern_mask (segment_cells s m)
    → counters_of (s * s) (bit_and mask (bit_not w32 cells)) ≡ play s (counters_of (s * s) mask) m
unfolding play
play_of s mask m cells low high w f =
    let few = square_small s low high in
    let bits : s * s < 32 = omega (arith, few) in
    let more : 2 ^ (s * s) < 2 ^ 32 = pow-lt bits in
    without_mask (s * s) mask (bit_and mask (bit_not w32 cells)) (segment_cells s m)
    (λ k l. has_and mask (bit_not w32 cells) k
    ∙ ap (λ (x : Bool). has_cell mask k && x) (has_not cells k (omega arith) (omega (arith, bits)) ∙ ap (λ (v : ℕ). not (has_cell v k)) f))

-- ---- a move taken back
module _ (s t mask m cells : ℕ) (low : 1 ≤ s) (high : s ≤ 5) (e : is_segment s m ≡ true) (f : cells ≡ pattern_mask (segment_cells s m)) where
  free_is : (bit_and mask cells ≡ 0) ↔ (is_free (counters_of (s * s) mask) (segment_cells s m) ≡ true)
  free_is = subst (λ (v : ℕ). (bit_and mask v ≡ 0) ↔ (is_free (counters_of (s * s) mask) (segment_cells s m) ≡ true)) (sym f)
      (free_mask (s * s) mask (segment_cells s m) (λ k c. cells_within s low high m k e c))

  -- the code's test of a segment on free cells
  pub taken_of : (n : ℕ) → n ≡ count_ones mask + segment_length m → bit_and mask cells ≡ 0 → mask < 2 ^ (s * s) → eqb n t ≡ was_taken s t
      (counters_of (s * s) mask) m
  unfolding was_taken
  taken_of n g z l = rw (e, free_is.0 z) (ap (λ (k : ℕ). eqb k t) (g ∙ ap (λ (k : ℕ). k + segment_length m) (sym (counters_members (s * s) mask l))))

  -- none was taken on other cells
  pub not_free : bit_and mask cells ≢ 0 → false ≡ was_taken s t (counters_of (s * s) mask) m
  not_free n = sym (false_from_ne_true _ (λ w. n (free_is.1 (taken_in s t (counters_of (s * s) mask) m w).free)))

-- none was taken where the number is that of no segment
pub not_taken : (s t : ℕ) (d : List Bool) (m : ℕ) → is_segment s m ≡ false → false ≡ was_taken s t d m
not_taken s t d m e = sym (false_from_ne_true _ (λ w. true≢false (sym (taken_in s t d m w).segment ∙ e)))

-- the mask with the segment is that of the board before
pub back_of : (s mask m cells : ℕ) → cells ≡ pattern_mask (segment_cells s m) → counters_of (s * s) (bit_or mask cells) ≡ with_counters
    (counters_of (s * s) mask) (segment_cells s m)
back_of s mask m cells f = ap (λ (v : ℕ). counters_of (s * s) (bit_or mask v)) f ∙ with_mask (s * s) mask (segment_cells s m)
