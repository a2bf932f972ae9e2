-- The boards before a board of Dao: exactly those from which a move leads to it, and how many there are.
use Rattle.std.specs.Prelude.{◌≡◌, ◌≤◌}
use Rattle.gm_pieces.specs.Common.{ℕ, true, List, length, sym, ap, ◌∙◌, arith, filter, range_with_len, Cell, and_left, and_right, and_both, from_point, to_point, is_theirs, is_empty, cell_at, WasStep, their_cell, empty_cell, cells_counted, all_cells, gone_again, back_again}
use Rattle.gm_dao.specs.DaoRules.{in_line, move_number_bound, play, can_have_led_here, undo, legal}
use Rattle.gm_dao.specs.laws.BoardFacts.{legal_in}
use Rattle.gm_dao.specs.laws.CountFacts.{blocks_few}
use Rattle.gm_dao.specs.laws.MoveFacts.{IsSlide, slide_step, from_is}

-- ---- what the tests say
-- a move that can have led to d
pub record WasMoved (d : List Cell) (a c : ℕ) : Type 0 where
  pub line : in_line a c ≡ true
  pub step : WasStep d a c

-- what holds if the test is passed
pub was_in : (d : List Cell) (m : ℕ) → can_have_led_here d m ≡ true → WasMoved d (from_point m) (to_point m)
unfolding can_have_led_here
was_in d m e =
    let r = and_right _ _ e in
    record {
      line = and_left _ _ e;
      step = record { there = their_cell _ (and_left _ _ r); left = empty_cell _ (and_right _ _ r) };
    }

-- if that holds, the test is passed
pub was_from : (d : List Cell) (m : ℕ) → WasMoved d (from_point m) (to_point m) → can_have_led_here d m ≡ true
unfolding can_have_led_here
was_from d m h = and_both _ _ h.line (and_both _ _ (ap is_theirs h.step.there) (ap is_empty h.step.left))

-- ---- taken back and made again
pub played_back : (d : List Cell) (m : ℕ) → WasMoved d (from_point m) (to_point m) → play (undo d m) m ≡ d
unfolding play undo
played_back d m h = gone_again d (from_point m) (to_point m) h.step

-- a move made and taken back leads to the same board
pub taken_played : (b : List Cell) (m : ℕ) → length b ≡ 16 → IsSlide b (from_point m) (to_point m) → WasMoved (play b m) (from_point m) (to_point m) ×
    (undo (play b m) m ≡ b)
unfolding play undo
taken_played b m n h =
    let x = back_again b (from_point m) (to_point m) (slide_step b (from_point m) (to_point m) n h) in
    (record { line = h.line; step = x.0 }, x.1)

-- there are at most sixteen boards before for each empty cell
pub befores_few : (d : List Cell) → legal d ≡ true → length (filter (can_have_led_here d) (range_with_len 0 move_number_bound)) ≤ 128
befores_few d l =
    let h = legal_in d l in
    let blocks = blocks_few (can_have_led_here d) (λ k. is_empty (cell_at d k)) 16
    (λ m l f. ap (λ (k : ℕ). is_empty (cell_at d k)) (sym (from_is m)) ∙ ap is_empty (was_in d m f).step.left) in
    let all = cells_counted is_empty d 16 h.cells in
    let cells = all_cells d in
    omega (arith, blocks, all, cells, h.cells, h.own, h.other)
