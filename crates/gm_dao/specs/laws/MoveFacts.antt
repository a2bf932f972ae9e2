-- Moves of Dao: which there are, how many, and the ends of games.
use Rattle.std.specs.Prelude.{◌≡◌, ◌/◌, ◌<◌, ◌≤◌}
use Rattle.gm_pieces.specs.Common.{ℕ, true, false, List, length, None, Some, refl, sym, ap, ◌∙◌, arith, cond-true, Lose, Cell, Empty, Mine, and_left, and_right, and_both, fills, all_at, from_point, to_point, number_below, steps, is_mine, is_theirs, is_empty, is_taken, cell_at, number_of, IsStep, mine_cell, empty_cell, cells_counted, false_from_ne_true}
use Rattle.gm_dao.specs.DaoRules.{has_formation, in_line, path, beyond, can_move, move_number_bound, end_by_last_move, dao}
use Rattle.gm_dao.specs.laws.CountFacts.{blocks_few}
use Rattle.gm_dao.specs.laws.SlideFacts.{line_within, way}

-- ---- what a move is
-- a piece of the mover's that slides from a to c
pub record IsSlide (b : List Cell) (a c : ℕ) : Type 0 where
  pub mine : cell_at b a ≡ Mine
  pub line : in_line a c ≡ true
  pub clear : fills Empty is_empty b (path a c) ≡ true
  pub stopped : fills Empty is_taken b (beyond a c) ≡ true

-- a slide is the step of a piece
pub slide_step : (b : List Cell) (a c : ℕ) → length b ≡ 16 → IsSlide b a c → IsStep b a c
slide_step b a c n h =
    let w = line_within a c h.line in
    record {
      from_below = omega (arith, w.0, n);
      to_below = omega (arith, w.1, n);
      mine = h.mine;
      free = empty_cell _ (all_at (λ (k : ℕ). is_empty (cell_at b k)) (path a c) c h.clear (way a c h.line).ends);
    }

-- if the test holds for a number, the number is that of a slide
pub move_slide : (b : List Cell) (m : ℕ) → can_move b m ≡ true → IsSlide b (from_point m) (to_point m)
unfolding can_move
move_slide b m e =
    let r = and_right _ _ e in
    let s = and_right _ _ r in
    record {
      mine = mine_cell _ (and_left _ _ e);
      line = and_left _ _ r;
      clear = and_left _ _ s;
      stopped = and_right _ _ s;
    }

-- the test holds for the number of a slide
pub slide_move : (b : List Cell) (m : ℕ) → IsSlide b (from_point m) (to_point m) → can_move b m ≡ true
unfolding can_move
slide_move b m h = and_both _ _ (ap is_mine h.mine) (and_both _ _ h.line (and_both _ _ h.clear h.stopped))

-- the number of a slide is below 256
pub line_below : (m : ℕ) → in_line (from_point m) (to_point m) ≡ true → m < move_number_bound
line_below m e = let l = number_below m 16 (line_within (from_point m) (to_point m) e).0 in omega (arith, l)

-- ---- the end of the game
-- a board that is not over has no formation of the opponent's
pub no_formation : (b : List Cell) → end_by_last_move b ≡ None → has_formation is_theirs b ≡ false
unfolding end_by_last_move
no_formation b e = false_from_ne_true _ (λ f. let g : Some Lose ≡ None = sym (cond-true _ _ _ f) ∙ e in let z : ⊥ = cc in z)

-- ---- lists of moves
-- the cell that a move leaves, by its number
pub from_is : (m : ℕ) → from_point m ≡ m / 16
unfolding from_point
from_is m = refl

-- there are at most sixteen moves for each piece of the mover's
pub steps_few : (b : List Cell) → length b ≡ 16 → number_of is_mine b ≡ 4 → length (steps dao b) ≤ 128
unfolding steps
steps_few b e n =
    let few = blocks_few (can_move b) (λ k. is_mine (cell_at b k)) 16
    (λ m l f. ap (λ (k : ℕ). is_mine (cell_at b k)) (sym (from_is m)) ∙ ap is_mine (move_slide b m f).mine) in
    let all = cells_counted is_mine b 16 e in
    omega (arith, few, all, n)
