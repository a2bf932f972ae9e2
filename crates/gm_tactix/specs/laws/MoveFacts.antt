-- Moves of Tac Tix: which there are, what they leave, and the boards before a board.
use Rattle.std.specs.Prelude.{◌≡◌, ◌+◌, ◌-◌, ◌*◌, ◌<◌, ◌≤◌, ◌∷◌, ◌++◌}
use Rattle.gm_pieces.specs.Common.{ℕ, zero, suc, Bool, true, false, cond, eqb, List, [], length, refl, sym, ap, ◌∙◌, subst, arith, inl, inr, eqb-true, eq-eqb, Contains, filter, range_with_len, cases_lt, ne_eqb, length-range_with_len, get_or-range_with_len, map-range_with_len_more, map-id, IsAscending, and_left, and_right, and_both, members, filter_few, nil_or, steps, step_in, step_listed}
use Rattle.gm_tactix.specs.Segments.{first_cell, segment_length, goes_down, stride, segment_cells, is_segment, move_number_bound}
use Rattle.gm_tactix.specs.Board.{is_full, is_free, without, with_counters, can_take, play, was_taken, tactix}
use Rattle.gm_tactix.specs.laws.SegmentFacts.{number_below, length_bounds, single, single_cells, segments_few}
use Rattle.gm_tactix.specs.laws.CounterFacts.{length_without, free_without, without_with, with_without, members_without, some_counter}

-- ---- ranges
-- each number of a range is in it
pub range_from : (a n x : ℕ) → a ≤ x → x < a + n → Contains (range_with_len a n) x
range_from a n x l h =
    let same = length-range_with_len a n in
    let value = get_or-range_with_len a n (x - a) x (omega arith) in
    (x - a, omega arith, omega arith)

-- a range with one more number
pub range_push : (a n : ℕ) → range_with_len a (n + 1) ≡ range_with_len a n ++ (a + n) ∷ []
range_push a n =
    sym (map-id (range_with_len a (n + 1)))
    ∙ map-range_with_len_more (λ (k : ℕ). k) a n (a + n) refl
    ∙ ap (λ (xs : List ℕ). xs ++ (a + n) ∷ []) (map-id (range_with_len a n))

-- a range ascends
pub range_ascending : (a n : ℕ) → IsAscending (range_with_len a n)
range_ascending a zero = tt
range_ascending a (suc zero) = tt
range_ascending a (suc (suc n)) = (omega arith, range_ascending (a + 1) (suc n))

-- ---- moves
-- a move is a segment whose cells all have counters
pub move_in : (s : ℕ) (b : List Bool) (m : ℕ) → can_take s b m ≡ true → (is_segment s m ≡ true) × (is_full b (segment_cells s m) ≡ true)
unfolding can_take
move_in s b m h = (and_left _ _ h, and_right _ _ h)

-- a segment whose cells all have counters is a move
pub move_from : (s : ℕ) (b : List Bool) (m : ℕ) → is_segment s m ≡ true → is_full b (segment_cells s m) ≡ true → can_take s b m ≡ true
unfolding can_take
move_from s b m e f = and_both _ _ e f

-- there is a segment with a move's number
pub take_segment : (s : ℕ) (b : List Bool) (m : ℕ) → can_take s b m ≡ true → is_segment s m ≡ true
take_segment s b m e = (move_in s b m e).0

-- there are at most 128 moves
pub moves_few : (s : ℕ) (misere : Bool) (b : List Bool) → 1 ≤ s → s ≤ 5 → length (steps (tactix s misere) b) ≤ 128
unfolding steps
moves_few s misere b low high =
    let few = filter_few (can_take s b) (is_segment s) (take_segment s b) (range_with_len 0 (move_number_bound s)) in
    let all = segments_few s low high in omega (arith, few, all)

-- a move leaves as many cells
pub play_length : (s : ℕ) (b : List Bool) (m : ℕ) → length (play s b m) ≡ length b
unfolding play
play_length s b m = length_without b (segment_cells s m)

positive_stride : (b : Bool) (s : ℕ) → 1 ≤ s → 0 < cond b s 1
positive_stride true s l = l
positive_stride false s l = omega arith

segment_taken : (s m : ℕ) (b : List Bool) → 1 ≤ s → is_full b (segment_cells s m) ≡ true → members (without b (segment_cells s m)) + segment_length m ≡
    members b
unfolding segment_cells
segment_taken s m b l e = members_without b (first_cell m) (stride s m) (segment_length m) (positive_stride (goes_down m) s l) e

-- a move takes as many counters as its segment has cells
pub play_members : (s : ℕ) (b : List Bool) (m : ℕ) → 1 ≤ s → can_take s b m ≡ true → members (play s b m) + segment_length m ≡ members b
unfolding play
play_members s b m l c = segment_taken s m b l (move_in s b m c).1

-- without counters there is no move
pub no_moves : (s : ℕ) (b : List Bool) → members b ≡ 0 → (m : ℕ) → can_take s b m ≡ true → ⊥
no_moves s b e m c =
    let n = length_bounds s m (take_segment s b m c) in
    let taken = play_members s b m (omega (arith, n.0, n.1)) c in
    omega (arith, taken, n.0, e)

-- a counter can be taken by itself
some_move : (s : ℕ) (b : List Bool) → 1 ≤ s → length b ≡ s * s → 0 < members b → (m : ℕ) × (can_take s b m ≡ true)
some_move s b l e h =
    let x = some_counter b h in
    let k : x.0 < s * s = subst (λ (n : ℕ). x.0 < n) e x.1 in (
      16 * x.0 + 2,
      move_from s b (16 * x.0 + 2) (single s x.0 l k)
          (ap (is_full b) (single_cells s x.0) ∙ and_both _ _ x.2 refl),
    )

-- so a player has no move exactly if there are no counters
pub stuck_is : (s : ℕ) (misere : Bool) (b : List Bool) → 1 ≤ s → length b ≡ s * s → eqb (length (steps (tactix s misere) b)) 0 ≡ eqb (members b) 0
stuck_is s misere b l e = elim (cases_lt 0 (members b)) [
  | inl h ↦ (
      let x = some_move s b l e h in
      step_listed (tactix s misere) b x.0 (number_below s x.0 (take_segment s b x.0 x.1)) x.1
      ∙ sym (ne_eqb (members b) 0 (λ z. omega (arith, z, h))))
  | inr h ↦ (
      let z : members b ≡ 0 = omega arith in
      let none = nil_or (steps (tactix s misere) b) (λ m c. no_moves s b z m (step_in (tactix s misere) b m c).1) in
      eq-eqb _ _ (ap (λ (ms : List ℕ). length ms) none) ∙ sym (eq-eqb _ _ z))
]

-- ---- the boards before
-- what holds for a segment that can have been taken
pub record WasTaken (s t : ℕ) (d : List Bool) (m : ℕ) : Type 0 where
  pub segment : is_segment s m ≡ true
  pub free : is_free d (segment_cells s m) ≡ true
  pub tier : members d + segment_length m ≡ t

-- what holds if the test is passed
pub taken_in : (s t : ℕ) (d : List Bool) (m : ℕ) → was_taken s t d m ≡ true → WasTaken s t d m
unfolding was_taken
taken_in s t d m e = record {
  segment = and_left _ _ e;
  free = and_left _ _ (and_right _ _ e);
  tier = eqb-true _ _ (and_right _ _ (and_right _ _ e));
}

taken_from : (s t : ℕ) (d : List Bool) (m : ℕ) → WasTaken s t d m → was_taken s t d m ≡ true
unfolding was_taken
taken_from s t d m h = and_both _ _ h.segment (and_both _ _ h.free (eq-eqb _ _ h.tier))

-- a segment taken and given back leaves the board unchanged
pub undone : (s : ℕ) (b : List Bool) (m : ℕ) → 1 ≤ s → can_take s b m ≡ true
    → (was_taken s (members b) (play s b m) m ≡ true) × (with_counters (play s b m) (segment_cells s m) ≡ b)
unfolding play
undone s b m low e =
    let v = move_in s b m e in
    let cs = segment_cells s m in (
      taken_from s (members b) (without b cs) m (record { segment = v.0; free = free_without b cs; tier = segment_taken s m b low v.1 }),
      with_without b cs v.1,
    )

-- a segment given back and taken again leaves the board unchanged
pub redone : (s t : ℕ) (d : List Bool) (m : ℕ) → was_taken s t d m ≡ true → play s (with_counters d (segment_cells s m)) m ≡ d
unfolding play
redone s t d m e = without_with d (segment_cells s m) (taken_in s t d m e).free

-- there are at most 128 segments to give back
pub befores_few : (s t : ℕ) (d : List Bool) → 1 ≤ s → s ≤ 5 → length (filter (was_taken s t d) (range_with_len 0 (move_number_bound s))) ≤ 128
befores_few s t d low high =
    let few = filter_few (was_taken s t d) (is_segment s) (λ m e. (taken_in s t d m e).segment) (range_with_len 0 (move_number_bound s)) in
    let all = segments_few s low high in omega (arith, few, all)
