-- The boards before a board: which numbers of segments give one.
use Rattle.gm_tactix.proofs.Lower.{◌≡◌, ◌≢◌, ◌+◌, ◌-◌, ◌<◌, ◌≤◌, ℕ, Bool, true, false, eq-eqb, List, [], map, length, refl, sym, ap, ap₂, ◌∙◌, subst, arith, least_index, members, board_game, segment_length, segment_cells, has_counter, can_take, tactix}
use Rattle.gm_pieces.specs.Common.{Some, ne_eqb, put, put_all, put_more_none, put_more_some, and_both, all_from, or_right, is_undecided, before_at, befores, before_some, before_room, all_befores, false_from_ne_true}
use Rattle.gm_pieces.specs.laws.MoveLaws.{before_skip}
use Rattle.gm_pieces.specs.laws.Skipped.{puts_skip}
use Rattle.gm_tactix.specs.Board.{is_among, with_counters, was_taken, end_by_last_move}
use Rattle.gm_tactix.specs.inner.Befores.{AreBeforesBelow}
use Rattle.gm_tactix.specs.laws.SegmentFacts.{number_below, length_bounds, cells_within, among_from}
use Rattle.gm_tactix.specs.laws.MoveFacts.{move_from, play_members, taken_in, redone}
use Rattle.gm_tactix.specs.laws.TactixLaws.{lawful}
use Rattle.std.specs.Prelude.{◌*◌}
use Rattle.gm_tactix.specs.laws.CounterFacts.{length_with, with_at}

-- with counters the game goes on, in the normal game and in misère
with_some : (misere : Bool) (b : List Bool) → members b ≢ 0 → is_undecided (end_by_last_move misere b) ≡ true
with_some misere b n = rw (ne_eqb (members b) 0 n) refl

module _ (s t : ℕ) (d : List Bool) (low : 1 ≤ s) (high : s ≤ 5) (long : length d ≡ s * s) where
  -- a segment that is given back can be taken
  back_full : (m : ℕ) → was_taken s t d m ≡ true → can_take s (with_counters d (segment_cells s m)) m ≡ true
  back_full m e =
      let h = taken_in s t d m e in
      let cs = segment_cells s m in
      move_from s (with_counters d cs) m h.segment
      (all_from (has_counter (with_counters d cs)) cs
      (λ k c. with_at d cs k (subst (λ (n : ℕ). k < n) (sym long) (cells_within s low high m k h.segment c)) ∙ or_right (has_counter d k) (is_among k cs)
      (among_from k cs c)))

  -- a segment that can have been taken gives a board before
  before_taken : (misere : Bool) (m : ℕ) → was_taken s t d m ≡ true → before_at (tactix s misere) t d m ≡ Some (with_counters d (segment_cells s m))
  before_taken misere m e =
      let h = taken_in s t d m e in
      let b = with_counters d (segment_cells s m) in
      let can = back_full m e in
      let tier : members b ≡ t = sym (play_members s b m low can) ∙ ap (λ (c : List Bool). members c + segment_length m) (redone s t d m e) ∙ h.tier in
      let some : members b ≢ 0 = λ z. let n = (length_bounds s m h.segment).0 in omega (arith, z, tier, n, h.tier) in
      before_some (tactix s misere) t d m e
      (and_both _ _ (eq-eqb _ _ (length_with d (segment_cells s m) ∙ long)) (and_both _ _ (eq-eqb _ _ tier) (and_both _ _ (with_some misere b some) can)))

  -- no segment of another length can have been taken
  other_length : (m : ℕ) → segment_length m ≢ t - members d → was_taken s t d m ≡ false
  other_length m n = false_from_ne_true _ (λ e. n (let h = (taken_in s t d m e).tier in omega (arith, h)))

  -- k numbers of segments none of which can have been taken
  skip : (misere : Bool) (n k : ℕ) (is : List ℕ) → ((i : ℕ) → i < k → was_taken s t d (n + i) ≡ false) → AreBeforesBelow s misere t d n is
      → AreBeforesBelow s misere t d (n + k) is
  skip misere n k is h e =
      e ∙ sym (puts_skip (least_index (board_game (tactix s misere))) (before_at (tactix s misere) t d) n k
      (λ i l. before_skip (tactix s misere) t d (n + i) (h i l)))

  too_long : (m : ℕ) → s < t - members d → was_taken s t d m ≡ false
  too_long m l = false_from_ne_true _ (λ e. let h = taken_in s t d m e in let n = (length_bounds s m h.segment).1 in omega (arith, h.tier, n, l))

  -- there is none where a segment would have to be longer than a side
  pub none_long : (misere : Bool) → s < t - members d → AreBeforesBelow s misere t d (16 * (s * s)) []
  none_long misere l =
      subst (λ (k : ℕ). AreBeforesBelow s misere t d k []) (let z : 0 + 16 * (s * s) ≡ 16 * (s * s) = omega arith in z)
      (skip misere 0 (16 * (s * s)) [] (λ i k. too_long (0 + i) l) refl)

  -- the list has room for the board before
  pub taken_room : (misere : Bool) (m : ℕ) (is : List ℕ) → was_taken s t d m ≡ true → AreBeforesBelow s misere t d m is → length is < 128
  taken_room misere m is e h =
      before_room (tactix s misere) (lawful s low high misere) (least_index (board_game (tactix s misere))) t d m (with_counters d (segment_cells s m)) is
      (eq-eqb _ _ long) (number_below s m (taken_in s t d m e).segment) (before_taken misere m e) h

  -- the number of a segment that can have been taken
  pub taken_more : (misere : Bool) (m : ℕ) (i : ℕ) (is new : List ℕ) → was_taken s t d m ≡ true → i ≡ least_index (board_game (tactix s misere))
      (with_counters d (segment_cells s m)) → new ≡ put i is
      → AreBeforesBelow s misere t d m is → AreBeforesBelow s misere t d (m + 1) new
  taken_more misere m i is new e f p h =
      p ∙ ap₂ put f h ∙ sym (put_more_some (least_index (board_game (tactix s misere))) (before_at (tactix s misere) t d) m
      (with_counters d (segment_cells s m)) (before_taken misere m e))

  -- and of one that can't
  pub taken_less : (misere : Bool) (m : ℕ) (is : List ℕ) → was_taken s t d m ≡ false → AreBeforesBelow s misere t d m is → AreBeforesBelow s misere t d
      (m + 1) is
  taken_less misere m is e h = h ∙ sym (put_more_none (least_index (board_game (tactix s misere))) (before_at (tactix s misere) t d) m
      (before_skip (tactix s misere) t d m e))

  -- a cell's numbers of segments that are shorter
  pub shorter_skip : (misere : Bool) (n l : ℕ) (is : List ℕ) → l ≡ t - members d → l ≤ s → AreBeforesBelow s misere t d (16 * n) is → AreBeforesBelow s
      misere t d (16 * n + 2 * l) is
  shorter_skip misere n l is e h = skip misere (16 * n) (2 * l) is (λ i k. other_length (16 * n + i) (λ q. omega (arith, high, e, h, k, q)))

  -- and of those that are longer
  pub longer_skip : (misere : Bool) (n l : ℕ) (is : List ℕ) → l ≡ t - members d → l ≤ s → AreBeforesBelow s misere t d (16 * n + 2 * l + 1 + 1) is →
      AreBeforesBelow s misere t d (16 * (n + 1)) is
  longer_skip misere n l is e h b =
      subst (λ (k : ℕ). AreBeforesBelow s misere t d k is) (let z : 16 * n + 2 * l + 1 + 1 + (14 - 2 * l) ≡ 16 * (n + 1) = omega (arith, high, h) in z)
      (skip misere (16 * n + 2 * l + 1 + 1) (14 - 2 * l) is
      (λ i k. other_length (16 * n + 2 * l + 1 + 1 + i) (λ q. omega (arith, high, e, h, k, q))) b)

  -- the numbers of all segments
  pub all_taken : (misere : Bool) (n : ℕ) (is : List ℕ) → n ≡ 16 * (s * s) → AreBeforesBelow s misere t d n is → is ≡ put_all []
      (map (least_index (board_game (tactix s misere))) (befores (tactix s misere) t d))
  all_taken misere n is e h = h ∙ ap (λ (bs : List (List Bool)). put_all [] (map (least_index (board_game (tactix s misere))) bs))
      (all_befores (tactix s misere) t d n e)
