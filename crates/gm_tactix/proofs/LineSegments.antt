-- The segments of a line that can be taken.
use Rattle.gm_tactix.proofs.Lower.{◌≡◌, ◌+◌, ◌<◌, ◌≤◌, ◌++◌, ℕ, Bool, true, eqb, List, [], length, take, get_or, refl, sym, ap, ◌∙◌, arith, Contains, filter, range_with_len, has_cell, segment_cells, is_segment, has_counter, can_take, counters_of, line_cell}
use Rattle.std.specs.Prelude.{◌∷◌}
use Rattle.gm_pieces.specs.Common.{set, append_assoc, flat_map, append-nil, length-take-le, take-take, map_more, take_more_set, filter-append, contains_head, contains_later, filter_from, range_more, same_all}
use Rattle.std.proofs.lemmas.Grind.{flat_map-append}
use Rattle.std.proofs.Math.Seq.{take-append-add}
use Rattle.gm_tactix.specs.declared.segments.TheConstants.{SHIFTS}
use Rattle.gm_tactix.specs.Segments.{segments, move_number_bound}
use Rattle.gm_tactix.specs.inner.Lines.{line_place, line_of, lies_in, line_segments}
use Rattle.gm_tactix.specs.laws.CounterMaskFacts.{counter_at}
use Rattle.gm_tactix.proofs.MaskMoves.{when_segment}
use Rattle.gm_tactix.proofs.LineTable.{block, held, shifted, kept_is, placed}

-- tests that agree on the elements of a list keep the same
same_kept : (p q : ℕ → Bool) (xs : List ℕ) → ((x : ℕ) → Contains xs x → p x ≡ q x) → filter p xs ≡ filter q xs
same_kept p q [] h = refl
same_kept p q (x ∷ xs) h =
    let first = h x (contains_head x xs) in
    let later = same_kept p q xs (λ y c. h y (contains_later x xs y c)) in
    rw (first, later) refl

-- a line's segments are segments
in_line : (line m : ℕ) → Contains (line_segments line) m → is_segment 5 m ≡ true
unfolding line_segments
in_line line m c = (filter_from (is_segment 5) (range_with_len 0 (move_number_bound 5)) m (filter_from (λ (m : ℕ). eqb (line_of m) line) (segments 5) m c).0).1

module _ (counters line content : ℕ) (within : line < 10)
    (cells : (place : ℕ) → place < 5 → has_cell content place ≡ has_cell counters (line_cell line place)) where
  -- a segment of the line can be taken where it lies in the line's content
  taken_at : (m : ℕ) → Contains (line_segments line) m → lies_in line content m ≡ can_take 5 (counters_of 25 counters) m
  unfolding lies_in
  taken_at m c =
      same_all (λ (cell : ℕ). has_cell content (line_place line cell)) (has_counter (counters_of 25 counters)) (segment_cells 5 m)
      (λ cell d.
      let at = placed line m cell within c d in
      cells (line_place line cell) at.0 ∙ ap (has_cell counters) at.1 ∙ sym (counter_at 25 counters cell at.2))
      ∙ sym (when_segment 5 (counters_of 25 counters) m (in_line line m c))

  -- the segments of the line that can be taken
  pub line_taken : filter (lies_in line content) (line_segments line) ≡ filter (can_take 5 (counters_of 25 counters)) (line_segments line)
  line_taken = same_kept (lies_in line content) (can_take 5 (counters_of 25 counters)) (line_segments line) taken_at

-- one line more
pub lines_more : (p : ℕ → Bool) (line : ℕ) → filter p (flat_map line_segments (range_with_len 0 line)) ++ filter p (line_segments line)
    ≡ filter p (flat_map line_segments (range_with_len 0 (line + 1)))
lines_more p line =
    sym (filter-append p (flat_map line_segments (range_with_len 0 line)) (line_segments line))
    ∙ ap (λ (ms : List ℕ). filter p (flat_map line_segments (range_with_len 0 line) ++ ms)) (sym (append-nil (line_segments line)))
    ∙ ap (filter p) (sym (flat_map-append line_segments (range_with_len 0 line) (line ∷ [])))
    ∙ ap (λ (ls : List ℕ). filter p (flat_map line_segments ls)) (sym (range_more line))

-- one number more of a block
pub put_more : (line : ℕ) (old numbers ns : List ℕ) (count place : ℕ) → count + place < length numbers → place < length ns
    → take (count + place) numbers ≡ take count old ++ shifted line (take place ns)
    → take (count + (place + 1)) (set numbers (count + place) (get_or ns place 0 + get_or SHIFTS line 0)) ≡ take count old ++ shifted line (take (place + 1) ns)
put_more line old numbers ns count place room inside kept =
    let f = λ (n : ℕ). n + get_or SHIFTS line 0 in
    let next : count + (place + 1) ≡ count + place + 1 = omega arith in
    rw next (take_more_set numbers (count + place) (f (get_or ns place 0)) room
    ∙ ap (λ (l : List ℕ). l ++ f (get_or ns place 0) ∷ []) kept
    ∙ append_assoc (take count old) (shifted line (take place ns)) (f (get_or ns place 0) ∷ [])
    ∙ ap (λ (l : List ℕ). take count old ++ l) (sym (map_more f ns place 0 inside)))

-- the numbers of a block that count
pub put_all : (line content : ℕ) (old numbers : List ℕ) (count : ℕ) → line < 10 → content < 32 → count ≤ length old → held line content ≤ 16
    → take (count + 16) numbers ≡ take count old ++ shifted line (block line content)
    → take (count + held line content) numbers ≡ take count old ++ filter (lies_in line content) (line_segments line)
put_all line content old numbers count l h long low kept =
    let k = held line content in
    let first = take count old in
    let many : length first ≡ count = length-take-le count old long in
    sym (take-take (count + k) (count + 16) numbers (omega arith))
    ∙ ap (take (count + k)) kept
    ∙ ap (λ (n : ℕ). take (n + k) (first ++ shifted line (block line content))) (sym many)
    ∙ take-append-add first (shifted line (block line content)) k
    ∙ ap (λ (l : List ℕ). first ++ l) (kept_is line content l h)
