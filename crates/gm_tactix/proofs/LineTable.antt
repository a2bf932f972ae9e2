-- The blocks of segments against the lines of the square of side 5.
use Rattle.gm_tactix.proofs.Lower.{◌≡◌, ◌+◌, ◌<◌, ◌≤◌, ◌&&◌, ℕ, Bool, true, eqb, eqb-true, ltb, ltb-true, List, [], map, length, take, get_or, refl, sym, ap, ◌∙◌, arith, Contains, filter, list_all, range_with_len, and_left, and_right, all_at, at_below, line_cell}
use Rattle.std.specs.Prelude.{◌/◌, ◌||◌}
use Rattle.gm_pieces.specs.Common.{le-ltb, get_or-map-range_with_len, at_each}
use Rattle.gm_tactix.specs.declared.segments.TheConstants.{BLOCKS, COUNTS, SHIFTS}
use Rattle.gm_tactix.specs.inner.Lines.{line_place, lies_in, line_segments}
use Rattle.gm_tactix.specs.Segments.{segment_cells, is_segment}

-- the block of a line's content
abbrev pub block : ℕ → ℕ → List ℕ
block line content = get_or (get_or BLOCKS (line / 5) []) content []

-- how many segments it has
abbrev pub held : ℕ → ℕ → ℕ
held line content = get_or (get_or COUNTS (line / 5) []) content 0

-- its numbers in that line
abbrev pub shifted : ℕ → List ℕ → List ℕ
shifted line ns = map (λ n. n + get_or SHIFTS line 0) ns

-- the segments of a line that the table gives
abbrev pub entries : ℕ → ℕ → List ℕ
entries line content = take (held line content) (shifted line (block line content))

same_at : {X : Type 0} (d : X) (n : ℕ) (f g : ℕ → X) → map f (range_with_len 0 n) ≡ map g (range_with_len 0 n) → (k : ℕ) → k < n → f k ≡ g k
same_at d n f g e k l =
    sym (get_or-map-range_with_len f 0 n k k d l (omega arith)) ∙ ap (λ (xs : List _). get_or xs k d) e ∙ get_or-map-range_with_len g 0 n k k d l (omega arith)

lines_are : map line_segments (range_with_len 0 10) ≡ map (λ line. entries line 31) (range_with_len 0 10)
unfolding line_segments is_segment
lines_are = refl

-- a full line has all its segments
pub line_is : (line : ℕ) → line < 10 → line_segments line ≡ entries line 31
line_is line l = same_at [] 10 line_segments (λ (line : ℕ). entries line 31) lines_are line l

abbrev kept_in : ℕ → ℕ → List ℕ
kept_in line content = filter (lies_in line content) (entries line 31)

kept_are : map (λ line. map (kept_in line) (range_with_len 0 32)) (range_with_len 0 10)
    ≡ map (λ line. map (entries line) (range_with_len 0 32)) (range_with_len 0 10)
unfolding lies_in segment_cells
kept_are = refl

-- the segments that lie in a content
pub kept_is : (line content : ℕ) → line < 10 → content < 32 → entries line content ≡ filter (lies_in line content) (line_segments line)
kept_is line content l h =
    let lists =
    same_at [] 10 (λ (line : ℕ). map (kept_in line) (range_with_len 0 32)) (λ (line : ℕ). map (entries line) (range_with_len 0 32)) kept_are line l in
    sym (same_at [] 32 (kept_in line) (entries line) lists content h) ∙ ap (λ (ms : List ℕ). filter (lies_in line content) ms) (sym (line_is line l))

abbrev is_placed : ℕ → ℕ → Bool
is_placed line cell = ltb (line_place line cell) 5 && (eqb (line_cell line (line_place line cell)) cell && ltb cell 25)

abbrev are_placed : ℕ → Bool
are_placed line = list_all (λ m. list_all (is_placed line) (segment_cells 5 m)) (entries line 31)

all_placed : list_all are_placed (range_with_len 0 10) ≡ true
unfolding segment_cells
all_placed = refl

-- a cell of a line's segment is at a place of the line
pub placed : (line m cell : ℕ) → line < 10 → Contains (line_segments line) m → Contains (segment_cells 5 m) cell
    → (line_place line cell < 5) × (line_cell line (line_place line cell) ≡ cell) × (cell < 25)
placed line m cell l c d =
    let here : Contains (entries line 31) m = rw (line_is line l) at c in
    let cells =
    all_at (λ (m : ℕ). list_all (is_placed line) (segment_cells 5 m)) (entries line 31) m (at_below 10 are_placed all_placed line l) here in
    let test = all_at (is_placed line) (segment_cells 5 m) cell cells d in
    let rest = and_right _ _ test in (ltb-true _ _ (and_left _ _ test), eqb-true _ _ (and_left _ _ rest), ltb-true _ _ (and_right _ _ rest))

abbrev is_small : ℕ → ℕ → ℕ → Bool
is_small line content place = ltb (get_or (block line content) place 0 + get_or SHIFTS line 0) 400

module _ (line content : ℕ) (l : line < 10) (h : content < 32) where
  -- a line has at most 15 of them
  pub most : held line content < 16
  most = ltb-true _ _ (at_each 10 32 (λ line content. ltb (held line content) 16) refl line content l h)

  -- a block has 16 numbers
  pub long : length (block line content) ≡ 16
  long = eqb-true _ _ (at_each 10 32 (λ line content. eqb (length (block line content)) 16) refl line content l h)

  -- a column has at most 10
  pub few : 5 ≤ line → held line content < 11
  few past = ltb-true _ _ (sym (ap (λ (b : Bool). b || ltb (held line content) 11) (le-ltb line 5 past)) ∙ at_each 10 32
      (λ line content. ltb line 5 || ltb (held line content) 11) refl line content l h)

  -- the numbers are small
  pub small : (place : ℕ) → place < 16 → get_or (block line content) place 0 + get_or SHIFTS line 0 < 400
  small place k = ltb-true _ _ (at_below 16 (is_small line content)
      (at_each 10 32 (λ line content. list_all (is_small line content) (range_with_len 0 16)) refl line content l h) place k)
