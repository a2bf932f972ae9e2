-- Segments of the squares of side 1 to 5: what computing shows of each, and what follows for all.
use Rattle.std.specs.Prelude.{◌≡◌, ◌+◌, ◌-◌, ◌*◌, ◌/◌, ◌%◌, ◌<◌, ◌≤◌, ◌&&◌, ◌||◌, ◌∷◌}
use Rattle.gm_pieces.specs.Common.{ℕ, zero, suc, min, max, Bool, true, false, cond, eqb, ltb, leb, List, [], reverse, length, get_or, refl, sym, ap, ap₂, ◌∙◌, subst, arith, inl, inr, eqb-true, eq-eqb, ltb-true, lt-ltb, leb-true, le-leb, Contains, list_all, range_with_len, or_cases, and_left, and_right, and_both, contains_range, contains_head, contains_later, filter_to, same_list, same_list_true, permute, all_at, IsGroup, any_at, group_inverse, undone, same_tests, any_from, square_symmetries, square_group}
use Rattle.std.proofs.lemmas.List.Sorted.{IsPermutation-reverse, IsPermutation-sym, Contains-permutation}
use Rattle.gm_tactix.specs.Segments.{first_cell, segment_length, goes_down, segment_cells, is_segment, move_number_bound, segments}
use Rattle.gm_tactix.specs.Board.{is_among}
use Rattle.gm_tactix.specs.Texts.{last_cell}

-- ---- tests that compute, for each side
-- the last of a list of cells, or 0
abbrev pub last_of : List ℕ → ℕ
last_of [] = 0
last_of (c ∷ []) = c
last_of (c ∷ d ∷ cs) = last_of (d ∷ cs)

-- the number of the segment of n cells between two cells
abbrev pub number_between : ℕ → ℕ → ℕ → ℕ → ℕ
number_between s n a b = 16 * min a b + 2 * n + cond (ltb (max a b - min a b) s) 0 1

-- the number of the segment that has these cells, in order or in reverse order
abbrev pub number_of : ℕ → List ℕ → ℕ
number_of s [] = 0
number_of s (c ∷ cs) = number_between s (length (c ∷ cs)) c (last_of (c ∷ cs))

-- whether the cells are those of the segment m, in order or in reverse order
abbrev pub are_cells : ℕ → List ℕ → ℕ → Bool
are_cells s cs m = is_segment s m && (same_list cs (segment_cells s m) || same_list cs (reverse (segment_cells s m)))

-- whether a symmetry takes a segment to a segment
abbrev keeps : ℕ → List ℕ → ℕ → Bool
keeps s g m = are_cells s (permute 0 (segment_cells s m) g) (number_of s (permute 0 (segment_cells s m) g))

-- whether the cells of a segment are on the square, its last cell too
abbrev is_within : ℕ → ℕ → Bool
is_within s m = list_all (λ k. ltb k (s * s)) (last_cell s m ∷ segment_cells s m)

-- what holds for each side from 1 to 5
pub for_sides : (P : ℕ → Type 0) → P 1 → P 2 → P 3 → P 4 → P 5 → (s : ℕ) → 1 ≤ s → s ≤ 5 → P s
for_sides P a b c d e zero l h = absurd (omega arith)
for_sides P a b c d e (suc zero) l h = a
for_sides P a b c d e (suc (suc zero)) l h = b
for_sides P a b c d e (suc (suc (suc zero))) l h = c
for_sides P a b c d e (suc (suc (suc (suc zero)))) l h = d
for_sides P a b c d e (suc (suc (suc (suc (suc zero))))) l h = e
for_sides P a b c d e (suc (suc (suc (suc (suc (suc s)))))) l h = absurd (omega arith)

all_kept : (s : ℕ) → 1 ≤ s → s ≤ 5 → list_all (λ g. list_all (keeps s g) (segments s)) (square_symmetries s) ≡ true
unfolding segment_cells is_segment square_symmetries
all_kept = for_sides (λ s. list_all (λ g. list_all (keeps s g) (segments s)) (square_symmetries s) ≡ true) refl refl refl refl refl

all_within : (s : ℕ) → 1 ≤ s → s ≤ 5 → list_all (is_within s) (segments s) ≡ true
unfolding segment_cells is_segment
all_within = for_sides (λ s. list_all (is_within s) (segments s) ≡ true) refl refl refl refl refl

-- there are at most 128 segments
pub segments_few : (s : ℕ) → 1 ≤ s → s ≤ 5 → length (segments s) ≤ 128
unfolding is_segment
segments_few = for_sides (λ s. length (segments s) ≤ 128) (omega arith) (omega arith) (omega arith) (omega arith) (omega arith)

-- a square has at most 25 cells
pub square_small : (s : ℕ) → 1 ≤ s → s ≤ 5 → s * s ≤ 25
square_small = for_sides (λ s. s * s ≤ 25) (omega arith) (omega arith) (omega arith) (omega arith) (omega arith)

-- a square has at most 25 cells, also with side 0
pub square_few : (s : ℕ) → s ≤ 5 → s * s ≤ 25
square_few zero h = omega arith
square_few (suc s) h = square_small (suc s) (omega arith) h

-- ---- single segments
-- the least cell is on the square
pub first_within : (s m : ℕ) → is_segment s m ≡ true → first_cell m < s * s
unfolding is_segment
first_within s m e = ltb-true (first_cell m) (s * s) (and_left _ _ e)

-- numbers of segments are below the end
pub number_below : (s m : ℕ) → is_segment s m ≡ true → m < move_number_bound s
number_below s m e = let l = first_within s m e in omega (arith, l)

two_bounds : (b : Bool) (n x y s : ℕ) → cond b (leb 2 n && leb (x + n) s) (leb 1 n && leb (y + n) s) ≡ true → (1 ≤ n) × (n ≤ s)
two_bounds true n x y s e =
    let a : 2 ≤ n = leb-true 2 n (and_left _ _ e) in
    let c : x + n ≤ s = leb-true (x + n) s (and_right (leb 2 n) (leb (x + n) s) e) in (omega arith, omega arith)
two_bounds false n x y s e =
    let a : 1 ≤ n = leb-true 1 n (and_left _ _ e) in
    let c : y + n ≤ s = leb-true (y + n) s (and_right (leb 1 n) (leb (y + n) s) e) in (omega arith, omega arith)

-- a segment has at least one cell and at most a whole row or column
pub length_bounds : (s m : ℕ) → is_segment s m ≡ true → (1 ≤ segment_length m) × (segment_length m ≤ s)
unfolding is_segment
length_bounds s m e = two_bounds (goes_down m) (segment_length m) (first_cell m / s) (first_cell m % s) s (and_right _ _ e)

-- there is a segment of each single cell
pub single : (s k : ℕ) → 1 ≤ s → k < s * s → is_segment s (16 * k + 2) ≡ true
unfolding is_segment
single s k l h =
    let f : first_cell (16 * k + 2) ≡ k = omega arith in
    let n : segment_length (16 * k + 2) ≡ 1 = omega arith in
    let d : (16 * k + 2) % 2 ≡ 0 = omega arith in
    let r : k % s + 1 ≤ s = omega arith in
    rw (f, n, d) (and_both _ _ (lt-ltb k (s * s) h) (le-leb (k % s + 1) s r))

-- the segment of a single cell has this cell alone
pub single_cells : (s k : ℕ) → segment_cells s (16 * k + 2) ≡ k ∷ []
unfolding segment_cells
single_cells s k =
    let f : first_cell (16 * k + 2) ≡ k = omega arith in
    let n : segment_length (16 * k + 2) ≡ 1 = omega arith in
    rw (f, n) refl

-- ---- all segments
pub in_segments : (s m : ℕ) → is_segment s m ≡ true → Contains (segments s) m
in_segments s m e = filter_to (is_segment s) (range_with_len 0 (move_number_bound s)) m (contains_range (move_number_bound s) m (number_below s m e)) e

module _ (s : ℕ) (low : 1 ≤ s) (high : s ≤ 5) where
  within : (m : ℕ) → is_segment s m ≡ true → is_within s m ≡ true
  within m e = all_at (is_within s) (segments s) m (all_within s low high) (in_segments s m e)

  -- the cells of a segment are on the square
  pub cells_within : (m k : ℕ) → is_segment s m ≡ true → Contains (segment_cells s m) k → k < s * s
  cells_within m k e c = ltb-true k (s * s) (all_at (λ (j : ℕ). ltb j (s * s)) (segment_cells s m) k (and_right _ _ (within m e)) c)

  -- its last cell is
  pub last_within : (m : ℕ) → is_segment s m ≡ true → last_cell s m < s * s
  last_within m e = ltb-true _ _ (and_left _ _ (within m e))

  kept : (g : List ℕ) (m : ℕ) → Contains (square_symmetries s) g → is_segment s m ≡ true → keeps s g m ≡ true
  kept g m c e =
      all_at (keeps s g) (segments s) m (all_at (λ (h : List ℕ). list_all (keeps s h) (segments s)) (square_symmetries s) g (all_kept s low high) c)
      (in_segments s m e)

-- ---- what is among the cells of an image
-- a cell that is among cells is one of them
pub among_in : (k : ℕ) (cs : List ℕ) → is_among k cs ≡ true → Contains cs k
among_in k cs e =
    let x = any_at (λ (c : ℕ). eqb c k) cs e in subst (λ (c : ℕ). Contains cs c) (eqb-true x.0 k x.2) x.1

-- a cell that is one of some cells is among them
pub among_from : (k : ℕ) (cs : List ℕ) → Contains cs k → is_among k cs ≡ true
among_from k cs c = any_from (λ (c : ℕ). eqb c k) cs k c (eq-eqb k k refl)

-- the order of the cells does not matter
among_reverse : (k : ℕ) (cs : List ℕ) → is_among k (reverse cs) ≡ is_among k cs
among_reverse k cs =
    let order = IsPermutation-reverse cs in
    same_tests _ _
    (λ e. among_from k cs (Contains-permutation (reverse cs) cs k (IsPermutation-sym cs (reverse cs) order) (among_in k (reverse cs) e)))
    (λ e. among_from k (reverse cs) (Contains-permutation cs (reverse cs) k order (among_in k cs e)))

module _ (n : ℕ) (G : List (List ℕ)) (o : IsGroup n G) (g h : List ℕ) (c : Contains G g) (d : Contains G h)
    (gh : permute 0 g h ≡ range_with_len 0 n) (hg : permute 0 h g ≡ range_with_len 0 n) where
  cell_back : (k x : ℕ) → k < n → x < n → eqb (get_or h x 0) k ≡ eqb x (get_or g k 0)
  cell_back k x l m =
      same_tests _ _
      (λ e. eq-eqb _ _ (sym (undone n G o h g d c hg x m) ∙ ap (λ (y : ℕ). get_or g y 0) (eqb-true _ _ e)))
      (λ e. eq-eqb _ _ (ap (λ (y : ℕ). get_or h y 0) (eqb-true _ _ e) ∙ undone n G o g h c d gh k l))

  among_mapped : (k : ℕ) (cs : List ℕ) → k < n → ((x : ℕ) → Contains cs x → x < n) → is_among k (permute 0 cs h) ≡ is_among (get_or g k 0) cs
  among_mapped k [] l all = refl
  among_mapped k (x ∷ cs) l all =
      ap₂ (λ (a b : Bool). a || b) (cell_back k x l (all x (contains_head x cs))) (among_mapped k cs l (λ y e. all y (contains_later x cs y e)))

-- the segment that a symmetry brings to another: it has a cell where that one has the cell whose piece comes there
pub segment_image : (s : ℕ) → 1 ≤ s → s ≤ 5 → (g : List ℕ) (m : ℕ) → Contains (square_symmetries s) g → is_segment s m ≡ true
    → (n : ℕ) × (is_segment s n ≡ true) × ((k : ℕ) → k < s * s → is_among k (segment_cells s n) ≡ is_among (get_or g k 0) (segment_cells s m))
segment_image s low high g m c e =
    let G = square_symmetries s in
    let o = square_group s low high in
    let h = group_inverse (s * s) G o g c in
    let cs = permute 0 (segment_cells s m) h.0 in
    let n = number_of s cs in
    let t = kept s low high h.0 m h.1 e in
    let same : (k : ℕ) → is_among k (segment_cells s n) ≡ is_among k cs =
    λ k. elim (or_cases _ _ (and_right _ _ t)) [
      | inl f ↦ ap (is_among k) (sym (same_list_true cs (segment_cells s n) f))
      | inr f ↦ sym (among_reverse k (segment_cells s n)) ∙ ap (is_among k) (sym (same_list_true cs (reverse (segment_cells s n)) f))
    ] in
    (n, and_left _ _ t, λ k l. same k ∙ among_mapped (s * s) G o g h.0 c h.1 h.2 h.3 k (segment_cells s m) l (λ x f. cells_within s low high m x e f))
