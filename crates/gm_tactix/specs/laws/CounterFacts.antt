-- Boards of counters: cells emptied and filled, and how many counters there are.
use Rattle.std.specs.Prelude.{◌≡◌, ◌+◌, ◌<◌, ◌&&◌, ◌||◌, ◌∷◌}
use Rattle.gm_pieces.specs.Common.{ℕ, zero, suc, Bool, true, false, not, List, [], map, reverse, length, set, refl, sym, ap, ap₂, ◌∙◌, subst, arith, inl, inr, length-set, get_or-set_same, get_or-set_other, eq-eqb, Contains, range_with_len, sum_by, cases_lt, cases_eq, ne_eqb, not-true, ext_get_or, get_or_past, length-map-range_with_len, get_or-map-range_with_len, all_from, and_left, and_right, and_true, and_false, bit_weight, members, all_at}
use Rattle.std.proofs.lemmas.List.Sorted.{sum_by-IsPermutation, IsPermutation-reverse}
use Rattle.std.proofs.lemmas.List.Sums.{sum_by-cons}
use Rattle.gm_tactix.specs.Segments.{cells_from}
use Rattle.gm_tactix.specs.Board.{has_counter, is_full, is_free, is_among, without, with_counters}
use Rattle.gm_tactix.specs.laws.SegmentFacts.{among_in, among_from}

-- ---- cells of boards
-- a board has as many cells after cells are emptied
pub length_without : (b : List Bool) (cs : List ℕ) → length (without b cs) ≡ length b
unfolding without
length_without b cs = length-map-range_with_len (λ (k : ℕ). has_counter b k && not (is_among k cs)) 0 (length b)

-- a board has as many cells after cells are filled
pub length_with : (b : List Bool) (cs : List ℕ) → length (with_counters b cs) ≡ length b
unfolding with_counters
length_with b cs = length-map-range_with_len (λ (k : ℕ). has_counter b k || is_among k cs) 0 (length b)

past_false : (a b : Bool) → b ≡ false → false ≡ (b && a)
past_false a b e = rw e refl

-- a cell of a board with cells emptied
pub without_at : (b : List Bool) (cs : List ℕ) (k : ℕ) → has_counter (without b cs) k ≡ (has_counter b k && not (is_among k cs))
unfolding without
without_at b cs k = elim (cases_lt k (length b)) [
  | inl l ↦ get_or-map-range_with_len (λ (k : ℕ). has_counter b k && not (is_among k cs)) 0 (length b) k k false l (omega arith)
  | inr l ↦ get_or_past (map (λ (k : ℕ). has_counter b k && not (is_among k cs)) (range_with_len 0 (length b))) k false
      (let e = length-map-range_with_len (λ (k : ℕ). has_counter b k && not (is_among k cs)) 0 (length b) in omega (arith, e))
      ∙ past_false (not (is_among k cs)) (has_counter b k) (get_or_past b k false l)
]

-- a cell of a board with cells filled
pub with_at : (b : List Bool) (cs : List ℕ) (k : ℕ) → k < length b → has_counter (with_counters b cs) k ≡ (has_counter b k || is_among k cs)
unfolding with_counters
with_at b cs k l = get_or-map-range_with_len (λ (k : ℕ). has_counter b k || is_among k cs) 0 (length b) k k false l (omega arith)

-- ---- full and free cells
-- a free cell has no counter
pub free_at : (b : List Bool) (cs : List ℕ) (k : ℕ) → is_free b cs ≡ true → Contains cs k → has_counter b k ≡ false
free_at b cs k e c = not-true _ (all_at (λ (j : ℕ). not (has_counter b j)) cs k e c)

-- cells that were emptied are free
pub free_without : (b : List Bool) (cs : List ℕ) → is_free (without b cs) cs ≡ true
free_without b cs =
    all_from (λ (k : ℕ). not (has_counter (without b cs) k)) cs
    (λ k c. ap not (without_at b cs k ∙ ap (λ (x : Bool). has_counter b k && not x) (among_from k cs c) ∙ and_false (has_counter b k)))

-- free cells that are filled and emptied again leave the board unchanged
pub without_with : (b : List Bool) (cs : List ℕ) → is_free b cs ≡ true → without (with_counters b cs) cs ≡ b
without_with b cs e =
    ext_get_or false (without (with_counters b cs) cs) b (length_without (with_counters b cs) cs ∙ length_with b cs)
    (λ k l. let m : k < length b = omega (arith, length_without (with_counters b cs) cs, length_with b cs) in
    without_at (with_counters b cs) cs k
    ∙ ap (λ (x : Bool). x && not (is_among k cs)) (with_at b cs k m)
    ∙ back (has_counter b k) (is_among k cs) (λ f. free_at b cs k e (among_in k cs f)))
  where
    back : (x y : Bool) → (y ≡ true → x ≡ false) → ((x || y) && not y) ≡ x
    back x y h = grind arith

-- full cells that are emptied and filled again leave the board unchanged
pub with_without : (b : List Bool) (cs : List ℕ) → is_full b cs ≡ true → with_counters (without b cs) cs ≡ b
with_without b cs e =
    ext_get_or false (with_counters (without b cs) cs) b (length_with (without b cs) cs ∙ length_without b cs)
    (λ k l. let m : k < length (without b cs) = omega (arith, length_with (without b cs) cs) in
    with_at (without b cs) cs k m
    ∙ ap (λ (x : Bool). x || is_among k cs) (without_at b cs k)
    ∙ back (has_counter b k) (is_among k cs) (λ f. all_at (has_counter b) cs k e (among_in k cs f)))
  where
    back : (x y : Bool) → (y ≡ true → x ≡ true) → ((x && not y) || y) ≡ x
    back x y h = grind arith

-- ---- numbers of counters
pub members_weight : (b : List Bool) → members b ≡ sum_by bit_weight b
members_weight [] = refl
members_weight (true ∷ b) = let e = sum_by-cons bit_weight true b in omega (arith, members_weight b, e)
members_weight (false ∷ b) = let e = sum_by-cons bit_weight false b in omega (arith, members_weight b, e)

-- the order of the cells does not matter
pub members_reverse : (b : List Bool) → members (reverse b) ≡ members b
members_reverse b = members_weight (reverse b) ∙ sum_by-IsPermutation bit_weight b (reverse b) (IsPermutation-reverse b) ∙ sym (members_weight b)

-- a board with one counter fewer
members_set : (b : List Bool) (c : ℕ) → has_counter b c ≡ true → members (set b c false) + 1 ≡ members b
members_set [] c e = absurd (let z : ⊥ = cc in z)
members_set (true ∷ b) zero e = omega arith
members_set (false ∷ b) zero e = absurd (let z : ⊥ = cc in z)
members_set (true ∷ b) (suc c) e = omega (arith, members_set b c e)
members_set (false ∷ b) (suc c) e = omega (arith, members_set b c e)

-- a cell before the first of some cells is not among them
among_later : (k c step n : ℕ) → k < c → is_among k (cells_from c step n) ≡ false
among_later k c step zero l = refl
among_later k c step (suc n) l =
    ap₂ (λ (x y : Bool). x || y) (ne_eqb c k (λ e. omega arith)) (among_later k (c + step) step n (omega arith))

without_none : (b : List Bool) → without b [] ≡ b
without_none b =
    ext_get_or false (without b []) b (length_without b []) (λ k l. without_at b [] k ∙ and_true (has_counter b k))

without_more : (b : List Bool) (c : ℕ) (cs : List ℕ) → without b (c ∷ cs) ≡ set (without b cs) c false
without_more b c cs =
    ext_get_or false (without b (c ∷ cs)) (set (without b cs) c false)
    (length_without b (c ∷ cs) ∙ sym (length-set (without b cs) c false ∙ length_without b cs))
    (λ k l. let m : k < length (without b cs) = omega (arith, length_without b (c ∷ cs), length_without b cs) in
    without_at b (c ∷ cs) k ∙
    elim (cases_eq k c) [
      | inl e ↦ ap (λ (x : Bool). has_counter b k && not (x || is_among k cs)) (eq-eqb c k (sym e))
          ∙ and_false (has_counter b k)
          ∙ sym (ap (λ (j : ℕ). has_counter (set (without b cs) c false) j) e ∙ get_or-set_same (without b cs) c false false
          (subst (λ (j : ℕ). j < length (without b cs)) e m))
      | inr n ↦ ap (λ (x : Bool). has_counter b k && not (x || is_among k cs)) (ne_eqb c k (λ e. n (sym e)))
          ∙ sym (without_at b cs k)
          ∙ sym (get_or-set_other (without b cs) c k false false n)
    ])

-- taking n counters from cells in a row leaves n fewer
pub members_without : (b : List Bool) (c step n : ℕ) → 0 < step → is_full b (cells_from c step n) ≡ true → members (without b (cells_from c step n)) + n ≡
    members b
members_without b c step zero p e = let q : members (without b []) ≡ members b = ap members (without_none b) in omega arith
members_without b c step (suc n) p e =
    let rest = cells_from (c + step) step n in
    let here : has_counter (without b rest) c ≡ true =
    without_at b rest c ∙ ap₂ (λ (x y : Bool). x && not y) (and_left _ _ e) (among_later c (c + step) step n (omega arith)) in
    let q : members (without b (c ∷ rest)) ≡ members (set (without b rest) c false) = ap members (without_more b c rest) in
    let r = members_set (without b rest) c here in
    let i : members (without b rest) + n ≡ members b = members_without b (c + step) step n p (and_right (has_counter b c) (is_full b rest) e) in
    omega (arith, q, r, i)

-- a board with counters has one on some cell
pub some_counter : (b : List Bool) → 0 < members b → (k : ℕ) × (k < length b) × (has_counter b k ≡ true)
some_counter [] l = absurd (omega arith)
some_counter (true ∷ b) l = (0, omega arith, refl)
some_counter (false ∷ b) l = let x = some_counter b l in let k = x.1 in (suc x.0, omega arith, x.2)
