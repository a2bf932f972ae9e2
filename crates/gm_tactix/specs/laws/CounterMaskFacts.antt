-- Boards of counters against masks: what the code's steps on masks say of boards.
use Rattle.std.specs.Prelude.{◌≡◌, ◌+◌, ◌*◌, ◌^◌, ◌<◌, ◌≤◌, ◌&&◌, ◌||◌, ◌∷◌, ◌↔◌}
use Rattle.gm_pieces.specs.Common.{ℕ, zero, suc, Bool, true, false, not, eqb, List, [], map, reverse, length, refl, sym, ap, ap₂, ◌∙◌, subst, arith, inl, inr, zero-add, eq-eqb, bit_and, bit_or, count_ones, bit_at, Contains, range_with_len, ext_get_or, cases_eq, ne_eqb, not-true, reverse-append, reverse-reverse, length-map-range_with_len, get_or-map-range_with_len, map-range_with_len_more, bit_at-zero, bit_at-pow_same, bit_at-pow_other, members, rank, has_cell, tests_of, mask_rank, mask_unrank, tests_none, tests_more, members_small, mask_rank_at, tests_unrank, permute, all_at, IsPermutationOf, image_mask, image_tests, pattern_mask, has_or, has_and, has_none, all_from, and_false}
use Rattle.gm_tactix.specs.Board.{has_counter, is_free, is_among, without, with_counters, counters_index, counters_at}
use Rattle.gm_tactix.specs.laws.SegmentFacts.{among_in, among_from}
use Rattle.gm_tactix.specs.laws.CounterFacts.{length_without, length_with, without_at, with_at, members_reverse}
use Rattle.gm_tactix.specs.inner.CounterMasks.{counters_of}

-- one test a cell
pub counters_length : (n mask : ℕ) → length (counters_of n mask) ≡ n
unfolding counters_of
counters_length n mask = length-map-range_with_len (has_cell mask) 0 n

-- a cell
pub counter_at : (n mask k : ℕ) → k < n → has_counter (counters_of n mask) k ≡ has_cell mask k
unfolding counters_of
counter_at n mask k l = get_or-map-range_with_len (has_cell mask) 0 n k k false l (zero-add k)

-- the cells, the highest first
pub counters_reverse : (n mask : ℕ) → reverse (counters_of n mask) ≡ tests_of n mask
unfolding counters_of
counters_reverse zero mask = sym (tests_none mask)
counters_reverse (suc n) mask =
    ap (λ (k : ℕ). reverse (map (has_cell mask) (range_with_len 0 k))) (let z : suc n ≡ n + 1 = omega arith in z)
    ∙ ap reverse (map-range_with_len_more (has_cell mask) 0 n n (zero-add n))
    ∙ reverse-append (map (has_cell mask) (range_with_len 0 n)) (has_cell mask n ∷ [])
    ∙ ap (λ (bs : List Bool). has_cell mask n ∷ bs) (counters_reverse n mask)
    ∙ sym (tests_more n mask)

-- the tier and the index of the board of a mask
pub counters_members : (n mask : ℕ) → mask < 2 ^ n → members (counters_of n mask) ≡ count_ones mask
counters_members n mask l = sym (members_reverse (counters_of n mask)) ∙ ap members (counters_reverse n mask) ∙ members_small n mask l

-- its index is the rank of the mask
pub counters_rank : (n mask : ℕ) → n ≤ 32 → mask < 2 ^ n → counters_index (counters_of n mask) ≡ mask_rank mask
unfolding counters_index
counters_rank n mask s l = ap rank (counters_reverse n mask) ∙ sym (mask_rank_at n mask s l)

-- the board of a rank
pub counters_unrank : (s t i : ℕ) → counters_at s t i ≡ counters_of (s * s) (mask_unrank (s * s) t i)
unfolding counters_at
counters_unrank s t i =
    ap reverse (sym (tests_unrank (s * s) t i) ∙ sym (counters_reverse (s * s) (mask_unrank (s * s) t i)))
    ∙ reverse-reverse (counters_of (s * s) (mask_unrank (s * s) t i))

-- the image of a board
pub counters_permute : (n : ℕ) (g : List ℕ) (mask : ℕ) → IsPermutationOf n g → permute false g (counters_of n mask) ≡ counters_of n (image_mask g mask)
unfolding counters_of
counters_permute n g mask p = image_tests n g mask p

-- ---- patterns
-- the mask of a list of cells has each of them, and no other
pub has_pattern : (cs : List ℕ) (k : ℕ) → has_cell (pattern_mask cs) k ≡ is_among k cs
has_pattern [] k = ap (λ (v : ℕ). eqb v 1) (bit_at-zero k)
has_pattern (c ∷ cs) k =
    has_or (2 ^ c) (pattern_mask cs) k ∙
    ap₂ (λ (x y : Bool). x || y)
    (elim (cases_eq k c) [
      | inl e ↦ ap (λ (v : ℕ). eqb v 1) (ap (bit_at (2 ^ c)) e ∙ bit_at-pow_same c) ∙ sym (eq-eqb c k (sym e))
      | inr n ↦ ap (λ (v : ℕ). eqb v 1) (bit_at-pow_other c k n) ∙ sym (ne_eqb c k (λ e. n (sym e)))
    ])
    (has_pattern cs k)

-- ---- segments and masks
module _ (n mask : ℕ) (cs : List ℕ) (below : (k : ℕ) → Contains cs k → k < n) where
  -- the mask has none of the cells exactly if none has a counter
  pub free_mask : (bit_and mask (pattern_mask cs) ≡ 0) ↔ (is_free (counters_of n mask) cs ≡ true)
  free_mask = (
    λ e. all_from (λ (k : ℕ). not (has_counter (counters_of n mask) k)) cs
        (λ k c.
        let none : (has_cell mask k && is_among k cs) ≡ false =
        ap (λ (x : Bool). has_cell mask k && x) (sym (has_pattern cs k)) ∙ sym (has_and mask (pattern_mask cs) k) ∙ ap (λ (v : ℕ). has_cell v k) e ∙ ap
        (λ (v : ℕ). eqb v 1) (bit_at-zero k) in
        ap not (counter_at n mask k (below k c) ∙ first_false (has_cell mask k) (is_among k cs) none (among_from k cs c))),
    λ e. has_none (bit_and mask (pattern_mask cs))
        (λ i. has_and mask (pattern_mask cs) i
        ∙ ap (λ (x : Bool). has_cell mask i && x) (has_pattern cs i)
        ∙ both_false (has_cell mask i) (is_among i cs)
        (λ f. let c = among_in i cs f in sym (counter_at n mask i (below i c)) ∙ not-true _
        (all_at (λ (k : ℕ). not (has_counter (counters_of n mask) k)) cs i e c))),
  )
    where
      first_false : (x y : Bool) → (x && y) ≡ false → y ≡ true → x ≡ false
      first_false x y e f = grind arith

      both_false : (x y : Bool) → (y ≡ true → x ≡ false) → (x && y) ≡ false
      both_false x true h = ap (λ (z : Bool). z && true) (h refl)
      both_false x false h = and_false x

-- the board of a mask that has the cells on which a board has counters
pub same_mask : (n mask : ℕ) (b : List Bool) → length b ≡ n → ((k : ℕ) → k < n → has_cell mask k ≡ has_counter b k) → counters_of n mask ≡ b
same_mask n mask b e h =
    ext_get_or false (counters_of n mask) b (counters_length n mask ∙ sym e)
    (λ k l. let m : k < n = omega (arith, l, counters_length n mask) in counter_at n mask k m ∙ h k m)

-- the board with cells emptied is that of the mask without them
pub without_mask : (n mask rest : ℕ) (cs : List ℕ) → ((k : ℕ) → k < n → has_cell rest k ≡ (has_cell mask k && not (has_cell (pattern_mask cs) k)))
    → counters_of n rest ≡ without (counters_of n mask) cs
without_mask n mask rest cs h =
    same_mask n rest (without (counters_of n mask) cs) (length_without (counters_of n mask) cs ∙ counters_length n mask) (λ k m.
    h k m
    ∙ ap₂ (λ (x y : Bool). x && not y) (sym (counter_at n mask k m)) (has_pattern cs k)
    ∙ sym (without_at (counters_of n mask) cs k))

-- the board with cells filled is that of the mask with them
pub with_mask : (n mask : ℕ) (cs : List ℕ) → counters_of n (bit_or mask (pattern_mask cs)) ≡ with_counters (counters_of n mask) cs
with_mask n mask cs =
    same_mask n (bit_or mask (pattern_mask cs)) (with_counters (counters_of n mask) cs) (length_with (counters_of n mask) cs ∙ counters_length n mask) (λ k m.
    has_or mask (pattern_mask cs) k
    ∙ ap₂ (λ (x y : Bool). x || y) (sym (counter_at n mask k m)) (has_pattern cs k)
    ∙ sym (with_at (counters_of n mask) cs k (subst (λ (j : ℕ). k < j) (sym (counters_length n mask)) m)))
