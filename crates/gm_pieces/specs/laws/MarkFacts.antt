-- Numbers that masks mark: the places of a mask from the lowest on, and the numbers at them.
use Rattle.std.specs.Prelude.{◌≡◌, ◌≢◌, ◌↔◌, ◌+◌, ◌*◌, ◌%◌, ◌^◌, ◌<◌, ◌≤◌, ◌∷◌, ◌++◌, ◌&&◌, count_ones, bit_and}
use Rattle.std.proofs.Common.{ℕ, zero, suc, Bool, true, false, List, [], map, length, refl, sym, ap, ap₂, ◌∙◌, subst, arith, inl, inr, true≢false, eqb, eqb-true}
use Rattle.std.proofs.lemmas.List.{append-nil, length-append, length-map}
use Rattle.std.proofs.lemmas.Bool.{cases_Bool, cases_lt, cases_eq}
use Rattle.std.specs.Int.{bit_at, bit_not, trailing_zeros, w64}
use Rattle.std.proofs.lemmas.Nat.Bits.{bit_at_clear_same, bit_at_clear_other, bit_at-zero, bit_at-lt, bit_at-trailing_zeros}
use Rattle.gm_board.specs.Masks.{has_cell}
use Rattle.gm_board.specs.Ranks.{members}
use Rattle.gm_board.specs.laws.Masks.{members_small, tests_none, tests_more, members_add, members_skip}
unfoldable use Rattle.gm_board.specs.Masks.{tests_of}
use Rattle.std.specs.List.{Contains, filter, range_with_len}
use Rattle.gm_board.specs.laws.Lists.{filter_from, filter_to, contains_cases, contains_head, contains_later, contains_range, range_below}
use Rattle.gm_board.specs.laws.Filters.{filter_in, filter_out, nil_or}
use Rattle.gm_game.specs.Rules.{IsAscending}
use Rattle.gm_board.specs.laws.MaskChanges.{no_bit}
use Rattle.gm_board.specs.laws.NextCells.{cell_one, cell_none}
use Rattle.gm_pieces.specs.laws.Listed.{ascending_cons, ascending_once, filter_ascending}
use Rattle.gm_pieces.specs.declared.marks.MarkedRun.{MarkedRun}
use Rattle.gm_pieces.specs.declared.marks.Marks.{Marks}
use Rattle.gm_pieces.specs.inner.Marking.{places, run_number, numbers, marked}

-- ---- places
pub place_in : (m k : ℕ) → Contains (places m) k → (k < 64) × (has_cell m k ≡ true)
unfolding places
place_in m k c = let x = filter_from (has_cell m) (range_with_len 0 64) k c in (range_below 64 k x.0, x.1)

pub place_from : (m k : ℕ) → k < 64 → has_cell m k ≡ true → Contains (places m) k
unfolding places
place_from m k l e = filter_to (has_cell m) (range_with_len 0 64) k (contains_range 64 k l) e

pub places_ascend : (m : ℕ) → IsAscending (places m)
unfolding places
places_ascend m = filter_ascending (has_cell m) 0 64

-- as many as the mask has ones
cells_are_members : (m n : ℕ) → length (filter (has_cell m) (range_with_len 0 n)) ≡ members (tests_of n m)
cells_are_members m zero = ap members (sym (tests_none m))
cells_are_members m (suc n) =
    let below = filter (has_cell m) (range_with_len 0 n) in
    let at : suc n ≡ n + 1 = omega arith in
    let same = ap (λ (k : ℕ). length (filter (has_cell m) (range_with_len 0 k))) at in
    let i = cells_are_members m n in
    elim (cases_Bool (has_cell m n)) [
      | inl e ↦ (
          let a = ap (λ (xs : List ℕ). length xs) (filter_in (has_cell m) n e) in
          let b = length-append below (n ∷ []) in
          let c = members_add n m (eqb-true _ _ e) in
          omega (arith, same, i, a, b, c))
      | inr e ↦ (
          let a = ap (λ (xs : List ℕ). length xs) (filter_out (has_cell m) n e) in
          let c = members_skip n m (no_bit _ (bit_at-lt m n) e) in
          omega (arith, same, i, a, c))
    ]

places_counted : (m : ℕ) → m < 2 ^ 64 → length (places m) ≡ count_ones m
unfolding places
places_counted m l = cells_are_members m 64 ∙ members_small 64 m l

places_none : (m : ℕ) → m ≡ 0 → places m ≡ []
places_none m e = nil_or (places m) (λ k c. true≢false (sym (place_in m k c).1 ∙ ap (λ (v : ℕ). has_cell v k) e ∙ cell_none 0 k (bit_at-zero k)))

-- the lowest place, and those of what is left without it
module _ (m : ℕ) (some : 0 < m) (fits : m < 2 ^ 64) where
  abbrev first : ℕ
  first = trailing_zeros w64 m

  abbrev rest : ℕ
  rest = bit_and m (bit_not w64 (1 * 2 ^ first % 2 ^ 64))

  low : (first < 64) × (bit_at m first ≡ 1) × ((i : ℕ) → i < first → bit_at m i ≡ 0)
  low = bit_at-trailing_zeros w64 m some fits

  other : (k : ℕ) → k < 64 → k ≢ first → has_cell rest k ≡ has_cell m k
  other k l n = ap (λ (v : ℕ). eqb v 1) (bit_at_clear_other w64 m first low.0 k l n)

  rest_later : (k : ℕ) → Contains (places rest) k → first < k
  rest_later k c =
      let p = place_in rest k c in
      elim (cases_lt first k) [
        | inl l ↦ l
        | inr l ↦ absurd (elim (cases_eq k first) [
          | inl e ↦ true≢false (sym p.1 ∙ ap (has_cell rest) e ∙ cell_none rest first (bit_at_clear_same w64 m first low.0))
          | inr n ↦ true≢false (sym p.1 ∙ other k p.0 n ∙ cell_none m k (low.2 k (omega (arith, l, n))))
        ])
      ]

  place_split : (k : ℕ) → Contains (places m) k → Contains (first ∷ places rest) k
  place_split k c = let p = place_in m k c in elim (cases_eq k first) [
    | inl e ↦ subst (Contains (first ∷ places rest)) (sym e) (contains_head first (places rest))
    | inr n ↦ contains_later first (places rest) k (place_from rest k p.0 (other k p.0 n ∙ p.1))
  ]

  place_whole : (k : ℕ) → Contains (first ∷ places rest) k → Contains (places m) k
  place_whole k c = elim (contains_cases first (places rest) k c) [
    | inl e ↦ subst (Contains (places m)) e (place_from m first low.0 (cell_one m first low.1))
    | inr r ↦ (
        let p = place_in rest k r in
        let l = rest_later k r in
        place_from m k p.0 (sym (other k p.0 (λ e. omega (arith, e, l))) ∙ p.1))
  ]

  pub places_split : places m ≡ first ∷ places rest
  places_split =
      ascending_once (places m) (first ∷ places rest) (places_ascend m) (ascending_cons first (places rest) rest_later (places_ascend rest))
      (λ k. (place_split k, place_whole k))

-- ---- the numbers of runs
pub ones_are_numbers : (r : MarkedRun) → r.marks < 2 ^ 64 → count_ones r.marks ≡ length (numbers r)
ones_are_numbers r l = sym (places_counted r.marks l) ∙ sym (length-map (places r.marks) (run_number r))

pub no_numbers : (r : MarkedRun) → r.marks ≡ 0 → numbers r ≡ []
no_numbers r e = ap (map (run_number r)) (places_none r.marks e)

-- the first number of a run, and those of the run without it
pub run_split : (r : MarkedRun) → 0 < r.marks → r.marks < 2 ^ 64 → numbers r ≡ run_number r (trailing_zeros w64 r.marks) ∷ map (run_number r) (places (bit_and r.marks (bit_not w64 (1 * 2 ^ trailing_zeros w64 r.marks % 2 ^ 64))))
run_split r some fits = ap (map (run_number r)) (places_split r.marks some fits)

pub marked_long : (c : Marks) → length (numbers c.a) + length (numbers c.b) + length (numbers c.c) + length (numbers c.d) ≡ length (marked c)
marked_long c =
    let x = length-append (numbers c.a) (numbers c.b ++ (numbers c.c ++ numbers c.d)) in
    let y = length-append (numbers c.b) (numbers c.c ++ numbers c.d) in
    let z = length-append (numbers c.c) (numbers c.d) in
    omega (arith, x, y, z)

pub two_marked : (c : Marks) (xs ys : List ℕ) → numbers c.a ≡ xs → numbers c.b ≡ ys → numbers c.c ≡ [] → numbers c.d ≡ [] → marked c ≡ xs ++ ys
two_marked c xs ys e f g h =
    ap (λ (ns : List ℕ). numbers c.a ++ (numbers c.b ++ (numbers c.c ++ ns))) h
    ∙ ap (λ (ns : List ℕ). numbers c.a ++ (numbers c.b ++ (ns ++ []))) g
    ∙ ap₂ (λ (ms ns : List ℕ). ms ++ ns) e (append-nil (numbers c.b) ∙ f)

pub one_marked : (c : Marks) (xs ys : List ℕ) → marked c ≡ xs ++ ys → ys ≡ [] → marked c ≡ xs
one_marked c xs ys e f = e ∙ ap (λ (ns : List ℕ). xs ++ ns) f ∙ append-nil xs
