-- Runs that mark the numbers that pass a test.
use Rattle.std.specs.Prelude.{◌≡◌, ◌≢◌, ◌⊎◌, ◌+◌, ◌*◌, ◌/◌, ◌^◌, ◌<◌, ◌≤◌, ◌∷◌, ◌++◌}
use Rattle.std.proofs.Common.{ℕ, zero, suc, Bool, true, List, [], map, length, refl, sym, ap, ◌∙◌, subst, arith, inl, inr}
use Rattle.std.specs.List.{Contains, filter, range_with_len}
use Rattle.std.proofs.lemmas.List.Elements.{Contains-append_left, Contains-append_right, Contains-append_cases}
use Rattle.gm_board.specs.Masks.{has_cell}
use Rattle.gm_board.specs.laws.NextCells.{cell_below}
use Rattle.gm_board.specs.laws.Lists.{filter_from, filter_to, contains_range, range_below, contains_map, contains_unmap}
use Rattle.std.proofs.Math.Nat.{mul-div_cancel_left}
use Rattle.gm_game.proofs.Counts.{HasNoRepeats, no_longer}
use Rattle.gm_game.proofs.Lists.{contains_none, contains_first, contains_later, contains_cases}
use Rattle.gm_pieces.specs.laws.Listed.{filter_ascending}
use Rattle.gm_pieces.specs.laws.CountFacts.{no_repeats_map, no_repeats_ascending}
use Rattle.gm_pieces.specs.laws.MarkFacts.{place_in, place_from}
use Rattle.gm_pieces.specs.declared.marks.MarkedRun.{MarkedRun}
use Rattle.gm_pieces.specs.declared.marks.Marks.{Marks}
unfoldable use Rattle.gm_pieces.specs.inner.Marking.{places}
use Rattle.gm_pieces.specs.inner.Marking.{run_number, numbers, marked, AreMarks}

-- ---- lists without repeats
places_once : (m : ℕ) → HasNoRepeats (places m)
unfolding places
places_once m = no_repeats_ascending (places m) (filter_ascending (has_cell m) 0 64)

-- two lists of which none has what the other has
no_repeats_append : (xs ys : List ℕ) → HasNoRepeats xs → HasNoRepeats ys → ((m : ℕ) → Contains xs m → Contains ys m → ⊥) → HasNoRepeats (xs ++ ys)
no_repeats_append [] ys u v apart = v
no_repeats_append (x ∷ xs) ys u v apart = (
  λ c. elim (Contains-append_cases xs ys x c) [ inl i ↦ u.0 i | inr j ↦ apart x (contains_first x xs) j ],
  no_repeats_append xs ys u.1 v (λ m i j. apart m (contains_later x m xs i) j),
)

-- ---- parts of the numbers that pass a test
-- numbers below a bound that pass the test, each once, whose keys are from lo up to hi
pub record IsPart (p : ℕ → Bool) (n : ℕ) (key : ℕ → ℕ) (lo hi : ℕ) (ns : List ℕ) : Type 0 where
  pub once : HasNoRepeats ns
  pub sound : (m : ℕ) → Contains ns m → (m < n) × (p m ≡ true) × (lo ≤ key m) × (key m < hi)

-- a part, and one whose keys are greater
pub join_parts : (p : ℕ → Bool) (n : ℕ) (key : ℕ → ℕ) (lo mid hi : ℕ) (xs ys : List ℕ) → lo ≤ mid → mid ≤ hi → IsPart p n key lo mid xs → IsPart p n key mid hi ys
    → IsPart p n key lo hi (xs ++ ys)
join_parts p n key lo mid hi xs ys l h x y = record {
  once = no_repeats_append xs ys x.once y.once (λ m i j. let u = (x.sound m i).3 in let v = (y.sound m j).2 in omega (arith, u, v));
  sound = λ m i. elim (Contains-append_cases xs ys m i) [
    | inl j ↦ (let u = x.sound m j in let k = u.3 in (u.0, u.1, u.2, omega (arith, k, h)))
    | inr j ↦ (let u = y.sound m j in let k = u.2 in (u.0, u.1, omega (arith, k, l), u.3))
  ];
}

-- a part with each number that passes the test
pub part_marks : (p : ℕ → Bool) (n : ℕ) (key : ℕ → ℕ) (lo hi : ℕ) (c : Marks) (ns : List ℕ) → marked c ≡ ns → IsPart p n key lo hi ns
    → ((m : ℕ) → m < n → p m ≡ true → Contains ns m) → AreMarks p n c
part_marks p n key lo hi c ns is part complete =
    let all = filter p (range_with_len 0 n) in
    let to : (m : ℕ) → Contains ns m → Contains all m = λ m i. let x = part.sound m i in filter_to p (range_with_len 0 n) m (contains_range n m x.0) x.1 in
    let from : (m : ℕ) → Contains all m → Contains ns m = λ m i. let x = filter_from p (range_with_len 0 n) m i in complete m (range_below n m x.0) x.1 in
    let up = no_longer ns all part.once to in
    let down = no_longer all ns (no_repeats_ascending all (filter_ascending p 0 n)) from in
    let same = ap (λ (xs : List ℕ). length xs) is in
    record {
      exact = λ m. (
        λ i. (let x = part.sound m (subst (λ (xs : List ℕ). Contains xs m) is i) in (x.0, x.1)),
        λ x. subst (λ (xs : List ℕ). Contains xs m) (sym is) (complete m x.0 x.1),
      );
      once = omega (arith, up, down, same);
    }

-- ---- runs
-- a run whose mask has, of the places below a size, those whose numbers pass the test
pub record IsRun (r : MarkedRun) (p : ℕ → Bool) (first step size : ℕ) : Type 0 where
  pub is_first : r.first ≡ first
  pub is_step : r.step ≡ step
  pub fits : r.marks < 2 ^ size
  pub has : (k : ℕ) → k < size → has_cell r.marks k ≡ p (first + step * k)

number_at : (r : MarkedRun) (p : ℕ → Bool) (first step size k : ℕ) → IsRun r p first step size → run_number r k ≡ first + step * k
number_at r p first step size k h = ap (λ (x : ℕ). x + r.step * k) h.is_first ∙ ap (λ (x : ℕ). first + x * k) h.is_step

pub run_has : (r : MarkedRun) (p : ℕ → Bool) (first step size m k : ℕ) → IsRun r p first step size → k < size → size ≤ 64 → first + step * k ≡ m → p m ≡ true
    → Contains (numbers r) m
run_has r p first step size m k h l s e is =
    subst (Contains (numbers r)) (number_at r p first step size k h ∙ e)
    (contains_map (run_number r) (places r.marks) k (place_from r.marks k (omega (arith, l, s)) (h.has k l ∙ ap p e ∙ is)))

same_places : (first step j k : ℕ) → 0 < step → first + step * j ≡ first + step * k → j ≡ k
same_places first step j k l e =
    sym (mul-div_cancel_left j l) ∙ ap (λ (v : ℕ). v / step) (let f : step * j ≡ step * k = omega (arith, e) in f) ∙ mul-div_cancel_left k l

pub run_part : (r : MarkedRun) (p : ℕ → Bool) (first step size n : ℕ) (key : ℕ → ℕ) (lo hi : ℕ) → IsRun r p first step size → 0 < step
    → ((k : ℕ) → k < size → (first + step * k < n) × (lo ≤ key (first + step * k)) × (key (first + step * k) < hi)) → IsPart p n key lo hi (numbers r)
run_part r p first step size n key lo hi h l f = record {
  once = no_repeats_map (run_number r) (places r.marks)
      (λ j k x y e. same_places r.first r.step j k (subst (λ (s : ℕ). 0 < s) (sym h.is_step) l) e) (places_once r.marks);
  sound = λ m i.
      (let (k, j, e) = contains_unmap (run_number r) (places r.marks) m i in
      let has = (place_in r.marks k j).1 in
      let below = cell_below r.marks size k h.fits has in
      let at = f k below in
      subst (λ (v : ℕ). (v < n) × (p v ≡ true) × (lo ≤ key v) × (key v < hi)) (sym (number_at r p first step size k h) ∙ e)
      (at.0, sym (h.has k below) ∙ has, at.1, at.2));
}

-- ---- the marks of no run, of one and of two
pub no_marks : (p : ℕ → Bool) (n : ℕ) (c : Marks) → marked c ≡ [] → ((m : ℕ) → m < n → p m ≡ true → ⊥) → AreMarks p n c
no_marks p n c is none =
    part_marks p n (λ m. m) 0 n c [] is (record { once = tt; sound = λ m i. absurd (contains_none m i) }) (λ m l e. absurd (none m l e))

-- a number is that at one of the 64 places of a run
abbrev pub IsAt : ℕ → ℕ → ℕ → Type 0
IsAt first step m = (k : ℕ) × (k < 64) × (first + step * k ≡ m)

pub one_run_marks : (p : ℕ → Bool) (n : ℕ) (c : Marks) (r : MarkedRun) (first step : ℕ) → marked c ≡ numbers r → IsRun r p first step 64 → 0 < step
    → ((k : ℕ) → k < 64 → first + step * k < n) → ((m : ℕ) → m < n → p m ≡ true → IsAt first step m) → AreMarks p n c
one_run_marks p n c r first step is h l below complete =
    part_marks p n (λ m. m) 0 n c (numbers r) is (run_part r p first step 64 n (λ m. m) 0 n h l (λ k j. (below k j, omega arith, below k j)))
    (λ m j e. let (k, i, s) = complete m j e in run_has r p first step 64 m k h i (omega arith) s e)

-- two runs, of which the numbers of the first are below those of the second
pub two_run_marks : (p : ℕ → Bool) (n cut : ℕ) (c : Marks) (low high : MarkedRun) (first step second stride : ℕ) → marked c ≡ numbers low ++ numbers high
    → IsRun low p first step 64 → IsRun high p second stride 64 → 0 < step → 0 < stride → cut ≤ n → cut ≤ second
    → ((k : ℕ) → k < 64 → first + step * k < cut) → ((k : ℕ) → k < 64 → second + stride * k < n)
    → ((m : ℕ) → m < n → p m ≡ true → IsAt first step m ⊎ IsAt second stride m) → AreMarks p n c
two_run_marks p n cut c low high first step second stride is h i l j most from below above complete =
    part_marks p n (λ m. m) 0 n c (numbers low ++ numbers high) is
    (join_parts p n (λ m. m) 0 cut n (numbers low) (numbers high) (omega arith) most
    (run_part low p first step 64 n (λ m. m) 0 cut h l (λ k q. let x = below k q in (omega (arith, x, most), omega arith, x)))
    (run_part high p second stride 64 n (λ m. m) cut n i j (λ k q. let x = above k q in (x, omega (arith, from), x))))
    (λ m q e. elim (complete m q e) [
      | inl x ↦ Contains-append_left (numbers low) (numbers high) m (let (k, u, s) = x in run_has low p first step 64 m k h u (omega arith) s e)
      | inr x ↦ Contains-append_right (numbers low) (numbers high) m (let (k, u, s) = x in run_has high p second stride 64 m k i u (omega arith) s e)
    ])
