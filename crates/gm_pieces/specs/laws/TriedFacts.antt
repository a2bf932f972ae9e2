-- A loop over candidates passes over each number that passes the test.
use Rattle.std.specs.Prelude.{◌≡◌, ◌⊎◌, ◌+◌, ◌-◌, ◌<◌, ◌≤◌, ◌^◌, ◌∷◌, ◌++◌}
use Rattle.std.proofs.lemmas.List.{length-append}
use Rattle.std.proofs.Common.{subst, zero, suc, ℕ, Bool, true, false, ltb, lt-ltb, List, [], map, Option, None, Some, refl, sym, ap, ◌∙◌, arith, inl, inr, true≢false, length}
use Rattle.std.proofs.lemmas.Bool.{cases_Bool, cases_lt}
use Rattle.std.proofs.lemmas.Bool.Decides.{nat_tests}
use Rattle.std.specs.List.{filter, filter_map, range_with_len}
use Rattle.gm_board.specs.laws.Filters.{filter_in, filter_out, filter_room}
use Rattle.gm_game.specs.Ascending.{put_all, put}
use Rattle.gm_game.proofs.PuttingSteps.{put_more_some, put_more_none}
use Rattle.gm_pieces.specs.laws.Skipped.{filter_skip, puts_skip}
use Rattle.gm_pieces.specs.declared.candidates.Run.{Run}
use Rattle.gm_pieces.specs.declared.candidates.Candidates.{Candidates}
use Rattle.gm_pieces.specs.inner.Tried.{one, run_at, count_of, number_at, AreCandidates, edge}

module _ {p : ℕ → Bool} {n : ℕ} {c : Candidates} (h : AreCandidates p n c) where
  -- ---- places
  -- an edge is a candidate, or the bound
  pub edge_at : (k : ℕ) → k < count_of c → edge c n k ≡ number_at c k
  edge_at k l = rw (lt-ltb k (count_of c) l) refl

  pub edge_past : (k : ℕ) → count_of c ≤ k → edge c n k ≡ n
  edge_past k l = let e : ltb k (count_of c) ≡ false = grind (arith, nat_tests, l) in rw e refl

  edge_most : (k : ℕ) → edge c n k ≤ n
  edge_most k = elim (cases_lt k (count_of c)) [
    | inl l ↦ (let e = edge_at k l in let b = h.below k l in omega (arith, e, b))
    | inr l ↦ (let e = edge_past k l in omega (arith, e))
  ]

  -- a lesser candidate has an earlier place
  earlier : (j k : ℕ) → j < count_of c → number_at c j < number_at c k → j < k
  earlier j k l e = elim (cases_lt j k) [
    | inl b ↦ b
    | inr b ↦ elim (cases_lt k j) [
      | inl d ↦ absurd (let a = h.ascending k j d l in omega (arith, a, e))
      | inr d ↦ absurd (let s : j ≡ k = omega (arith, b, d) in let f = ap (number_at c) s in omega (arith, e, f))
    ]
  ]

  -- a number below an edge that passes is a candidate at an earlier place
  found : (k m : ℕ) → m < edge c n k → p m ≡ true → (j : ℕ) × (j < k) × (j < count_of c) × (number_at c j ≡ m)
  found k m l e =
      let most = edge_most k in
      let z = h.complete m (omega (arith, l, most)) e in
      let is = z.2 in
      let b = z.1 in (
        z.0,
        elim (cases_lt k (count_of c)) [
          | inl d ↦ (let at = edge_at k d in earlier z.0 k b (omega (arith, at, l, is)))
          | inr d ↦ omega (arith, b, d)
        ],
        b,
        is,
      )

  -- no number before the first candidate passes
  pub none_before : (m : ℕ) → m < edge c n 0 → p m ≡ false
  none_before m l = elim (cases_Bool (p m)) [
    | inl e ↦ absurd (let z = found 0 m l e in let b = z.1 in omega (arith, b))
    | inr e ↦ e
  ]

  -- no number between a candidate and the next passes
  pub none_between : (k m : ℕ) → k < count_of c → number_at c k < m → m < edge c n (k + 1) → p m ≡ false
  none_between k m b l u = elim (cases_Bool (p m)) [
    | inl e ↦ absurd (
        let z = found (k + 1) m u e in
        let j = z.1 in
        let is = z.3 in
        let d = earlier k z.0 b (omega (arith, l, is)) in
        omega (arith, d, j))
    | inr e ↦ e
  ]

  -- a number below the next edge that passes is below this one, or it is the candidate
  pub tried_cases : (k m : ℕ) → k < count_of c → m < edge c n (k + 1) → p m ≡ true → (m < edge c n k) ⊎ (m ≡ number_at c k)
  tried_cases k m b l e = elim (cases_lt m (number_at c k)) [
    | inl x ↦ inl (let at = edge_at k b in omega (arith, x, at))
    | inr x ↦ elim (cases_lt (number_at c k) m) [
      | inl y ↦ absurd (true≢false (sym e ∙ none_between k m b y l))
      | inr y ↦ inr (omega (arith, x, y))
    ]
  ]

  next_above : (k : ℕ) → k < count_of c → number_at c k + 1 ≤ edge c n (k + 1)
  next_above k b = elim (cases_lt (k + 1) (count_of c)) [
    | inl l ↦ (let e = edge_at (k + 1) l in let a = h.ascending k (k + 1) (omega arith) l in omega (arith, e, a))
    | inr l ↦ (let e = edge_past (k + 1) l in let a = h.below k b in omega (arith, e, a))
  ]

  -- the numbers between a candidate and the next, counted from the candidate
  gap : (k : ℕ) → k < count_of c → edge c n (k + 1) ≡ number_at c k + 1 + (edge c n (k + 1) - (number_at c k + 1))
  gap k b = let a = next_above k b in omega (arith, a)

  in_gap : (k : ℕ) → k < count_of c → (i : ℕ) → i < edge c n (k + 1) - (number_at c k + 1) → p (number_at c k + 1 + i) ≡ false
  in_gap k b i l = none_between k (number_at c k + 1 + i) b (omega arith) (omega (arith, l))

  -- ---- numbers that pass
  filter_gap : (k : ℕ) → k < count_of c → filter p (range_with_len 0 (edge c n (k + 1))) ≡ filter p (range_with_len 0 (number_at c k + 1))
  filter_gap k b =
      ap (λ (m : ℕ). filter p (range_with_len 0 m)) (gap k b)
      ∙ filter_skip p (number_at c k + 1) (edge c n (k + 1) - (number_at c k + 1)) (in_gap k b)

  pub tried_none : filter p (range_with_len 0 (edge c n 0)) ≡ []
  tried_none =
      ap (λ (m : ℕ). filter p (range_with_len 0 m)) (let z : edge c n 0 ≡ 0 + edge c n 0 = omega arith in z)
      ∙ filter_skip p 0 (edge c n 0) (λ i l. none_before (0 + i) (omega (arith, l)))

  pub tried_in : (k : ℕ) → k < count_of c → p (number_at c k) ≡ true
      → filter p (range_with_len 0 (edge c n (k + 1))) ≡ filter p (range_with_len 0 (edge c n k)) ++ number_at c k ∷ []
  tried_in k b e =
      filter_gap k b ∙ filter_in p (number_at c k) e
      ∙ ap (λ (m : ℕ). filter p (range_with_len 0 m) ++ number_at c k ∷ []) (sym (edge_at k b))

  pub tried_out : (k : ℕ) → k < count_of c → p (number_at c k) ≡ false
      → filter p (range_with_len 0 (edge c n (k + 1))) ≡ filter p (range_with_len 0 (edge c n k))
  tried_out k b e =
      filter_gap k b ∙ filter_out p (number_at c k) e
      ∙ ap (λ (m : ℕ). filter p (range_with_len 0 m)) (sym (edge_at k b))

  -- there is room for each candidate that passes, where at most 128 numbers do
  pub tried_room : (k : ℕ) (xs : List ℕ) → length (filter p (range_with_len 0 n)) ≤ 128 → k < count_of c → p (number_at c k) ≡ true
      → xs ≡ filter p (range_with_len 0 (edge c n k)) → length xs < 128
  tried_room k xs few b e is =
      filter_room p n (number_at c k) xs few (h.below k b) e (is ∙ ap (λ (m : ℕ). filter p (range_with_len 0 m)) (edge_at k b))

  -- ---- indexes that numbers lead to
  module _ {B : Type 0} (f : B → ℕ) {g : ℕ → Option B} (only : (m : ℕ) → p m ≡ false → g m ≡ None) where
    abbrev pub puts : ℕ → List ℕ
    puts m = put_all [] (map f (filter_map g (range_with_len 0 m)))

    puts_gap : (k : ℕ) → k < count_of c → puts (edge c n (k + 1)) ≡ puts (number_at c k + 1)
    puts_gap k b =
        ap puts (gap k b)
        ∙ puts_skip f g (number_at c k + 1) (edge c n (k + 1) - (number_at c k + 1)) (λ i l. only (number_at c k + 1 + i) (in_gap k b i l))

    pub puts_none : puts (edge c n 0) ≡ []
    puts_none =
        ap puts (let z : edge c n 0 ≡ 0 + edge c n 0 = omega arith in z)
        ∙ puts_skip f g 0 (edge c n 0) (λ i l. only (0 + i) (none_before (0 + i) (omega (arith, l))))

    pub puts_some : (k : ℕ) (b : B) → k < count_of c → g (number_at c k) ≡ Some b → puts (edge c n (k + 1)) ≡ put (f b) (puts (edge c n k))
    puts_some k b l e = puts_gap k l ∙ put_more_some f g (number_at c k) b e ∙ ap (λ (m : ℕ). put (f b) (puts m)) (sym (edge_at k l))

    pub puts_same : (k : ℕ) → k < count_of c → g (number_at c k) ≡ None → puts (edge c n (k + 1)) ≡ puts (edge c n k)
    puts_same k l e = puts_gap k l ∙ put_more_none f g (number_at c k) e ∙ ap puts (sym (edge_at k l))

module _ (p : ℕ → Bool) (n : ℕ) (c : Candidates) (h : AreCandidates p n c) where
  few_to : (k : ℕ) → k ≤ count_of c → length (filter p (range_with_len 0 (edge c n k))) ≤ k
  few_to zero l = let z = ap (λ (xs : List ℕ). length xs) (tried_none h) in omega (arith, z)
  few_to (suc k) l =
      let i = few_to k (omega (arith, l)) in
      let b : k < count_of c = omega (arith, l) in
      subst (λ (j : ℕ). length (filter p (range_with_len 0 (edge c n j))) ≤ j) (let s : k + 1 ≡ suc k = omega arith in s)
      (elim (cases_Bool (p (number_at c k))) [
        | inl e ↦ (
            let z = ap (λ (xs : List ℕ). length xs) (tried_in h k b e) in
            let a = length-append (filter p (range_with_len 0 (edge c n k))) (number_at c k ∷ []) in
            omega (arith, z, a, i))
        | inr e ↦ (let z = ap (λ (xs : List ℕ). length xs) (tried_out h k b e) in omega (arith, z, i))
      ])

  -- no more numbers pass than there are candidates
  pub tried_few : length (filter p (range_with_len 0 n)) ≤ count_of c
  tried_few =
      subst (λ (m : ℕ). length (filter p (range_with_len 0 m)) ≤ count_of c) (edge_past h (count_of c) (omega arith)) (few_to (count_of c) (omega arith))

-- ---- two runs
module _ (c : Candidates) where
  low_at : (k : ℕ) → k < c.low.count → number_at c k ≡ run_at c.low k
  low_at k l = rw (lt-ltb k c.low.count l) refl

  high_at : (k : ℕ) → c.low.count ≤ k → number_at c k ≡ run_at c.high (k - c.low.count)
  high_at k l = let e : ltb k c.low.count ≡ false = grind (arith, nat_tests, l) in rw e refl

  abbrev pub AreAscending : Run → Type 0
  AreAscending r = (j k : ℕ) → j < k → k < r.count → run_at r j < run_at r k

  abbrev pub IsIn : Run → ℕ → Type 0
  IsIn r m = (k : ℕ) × (k < r.count) × (run_at r k ≡ m)

  -- two runs that ascend, of which the first is below the second, have what candidates need if each number that passes is in one of them
  pub two_runs : (p : ℕ → Bool) (n : ℕ) → count_of c < 2 ^ 32 → AreAscending c.low → AreAscending c.high
      → ((j k : ℕ) → j < c.low.count → k < c.high.count → run_at c.low j < run_at c.high k)
      → ((k : ℕ) → k < c.low.count → run_at c.low k < n) → ((k : ℕ) → k < c.high.count → run_at c.high k < n)
      → ((m : ℕ) → m < n → p m ≡ true → IsIn c.low m ⊎ IsIn c.high m) → AreCandidates p n c
  two_runs p n fit low high apart low_below high_below all = record {
    fit = fit;
    ascending = λ j k l b. elim (cases_lt k c.low.count) [
      | inl x ↦ (let s = low_at j (omega (arith, l, x)) in let t = low_at k x in let u = low j k l x in omega (arith, s, t, u))
      | inr x ↦ elim (cases_lt j c.low.count) [
        | inl y ↦ (let s = low_at j y in let t = high_at k x in let u = apart j (k - c.low.count) y (omega (arith, x, b)) in omega (arith, s, t, u))
        | inr y ↦ (
            let s = high_at j y in
            let t = high_at k x in
            let u = high (j - c.low.count) (k - c.low.count) (omega (arith, x, y, l)) (omega (arith, x, b)) in
            omega (arith, s, t, u))
      ]
    ];
    below = λ k b. elim (cases_lt k c.low.count) [
      | inl x ↦ (let s = low_at k x in let u = low_below k x in omega (arith, s, u))
      | inr x ↦ (let s = high_at k x in let u = high_below (k - c.low.count) (omega (arith, x, b)) in omega (arith, s, u))
    ];
    complete = λ m l e. elim (all m l e) [
      | inl z ↦ (let b = z.1 in (z.0, omega (arith, b), low_at z.0 b ∙ z.2))
      | inr z ↦ (
          let b = z.1 in
          let k = c.low.count + z.0 in
          (k, omega (arith, b), high_at k (omega arith) ∙ ap (run_at c.high) (let i : k - c.low.count ≡ z.0 = omega arith in i) ∙ z.2))
    ];
  }

-- ---- one run
pub one_run : (p : ℕ → Bool) (n : ℕ) (r : Run) → r.count < 2 ^ 32 → AreAscending (one r) r → ((k : ℕ) → k < r.count → run_at r k < n)
    → ((m : ℕ) → m < n → p m ≡ true → IsIn (one r) r m) → AreCandidates p n (one r)
one_run p n r fit up below all =
    two_runs (one r) p n (omega (arith, fit)) up (λ j k l b. absurd (omega (arith, b))) (λ j k l b. absurd (omega (arith, b))) below
    (λ k b. absurd (omega (arith, b))) (λ m l e. inl (all m l e))

-- all numbers below a bound
pub all_below : (p : ℕ → Bool) (n : ℕ) → n < 2 ^ 32 → AreCandidates p n (one (record { first = 0; step = 1; count = n }))
all_below p n l =
    one_run p n (record { first = 0; step = 1; count = n }) l (λ j k h b. omega (arith, h)) (λ k b. omega (arith, b)) (λ m b e. (m, b, omega arith))
