-- The indexes that are settled at the present place, and their notes.
use Rattle.gm_counters.proofs.Lower.{◌≡◌, ◌≢◌, ℕ, suc, ◌+◌, ◌-◌, ◌<◌, ◌≤◌, inl, inr, true, List, [], ◌∷◌, map, length, get_or, refl, sym, ap, subst, ◌∙◌, arith, Some, Contains, slice_get, slice_range, IsPermutation, IsNonDecreasing, Contains-get_or, cases_lt, slice_get-get_or, Position, Phase, Solved, Rules, at, IsCanonical, Draw, IsTrueValue, StandsAt, contains_none, contains_first, contains_cases, NoteData, IsNote, phase_of, Settled, ShardState, IsInRange, delivered_to, StatusIs, IsGood, QueueData, IsSettledAt, AreSettledAt, IsQueue, AreNotesAt}
use Rattle.std.proofs.Common.{drop, length-drop, length-take}
use Rattle.std.specs.List.{AllByRecursion}
use Rattle.std.proofs.lemmas.List.{get_or-drop, get_or-take}
use Rattle.std.proofs.lemmas.List.Sorted.{Contains-permutation, IsPermutation-sym}
use Rattle.std.proofs.lemmas.Bool.Decides.{nat_tests}
use Rattle.std.proofs.lemmas.Grind.{get_or_default_zero}
use Rattle.gm_game.specs.Children.{is_before}
use Rattle.gm_game.proofs.SetLemmas.{same_position}
use Rattle.gm_game.proofs.Lists.{contains_later, map_in, map_from}
use Rattle.gm_frontier.specs.Notes.{IsNoteAt}
use Rattle.gm_frontier.specs.Levels.{IsInRun, IsRunOfNotes, AreInOrder, positions}
use Rattle.gm_frontier.proofs.ForGame.{now_stands, one_place}
use Rattle.gm_counters.specs.Steps.{place_of}
use Rattle.gm_counters.specs.inner.Queues.{IsNoteAtIndex}
use Rattle.gm_counters.proofs.AddedLemmas.{value_stands}
use Rattle.gm_counters.proofs.NoteLemmas.{settled_canonical, settled_decided}
use Rattle.gm_counters.proofs.QueueLemmas.{settled_once}
use Rattle.gm_counters.proofs.DistinctLemmas.{distinct_permuted, distinct_ascending}

-- a part of a list
range_long : (xs : List ℕ) (a b : ℕ) → a ≤ b → b ≤ length xs → length (slice_range xs a b) ≡ b - a
range_long xs a b l m = let d = length-drop a xs in let t = length-take (b - a) (drop a xs) in omega arith

range_at : (xs : List ℕ) (a b i : ℕ) → i < b - a → get_or (slice_range xs a b) i 0 ≡ get_or xs (a + i) 0
range_at xs a b i l = get_or-take (b - a) (drop a xs) i 0 l ∙ get_or-drop a xs i 0

-- a place of a queue's present part
settled_at_place : (r : Rules) (s : ShardState) (phase : Phase) (level : ℕ) (q : QueueData) → IsQueue r s phase level q → (k j : ℕ) → q.from ≤ j → j < q.to
    → get_or q.indexes j 0 ≡ k → IsSettledAt r s phase level k
settled_at_place r s phase level q old k j low high e =
    let inside = old.inside in
    let l : j < length q.indexes = omega arith in
    let there : Contains q.indexes k = subst (Contains q.indexes) e (Contains-get_or q.indexes j 0 l) in
    let is : slice_get q.indexes j ≡ Some k = slice_get-get_or q.indexes j 0 l ∙ ap (λ (x : ℕ). Some x) e in
    let w = (old.listed k).0 there in
    record { within = w.within; value = w.value; settled = w.settled; phase_is = w.phase_is; level_is = (old.placed j k w.value is w.settled).present low high }

place_of_settled : (r : Rules) (s : ShardState) (phase : Phase) (level : ℕ) (q : QueueData) → IsQueue r s phase level q → (k : ℕ)
    → IsSettledAt r s phase level k → (j : ℕ) × (q.from ≤ j) × (j < q.to) × (get_or q.indexes j 0 ≡ k)
place_of_settled r s phase level q old k w =
    let h = (old.listed k).1 (record { within = w.within; value = w.value; settled = w.settled; phase_is = w.phase_is }) in
    let l : h.0 < length q.indexes = h.1 in
    let e : get_or q.indexes h.0 0 ≡ k = sym (get_or_default_zero q.indexes h.0 k l) ∙ h.2 in
    let is : slice_get q.indexes h.0 ≡ Some k = slice_get-get_or q.indexes h.0 0 l ∙ ap (λ (x : ℕ). Some x) e in
    let p = old.placed h.0 k w.value is w.settled in
    let n = w.level_is in
    elim (cases_lt h.0 q.from) [
      | inl a ↦ absurd (let z = p.before a in omega arith)
      | inr a ↦ elim (cases_lt h.0 q.to) [
        | inl b ↦ (h.0, a, b, e)
        | inr b ↦ absurd (let z = p.after b in omega arith)
      ]
    ]

-- the present part of a queue
pub present_of : (r : Rules) (s : ShardState) (phase : Phase) (level : ℕ) (q : QueueData) → IsQueue r s phase level q
    → AreSettledAt r s phase level (slice_range q.indexes q.from q.to)
present_of r s phase level q old =
    let order = old.order in
    let inside = old.inside in
    let ys = slice_range q.indexes q.from q.to in
    let long = range_long q.indexes q.from q.to order inside in
    record {
      listed = λ k. (
        λ h. (let l : h.0 < length ys = h.1 in
            settled_at_place r s phase level q old k (q.from + h.0) (omega arith) (omega arith)
            (sym (range_at q.indexes q.from q.to h.0 (omega arith)) ∙ sym (get_or_default_zero ys h.0 k l) ∙ h.2)),
        λ w. (let (j, low, high, e) = place_of_settled r s phase level q old k w in
            let l : j - q.from < length ys = omega arith in
            let back : q.from + (j - q.from) ≡ j = omega arith in (
              j - q.from,
              l,
              get_or_default_zero ys (j - q.from) k l ∙ range_at q.indexes q.from q.to (j - q.from) (omega arith)
                  ∙ ap (λ (i : ℕ). get_or q.indexes i 0) back ∙ e,
            )),
      );
      once = λ i j a b e.
          let z : q.from + i ≡ q.from + j = old.once (q.from + i) (q.from + j) (omega arith) (omega arith)
          (sym (range_at q.indexes q.from q.to i (omega arith)) ∙ e ∙ range_at q.indexes q.from q.to j (omega arith)) in
          omega arith;
    }

-- in another order
pub settled_permuted : (r : Rules) (s : ShardState) (phase : Phase) (level : ℕ) (xs ys : List ℕ) → IsPermutation xs ys → AreSettledAt r s phase level xs
    → AreSettledAt r s phase level ys
settled_permuted r s phase level xs ys p h = record {
  listed = λ k. (λ c. (h.listed k).0 (Contains-permutation ys xs k (IsPermutation-sym xs ys p) c), λ w. Contains-permutation xs ys k p ((h.listed k).1 w));
  once = distinct_permuted xs ys p h.once;
}

-- the positions of notes at indexes
positions_at : (r : Rules) (s : ShardState) (ks : List ℕ) (ns : List NoteData) → AreNotesAt r s ks ns → positions ns ≡ map (λ k. at s.tier (s.lo + k)) ks
positions_at r s [] [] h = refl
positions_at r s [] (n ∷ ns) h = absurd h
positions_at r s (k ∷ ks) [] h = absurd h
positions_at r s (k ∷ ks) (n ∷ ns) (x, h) = ap (λ p. p ∷ positions ns) x.position ∙ ap (λ ps. at s.tier (s.lo + k) ∷ ps) (positions_at r s ks ns h)

note_of_one : (r : Rules) (s : ShardState) (ks : List ℕ) (ns : List NoteData) → AreNotesAt r s ks ns → (n : NoteData) → Contains ns n
    → (k : ℕ) × Contains ks k × IsNoteAtIndex r s k n
note_of_one r s [] [] h n c = absurd (contains_none n c)
note_of_one r s [] (m ∷ ns) h n c = absurd h
note_of_one r s (k ∷ ks) [] h n c = absurd h
note_of_one r s (k ∷ ks) (m ∷ ns) (x, h) n c = elim (contains_cases m n ns c) [
  | inl e ↦ (k, contains_first k ks, subst (IsNoteAtIndex r s k) e x)
  | inr t ↦ (let (j, d, y) = note_of_one r s ks ns h n t in (j, contains_later k j ks d, y))
]

-- ascending indexes are positions in order
later_all : (tier lo k : ℕ) (ks : List ℕ) → ((j : ℕ) → j < length ks → k < get_or ks j 0)
    → AllByRecursion (λ q. is_before (at tier (lo + k)) q ≡ true) (map (λ i. at tier (lo + i)) ks)
later_all tier lo k [] h = tt
later_all tier lo k (x ∷ ks) h =
    (before_same_tier tier (lo + k) (lo + x) (let l = h 0 (omega arith) in omega arith), later_all tier lo k ks (λ j l. h (suc j) (omega arith)))
  where
    before_same_tier : (t i j : ℕ) → i < j → is_before (at t i) (at t j) ≡ true
    before_same_tier t i j l = grind (arith, nat_tests)

in_order : (tier lo : ℕ) (ks : List ℕ) → ((i j : ℕ) → i < j → j < length ks → get_or ks i 0 < get_or ks j 0)
    → AreInOrder is_before (map (λ i. at tier (lo + i)) ks)
in_order tier lo [] h = tt
in_order tier lo (k ∷ ks) h =
    (later_all tier lo k ks (λ j l. h 0 (suc j) (omega arith) (omega arith)), in_order tier lo ks (λ i j l m. h (suc i) (suc j) (omega arith) (omega arith)))

-- what is at a place has that phase and remoteness
pub place_is : (r : Rules) (p : Position) (x : Solved) (phase : Phase) (n : ℕ) → IsTrueValue r p x → (x.value ≢ Draw) → StandsAt r phase n p
    → (phase_of x.value ≡ phase) × (x.remoteness ≡ n)
place_is r p x phase n h some at = one_place r (phase_of x.value) phase x.remoteness n p (value_stands r p x.value x.remoteness h some) at

-- the notes of all indexes that are settled at the place are a run
pub run_of : (r : Rules) (s : ShardState) → IsGood r s → (ks : List ℕ) (ns : List NoteData) → AreSettledAt r s s.phase s.level ks → IsNonDecreasing ks
    → AreNotesAt r s ks ns
    → IsRunOfNotes r (place_of s) s.lo (s.lo + length s.delivered) ns
run_of r s good ks ns h up notes = record {
  each = λ c. (
    λ i. subst (λ (l : List Position). Contains l c) (sym at_is)
        (subst (Contains (map f ks)) (f_is c i) (map_from f ks (c.index - s.lo) ((h.listed (c.index - s.lo)).1 (settled_one c i)))),
    λ i. (let (k, d, e) = map_in f ks c (subst (λ (l : List Position). Contains l c) at_is i) in
        subst (IsInRun r (place_of s) s.lo (s.lo + length s.delivered)) e (in_run k ((h.listed k).0 d))),
  );
  noted = λ n i. (let (k, d, x) = note_of_one r s ks ns notes n i in noted_one k n ((h.listed k).0 d) x);
  ordered = subst (AreInOrder is_before) (sym at_is) (in_order s.tier s.lo ks (distinct_ascending ks h.once up));
}
  where
    f : ℕ → Position
    f k = at s.tier (s.lo + k)

    at_is : positions ns ≡ map (λ k. at s.tier (s.lo + k)) ks
    at_is = positions_at r s ks ns notes

    f_is : (c : Position) → IsInRun r (place_of s) s.lo (s.lo + length s.delivered) c → at s.tier (s.lo + (c.index - s.lo)) ≡ c
    f_is c i = same_position (at s.tier (s.lo + (c.index - s.lo))) c (sym i.tier) (let l = i.low in omega arith)

    settled_one : (c : Position) → IsInRun r (place_of s) s.lo (s.lo + length s.delivered) c → IsSettledAt r s s.phase s.level (c.index - s.lo)
    settled_one c i =
        let back : s.lo + (c.index - s.lo) ≡ c.index = (let l = i.low in omega arith) in
        let low = i.low in
        let high = i.high in
        let here : at s.tier c.index ≡ c = same_position (at s.tier c.index) c (sym i.tier) refl in
        let stands : StandsAt r s.phase s.level (at s.tier c.index) = subst (StandsAt r s.phase s.level) (sym here) i.stands in
        let canonical : IsCanonical r (at s.tier c.index) = subst (IsCanonical r) (sym here) i.canonical in
        let (x, h) = good.true_is_settled c.index (low, high) canonical
        (now_stands r s.phase s.level (at s.tier c.index) stands) in
        let (e, n) = place_is r (at s.tier c.index) x s.phase s.level (good.settled_is_true c.index x (low, high) h).0
        (settled_decided r (at s.tier c.index) (delivered_to s c.index) x h) stands in
        record { within = omega arith; value = x; settled = subst (λ (j : ℕ). StatusIs r s j (Settled x)) (sym back) h; phase_is = e; level_is = n }

    range_in : (k : ℕ) → IsSettledAt r s s.phase s.level k → IsInRange s (s.lo + k)
    range_in k w = (let l = w.within in (omega arith, omega arith))

    in_run : (k : ℕ) → IsSettledAt r s s.phase s.level k → IsInRun r (place_of s) s.lo (s.lo + length s.delivered) (at s.tier (s.lo + k))
    in_run k w =
        let m = range_in k w in
        let x = w.value in
        let some = settled_decided r (at s.tier (s.lo + k)) (delivered_to s (s.lo + k)) x w.settled in
        record {
          tier = refl;
          low = omega arith;
          high = (let l = w.within in omega arith);
          canonical = settled_canonical r (at s.tier (s.lo + k)) (delivered_to s (s.lo + k)) x w.settled;
          stands = subst (λ (ph : Phase). StandsAt r ph s.level (at s.tier (s.lo + k))) w.phase_is
              (subst (λ (n : ℕ). StandsAt r (phase_of x.value) n (at s.tier (s.lo + k))) w.level_is
              (value_stands r (at s.tier (s.lo + k)) x.value x.remoteness (good.settled_is_true (s.lo + k) x m w.settled).0 some));
        }

    noted_one : (k : ℕ) (n : NoteData) → IsSettledAt r s s.phase s.level k → IsNoteAtIndex r s k n → IsNoteAt r (place_of s) n
    noted_one k n w x =
        let m = range_in k w in
        let same : w.value ≡ n.solved = settled_once r s good (s.lo + k) m w.value n.solved w.settled x.settled in
        let note : IsNote r (at s.tier (s.lo + k)) n.solved = record {
          canonical = settled_canonical r (at s.tier (s.lo + k)) (delivered_to s (s.lo + k)) n.solved x.settled;
          value = (good.settled_is_true (s.lo + k) n.solved m x.settled).0;
          decided = settled_decided r (at s.tier (s.lo + k)) (delivered_to s (s.lo + k)) n.solved x.settled;
        } in
        record {
          note = subst (λ (p : Position). IsNote r p n.solved) (sym x.position) note;
          phase = ap (λ (y : Solved). phase_of y.value) (sym same) ∙ w.phase_is;
          level = ap (λ (y : Solved). y.remoteness) (sym same) ∙ w.level_is;
        }
