-- How queues follow a shard's state.
use Rattle.gm_counters.proofs.Lower.{◌≡◌, ◌≢◌, ℕ, ◌+◌, ◌-◌, ◌<◌, ◌≤◌, inl, inr, List, [], ◌∷◌, ◌++◌, length, get_or, sym, ap, subst, ◌∙◌, arith, Some, Contains, slice_get, cases_lt, cases_eq, get_or_append_left, Contains-get_or, Contains-append_left, Contains-append_right, Contains-append_cases, slice_get-get_or, get_or_from_slice_get, slice_get_within, Position, Phase, Solved, Rules, at, with_position, contains_none, contains_first, contains_cases, phase_of, Status, Hole, Undecided, Settled, ShardState, IsInRange, delivered_to, with_pair, HasStatus, StatusIs, IsGood, IsSettledNow, KeepsStatus, QueueData, AreDistinct, IsQueue}
use Rattle.std.proofs.Common.{get_or-set_other, length-append}
use Rattle.std.proofs.Math.Seq.{get_or-append_seam}
use Rattle.gm_game.proofs.Checker.{IsTrueValue_once}
use Rattle.gm_counters.specs.inner.Queues.{IsSettledIn, IsQueuedAt}
use Rattle.gm_counters.proofs.AddedLemmas.{count_same, still_mine}
use Rattle.gm_counters.proofs.NoteLemmas.{none_of}
use Rattle.gm_counters.proofs.DistinctLemmas.{distinct_push, fewer_than}

-- a settled status is one record
pub settled_once : (r : Rules) (s : ShardState) → IsGood r s → (i : ℕ) → IsInRange s i → (x y : Solved) → StatusIs r s i (Settled x)
    → StatusIs r s i (Settled y) → x ≡ y
settled_once r s g i m x y a b = IsTrueValue_once r (at s.tier i) x y (g.settled_is_true i x m a).0 (g.settled_is_true i y m b).0

-- an undecided index is in no queue
not_settled : (r : Rules) (s : ShardState) (i : ℕ) (x : Solved) → StatusIs r s i Undecided → StatusIs r s i (Settled x) → ⊥
not_settled r s i x u h = none_of r (at s.tier i) (delivered_to s i) Undecided u (λ y e. cc) x h

-- an index of the same status in two states has its record in both
kept_settled : (r : Rules) (s t : ShardState) → IsGood r s → (i : ℕ) → IsInRange s i → (y : Status) → StatusIs r s i y → StatusIs r t i y → (x : Solved)
    → StatusIs r s i (Settled x) → StatusIs r t i (Settled x)
kept_settled r s t g i m Hole a b x h = absurd (none_of r (at s.tier i) (delivered_to s i) Hole a (λ y e. cc) x h)
kept_settled r s t g i m Undecided a b x h = absurd (not_settled r s i x a h)
kept_settled r s t g i m (Settled y) a b x h = subst (λ (z : Solved). StatusIs r t i (Settled z)) (settled_once r s g i m y x a h) b

-- states in which the same indexes are settled in a phase, with the same records, have the same queue
pub queue_same : (r : Rules) (s t : ShardState) (phase : Phase) (level : ℕ) (q : QueueData) → length t.delivered ≡ length s.delivered
    → ((k : ℕ) (x : Solved) → k < length s.delivered → phase_of x.value ≡ phase → StatusIs r s (s.lo + k) (Settled x) → StatusIs r t (t.lo + k) (Settled x))
    → ((k : ℕ) (x : Solved) → k < length s.delivered → phase_of x.value ≡ phase → StatusIs r t (t.lo + k) (Settled x) → StatusIs r s (s.lo + k) (Settled x))
    → IsGood r t → IsQueue r s phase level q → IsQueue r t phase level q
queue_same r s t phase level q same to from good old = record {
  listed = λ k. (
    λ h. let w = (old.listed k).0 h in record {
      within = (let l = w.within in omega arith);
      value = w.value;
      settled = to k w.value w.within w.phase_is w.settled;
      phase_is = w.phase_is;
    },
    λ w. (old.listed k).1 (record {
      within = (let l = w.within in omega arith);
      value = w.value;
      settled = from k w.value (let l = w.within in omega arith) w.phase_is w.settled;
      phase_is = w.phase_is;
    }),
  );
  once = old.once;
  placed = λ place k x is h.
      let w = (old.listed k).0 (there place k is) in
      let range : IsInRange t (t.lo + k) = (omega arith, (let l = w.within in omega arith)) in
      let e : w.value ≡ x = settled_once r t good (t.lo + k) range w.value x (to k w.value w.within w.phase_is w.settled) h in
      subst (λ (y : Solved). IsQueuedAt level q place y.remoteness) e (old.placed place k w.value is w.settled);
  order = old.order;
  inside = old.inside;
  room = (let l = old.room in omega arith);
}
  where
    there : (place k : ℕ) → slice_get q.indexes place ≡ Some k → Contains q.indexes k
    there place k is = subst (Contains q.indexes) (get_or_from_slice_get q.indexes place k 0 is)
        (Contains-get_or q.indexes place 0 (slice_get_within q.indexes place k is))

-- what is delivered to an index other than the parent stays
stays_other : (s : ShardState) (c : Position) (parent k : ℕ) → s.lo ≤ parent → (s.lo + k ≢ parent)
    → delivered_to (with_pair s c parent) (s.lo + k) ≡ delivered_to s (s.lo + k)
stays_other s c parent k l ne = get_or-set_other s.delivered (parent - s.lo) (s.lo + k - s.lo) (with_position c (delivered_to s parent)) []
    (λ e. ne (omega arith))

module _ (r : Rules) (s : ShardState) (c : Position) (parent : ℕ) (mine : IsInRange s parent) (good : IsGood r s)
    (after : IsGood r (with_pair s c parent)) where
  other_to : (k : ℕ) (x : Solved) → (s.lo + k ≢ parent) → StatusIs r s (s.lo + k) (Settled x) → StatusIs r (with_pair s c parent) (s.lo + k) (Settled x)
  other_to k x ne h = subst (λ (d : List Position). HasStatus r (at s.tier (s.lo + k)) d (Settled x)) (sym (stays_other s c parent k mine.0 ne)) h

  other_from : (k : ℕ) (x : Solved) → (s.lo + k ≢ parent) → StatusIs r (with_pair s c parent) (s.lo + k) (Settled x) → StatusIs r s (s.lo + k) (Settled x)
  other_from k x ne h = subst (λ (d : List Position). HasStatus r (at s.tier (s.lo + k)) d (Settled x)) (stays_other s c parent k mine.0 ne) h

  -- the queue stays where the parent's records in the phase do
  queue_by : (phase : Phase) (level : ℕ) (q : QueueData)
      → ((x : Solved) → phase_of x.value ≡ phase → StatusIs r s parent (Settled x) → StatusIs r (with_pair s c parent) parent (Settled x))
      → ((x : Solved) → phase_of x.value ≡ phase → StatusIs r (with_pair s c parent) parent (Settled x) → StatusIs r s parent (Settled x))
      → IsQueue r s phase level q → IsQueue r (with_pair s c parent) phase level q
  queue_by phase level q to from old =
      queue_same r s (with_pair s c parent) phase level q (count_same s c parent mine)
      (λ k x l e h. elim (cases_eq (s.lo + k) parent) [
        | inl is ↦ subst (λ (i : ℕ). StatusIs r (with_pair s c parent) i (Settled x)) (sym is) (to x e (subst (λ (i : ℕ). StatusIs r s i (Settled x)) is h))
        | inr ne ↦ other_to k x ne h
      ])
      (λ k x l e h. elim (cases_eq (s.lo + k) parent) [
        | inl is ↦ subst (λ (i : ℕ). StatusIs r s i (Settled x)) (sym is) (from x e (subst (λ (i : ℕ). StatusIs r (with_pair s c parent) i (Settled x)) is h))
        | inr ne ↦ other_from k x ne h
      ])
      after old

  -- a pair that settles nothing
  pub queue_kept : KeepsStatus r s (with_pair s c parent) parent → (phase : Phase) (level : ℕ) (q : QueueData) → IsQueue r s phase level q
      → IsQueue r (with_pair s c parent) phase level q
  queue_kept kept phase level q = queue_by phase level q
      (λ x e h. kept_settled r s (with_pair s c parent) good parent mine kept.status kept.before kept.after x h)
      (λ x e h. kept_settled r (with_pair s c parent) s after parent (still_mine s c parent mine) kept.status kept.after kept.before x h)

  -- a pair that settles in another phase
  pub queue_other : (now : IsSettledNow r s (with_pair s c parent) parent) → (phase : Phase) (level : ℕ) (q : QueueData) → (s.phase ≢ phase)
      → IsQueue r s phase level q → IsQueue r (with_pair s c parent) phase level q
  queue_other now phase level q apart = queue_by phase level q
      (λ x e h. absurd (not_settled r s parent x now.was_open h))
      (λ x e h. absurd (apart (sym now.phase ∙ ap (λ (y : Solved). phase_of y.value)
      (settled_once r (with_pair s c parent) after parent (still_mine s c parent mine) now.value x now.settled h) ∙ e)))

  -- the parent's place in the range, which is in no queue before it is settled
  here : parent - s.lo < length s.delivered
  here = let a = mine.0 in let b = mine.1 in omega arith

  back : s.lo + (parent - s.lo) ≡ parent
  back = let a = mine.0 in omega arith

  not_listed : IsSettledNow r s (with_pair s c parent) parent → (phase : Phase) (level : ℕ) (q : QueueData) → IsQueue r s phase level q
      → Contains q.indexes (parent - s.lo) → ⊥
  not_listed now phase level q old h =
      let w = (old.listed (parent - s.lo)).0 h in
      not_settled r s parent w.value now.was_open (subst (λ (i : ℕ). StatusIs r s i (Settled w.value)) back w.settled)

  -- a pair that settles in the queue's phase
  pub queue_room : IsSettledNow r s (with_pair s c parent) parent → (phase : Phase) (level : ℕ) (q : QueueData) → IsQueue r s phase level q
      → length q.indexes < q.room
  queue_room now phase level q old =
      let few = fewer_than (length s.delivered) (parent - s.lo) q.indexes old.once (λ x h. ((old.listed x).0 h).within) here
      (not_listed now phase level q old) in
      let room = old.room in omega arith

  pub queue_pushed : (now : IsSettledNow r s (with_pair s c parent) parent) → (q p : QueueData) → IsQueue r s s.phase s.level q
      → p.indexes ≡ q.indexes ++ (parent - s.lo) ∷ [] → p.from ≡ q.from → p.to ≡ q.to → q.room ≤ p.room → IsQueue r (with_pair s c parent) s.phase s.level p
  queue_pushed now q p old is from to room = record {
    listed = λ k. (
      λ h. elim (Contains-append_cases q.indexes last k (subst (λ (l : List ℕ). Contains l k) is h)) [
        | inl a ↦ old_settled k ((old.listed k).0 a) (apart k a)
        | inr a ↦ elim (contains_cases (parent - s.lo) k [] a)
            [ inl e ↦ subst (IsSettledIn r (with_pair s c parent) s.phase) e now_settled | inr z ↦ absurd (contains_none k z) ]
      ],
      λ w. subst (λ (l : List ℕ). Contains l k) (sym is) (elim (cases_eq k (parent - s.lo)) [
        | inl e ↦ subst (Contains (q.indexes ++ last)) (sym e) (Contains-append_right q.indexes last (parent - s.lo) (contains_first (parent - s.lo) []))
        | inr ne ↦ Contains-append_left q.indexes last k ((old.listed k).1 (was_settled k w ne))
      ]),
    );
    once = subst AreDistinct (sym is) (distinct_push q.indexes (parent - s.lo) old.once (not_listed now s.phase s.level q old));
    placed = λ place k x got h. place_of place k x (subst (λ (l : List ℕ). slice_get l place ≡ Some k) is got) h;
    order = (let l = old.order in omega arith);
    inside = (let l = old.inside in let n = length-append q.indexes last in let e = ap (λ (l : List ℕ). length l) is in omega arith);
    room = (let n = count_same s c parent mine in let l = old.room in omega arith);
  }
    where
      last : List ℕ
      last = (parent - s.lo) ∷ []

      apart_of : (k : ℕ) → (k ≢ parent - s.lo) → (s.lo + k ≢ parent)
      apart_of k ne e = ne (omega arith)

      apart : (k : ℕ) → Contains q.indexes k → (k ≢ parent - s.lo)
      apart k a e = not_listed now s.phase s.level q old (subst (Contains q.indexes) e a)

      old_settled : (k : ℕ) → IsSettledIn r s s.phase k → (k ≢ parent - s.lo) → IsSettledIn r (with_pair s c parent) s.phase k
      old_settled k w ne = record {
        within = (let n = count_same s c parent mine in let l = w.within in omega arith);
        value = w.value;
        settled = other_to k w.value (apart_of k ne) w.settled;
        phase_is = w.phase_is;
      }

      was_settled : (k : ℕ) → IsSettledIn r (with_pair s c parent) s.phase k → (k ≢ parent - s.lo) → IsSettledIn r s s.phase k
      was_settled k w ne = record {
        within = (let n = count_same s c parent mine in let l = w.within in omega arith);
        value = w.value;
        settled = other_from k w.value (apart_of k ne) w.settled;
        phase_is = w.phase_is;
      }

      now_settled : IsSettledIn r (with_pair s c parent) s.phase (parent - s.lo)
      now_settled = record {
        within = (let n = count_same s c parent mine in let l = here in omega arith);
        value = now.value;
        settled = subst (λ (i : ℕ). StatusIs r (with_pair s c parent) i (Settled now.value)) (sym back) now.settled;
        phase_is = now.phase;
      }

      place_of : (place k : ℕ) (x : Solved) → slice_get (q.indexes ++ last) place ≡ Some k → StatusIs r (with_pair s c parent) (s.lo + k) (Settled x)
          → IsQueuedAt s.level p place x.remoteness
      place_of place k x got h = elim (cases_lt place (length q.indexes)) [
        | inl l ↦ (
            let k_is : get_or q.indexes place 0 ≡ k =
            sym (get_or_append_left q.indexes last 0 place l) ∙ get_or_from_slice_get (q.indexes ++ last) place k 0 got in
            let there : Contains q.indexes k = subst (Contains q.indexes) k_is (Contains-get_or q.indexes place 0 l) in
            let was : slice_get q.indexes place ≡ Some k = slice_get-get_or q.indexes place 0 l ∙ ap (λ (y : ℕ). Some y) k_is in
            let placed = old.placed place k x was (other_from k x (apart_of k (apart k there)) h) in
            record {
              before = λ a. placed.before (omega arith);
              present = λ a b. placed.present (omega arith) (omega arith);
              after = λ a. placed.after (omega arith);
            })
        | inr g ↦ (
            let n = length-append q.indexes last in
            let inside = old.inside in
            let order = old.order in
            let m : place < length (q.indexes ++ last) = slice_get_within (q.indexes ++ last) place k got in
            let end : place ≡ length q.indexes = omega arith in
            let k_is : parent - s.lo ≡ k = sym (ap (λ (j : ℕ). get_or (q.indexes ++ last) j 0) end ∙ get_or-append_seam q.indexes (parent - s.lo) [] 0)
            ∙ get_or_from_slice_get (q.indexes ++ last) place k 0 got in
            let h' : StatusIs r (with_pair s c parent) parent (Settled x) =
            subst (λ (i : ℕ). StatusIs r (with_pair s c parent) i (Settled x)) (ap (λ (j : ℕ). s.lo + j) (sym k_is) ∙ back) h in
            let e = ap (λ (y : Solved). y.remoteness) (settled_once r (with_pair s c parent) after parent (still_mine s c parent mine) now.value x now.settled h') in
            let level : x.remoteness ≡ s.level + 1 = sym e ∙ now.remoteness in
            record {
              before = λ a. absurd (omega arith);
              present = λ a b. absurd (omega arith);
              after = λ a. level;
            })
      ]

-- the queue of a level that is closed
pub queue_closed : (r : Rules) (s : ShardState) (phase : Phase) (level : ℕ) (q : QueueData) → IsQueue r s phase level q
    → IsQueue r s phase (level + 1) (record q { from = q.to; to = length q.indexes })
queue_closed r s phase level q old = record {
  listed = old.listed;
  once = old.once;
  placed = λ place k x is h.
      let p = old.placed place k x is h in
      let l : place < length q.indexes = slice_get_within q.indexes place k is in
      record {
        before = λ a. elim (cases_lt place q.from) [ inl b ↦ (let z = p.before b in omega arith) | inr b ↦ (let z = p.present b a in omega arith) ];
        present = λ a b. p.after a;
        after = λ a. absurd (omega arith);
      };
  order = old.inside;
  inside = omega arith;
  room = old.room;
}

-- a queue does not depend on the place at which the shard is
pub queue_moved : (r : Rules) (s : ShardState) (to : Phase) (n : ℕ) (phase : Phase) (level : ℕ) (q : QueueData) → IsQueue r s phase level q
    → IsQueue r (record s { phase = to; level = n }) phase level q
queue_moved r s to n phase level q old = record {
  listed = λ k. (
    λ h. let w = (old.listed k).0 h in record { within = w.within; value = w.value; settled = w.settled; phase_is = w.phase_is },
    λ w. (old.listed k).1 (record { within = w.within; value = w.value; settled = w.settled; phase_is = w.phase_is }),
  );
  once = old.once;
  placed = old.placed;
  order = old.order;
  inside = old.inside;
  room = old.room;
}
