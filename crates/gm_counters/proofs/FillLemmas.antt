-- The queue of the positions of a range that have ended, index by index.
use Rattle.gm_counters.proofs.Lower.{◌≡◌, ℕ, ◌+◌, ◌<◌, ◌≤◌, inl, inr, List, [], ◌∷◌, ◌++◌, length, refl, sym, ap, subst, ◌∙◌, arith, Some, Contains, slice_get, cases_eq, cases_lt, slice_get_within, get_or_from_slice_get, Contains-get_or, Contains-append_left, Contains-append_right, Contains-append_cases, Position, End, Phase, WinLose, Ties, Solved, Rules, at, from_end, IsSettled, contains_none, contains_first, contains_cases, Status, Hole, Undecided, Settled, first_state, ShardState, IsInRange, delivered_to, In, StatusIs, IsGood, QueueData, IsQueue, AreDistinct}
use Rattle.std.proofs.Common.{◌↔◌}
use Rattle.gm_counters.specs.inner.Queues.{IsSettledIn, AreQueues, HasPhase, IsEmptied}
use Rattle.gm_counters.proofs.NoteLemmas.{none_of}
use Rattle.gm_counters.proofs.BeginLemmas.{nothing_settled, first_empty}
use Rattle.gm_game.specs.declared.position.End.TheVariants.{Lose as EndLose, Tie as EndTie, Win as EndWin}
use Rattle.gm_counters.proofs.DistinctLemmas.{distinct_none, distinct_push, distinct_few}
use Rattle.gm_counters.proofs.QueueLemmas.{settled_once}

-- the queue of the first n indexes
pub record IsFilled (r : Rules) (s : ShardState) (phase : Phase) (n : ℕ) (q : QueueData) : Type 0 where
  pub listed : (k : ℕ) → Contains q.indexes k ↔ ((k < n) × IsSettledIn r s phase k)
  pub once : AreDistinct q.indexes
  pub from : q.from ≡ 0
  pub to : q.to ≡ 0
  pub room : length s.delivered ≤ q.room

pub filled_none : (r : Rules) (s : ShardState) (phase : Phase) (q : QueueData) → q.indexes ≡ [] → q.from ≡ 0 → q.to ≡ 0 → length s.delivered ≤ q.room
    → IsFilled r s phase 0 q
filled_none r s phase q e from to room = record {
  listed = λ k. (λ h. absurd (contains_none k (subst (λ (l : List ℕ). Contains l k) e h)), λ (l, w). absurd (omega arith));
  once = subst AreDistinct (sym e) distinct_none;
  from = from;
  to = to;
  room = room;
}

pub filled_few : (r : Rules) (s : ShardState) (phase : Phase) (n : ℕ) (q : QueueData) → IsFilled r s phase n q → n < length s.delivered
    → length q.indexes < q.room
filled_few r s phase n q f l =
    let few = distinct_few n q.indexes f.once (λ x h. ((f.listed x).0 h).0) in
    let room = f.room in
    omega arith

-- a settled status has this phase exactly if the record has
has_phase_of : (r : Rules) (s : ShardState) → IsGood r s → (phase : Phase) (i : ℕ) → IsInRange s i → (status : Status) (x : Solved) → StatusIs r s i status
    → StatusIs r s i (Settled x) → HasPhase phase (Settled x) → HasPhase phase status
has_phase_of r s g phase i m Hole x a b p = absurd (none_of r (at s.tier i) (delivered_to s i) Hole a (λ y e. cc) x b)
has_phase_of r s g phase i m Undecided x a b p = absurd (none_of r (at s.tier i) (delivered_to s i) Undecided a (λ y e. cc) x b)
has_phase_of r s g phase i m (Settled y) x a b p = subst (λ (z : Solved). HasPhase phase (Settled z)) (settled_once r s g i m x y b a) p

settled_in : (r : Rules) (s : ShardState) (phase : Phase) (k : ℕ) → k < length s.delivered → (status : Status) → StatusIs r s (s.lo + k) status
    → HasPhase phase status → IsSettledIn r s phase k
settled_in r s phase k l Hole a p = absurd p
settled_in r s phase k l Undecided a p = absurd p
settled_in r s phase k l (Settled x) a p = record { within = l; value = x; settled = a; phase_is = p }

-- indexes that are not settled in the phase are in no queue
filled_over : (r : Rules) (s : ShardState) (phase : Phase) (n m : ℕ) (q : QueueData) → n ≤ m
    → ((k : ℕ) → n ≤ k → k < m → IsSettledIn r s phase k → ⊥) → IsFilled r s phase n q → IsFilled r s phase m q
filled_over r s phase n m q order none f = record {
  listed = λ k. (
    λ h. (let (l, w) = (f.listed k).0 h in (omega arith, w)),
    λ (l, w). elim (cases_lt k n) [ inl b ↦ (f.listed k).1 (b, w) | inr a ↦ absurd (none k a l w) ],
  );
  once = f.once;
  from = f.from;
  to = f.to;
  room = f.room;
}

-- nor are holes
pub filled_holes : (r : Rules) (s : ShardState) (phase : Phase) (n m : ℕ) (q : QueueData) → n ≤ m
    → ((i : ℕ) → s.lo + n ≤ i → i < s.lo + m → StatusIs r s i Hole) → IsFilled r s phase n q → IsFilled r s phase m q
filled_holes r s phase n m q order holes = filled_over r s phase n m q order
    (λ k low high w. none_of r (at s.tier (s.lo + k)) (delivered_to s (s.lo + k)) Hole (holes (s.lo + k) (omega arith) (omega arith)) (λ y e. cc)
    w.value w.settled)

module _ (r : Rules) (s : ShardState) (good : IsGood r s) (phase : Phase) (n : ℕ) (within : n < length s.delivered) (q : QueueData)
    (f : IsFilled r s phase n q) (status : Status) (is : StatusIs r s (s.lo + n) status) where
  pub filled_more : HasPhase phase status → (p : QueueData) → p.indexes ≡ q.indexes ++ n ∷ [] → p.from ≡ q.from → p.to ≡ q.to → q.room ≤ p.room
      → IsFilled r s phase (n + 1) p
  filled_more has p e from to room = record {
    listed = λ k. (
      λ h. elim (Contains-append_cases q.indexes (n ∷ []) k (subst (λ (l : List ℕ). Contains l k) e h)) [
        | inl a ↦ (let (l, w) = (f.listed k).0 a in (omega arith, w))
        | inr a ↦ elim (contains_cases n k [] a) [
          | inl i ↦ (omega arith, subst (IsSettledIn r s phase) i (settled_in r s phase n within status is has))
          | inr z ↦ absurd (contains_none k z)
        ]
      ],
      λ (l, w). subst (λ (l : List ℕ). Contains l k) (sym e) (elim (cases_eq k n) [
        | inl i ↦ subst (Contains (q.indexes ++ n ∷ [])) (sym i) (Contains-append_right q.indexes (n ∷ []) n (contains_first n []))
        | inr ne ↦ Contains-append_left q.indexes (n ∷ []) k ((f.listed k).1 (omega arith, w))
      ]),
    );
    once = subst AreDistinct (sym e) (distinct_push q.indexes n f.once (λ h. let l = ((f.listed n).0 h).0 in omega arith));
    from = from ∙ f.from;
    to = to ∙ f.to;
    room = (let l = f.room in omega arith);
  }

  pub filled_past : (HasPhase phase status → ⊥) → IsFilled r s phase (n + 1) q
  filled_past none = filled_over r s phase n (n + 1) q (omega arith)
      (λ k low high w. let i : k ≡ n = omega arith in
      let a : StatusIs r s (s.lo + n) (Settled w.value) = subst (λ (j : ℕ). StatusIs r s (s.lo + j) (Settled w.value)) i w.settled in
      none (has_phase_of r s good phase (s.lo + n) (omega arith, omega arith) status w.value is a w.phase_is)) f

-- if no child is delivered a settled position has ended
end_at_once : (e : End) → (from_end e).remoteness ≡ 0
end_at_once EndLose = refl
end_at_once EndTie = refl
end_at_once EndWin = refl

at_once : (r : Rules) (s : ShardState) (i : ℕ) (x : Solved) → delivered_to s i ≡ [] → StatusIs r s i (Settled x) → x.remoteness ≡ 0
at_once r s i x e (inl h) = ap (λ (y : Solved). y.remoteness) h.value ∙ end_at_once h.ended
at_once r s i x e (inr (inner, h)) =
    absurd (nothing_settled r (at s.tier i) x.value x.remoteness (subst (λ (d : List Position). IsSettled r (at s.tier i) (In d) x.value x.remoteness) e h))

-- the queue of all indexes is that of level 0
pub filled_all : (r : Rules) (s : ShardState) (phase : Phase) (n : ℕ) (q : QueueData) → IsEmptied s → n ≡ length s.delivered → IsFilled r s phase n q
    → IsQueue r s phase 0 (record q { from = q.to; to = length q.indexes })
filled_all r s phase n q none all f = record {
  listed = λ k. (λ h. ((f.listed k).0 h).1, λ w. (f.listed k).1 (let l = w.within in omega arith, w));
  once = f.once;
  placed = λ place k x is h.
      let l : place < length q.indexes = slice_get_within q.indexes place k is in
      let w = (f.listed k).0 (there place k is) in
      let m = w.1.within in
      let z = at_once r s (s.lo + k) x (none (s.lo + k) (omega arith, omega arith)) h in
      let to = f.to in
      record { before = λ a. absurd (omega arith); present = λ a b. z; after = λ a. absurd (omega arith) };
  order = (let to = f.to in omega arith);
  inside = omega arith;
  room = f.room;
}
  where
    there : (place k : ℕ) → slice_get q.indexes place ≡ Some k → Contains q.indexes k
    there place k is = subst (Contains q.indexes) (get_or_from_slice_get q.indexes place k 0 is)
        (Contains-get_or q.indexes place 0 (slice_get_within q.indexes place k is))

-- a shard at the first place has no child delivered
pub first_emptied : (s : ShardState) (tier lo n : ℕ) → s ≡ first_state tier lo n → IsEmptied s
first_emptied s tier lo n e = subst IsEmptied (sym e) (λ i within. first_empty tier lo n i within)

-- its queues have what has ended
pub first_queues : (r : Rules) (s : ShardState) (tier lo n : ℕ) (queue ties : QueueData) → s ≡ first_state tier lo n → IsQueue r s WinLose 0 queue
    → IsQueue r s Ties 0 ties → AreQueues r s queue ties
first_queues r s tier lo n queue ties e w t =
    subst (λ (x : ShardState). AreQueues r x queue ties) (sym e)
    (subst (λ (x : ShardState). IsQueue r x WinLose 0 queue) e w, λ _. subst (λ (x : ShardState). IsQueue r x Ties 0 ties) e t)
