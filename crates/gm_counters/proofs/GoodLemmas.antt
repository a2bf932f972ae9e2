-- A good shard, from what its fields keep.
use Rattle.gm_counters.proofs.Lower.{◌≡◌, ℕ, ◌+◌, ◌-◌, ◌<◌, ◌≤◌, inl, inr, List, length, get_or, sym, subst, ◌∙◌, arith, None, Some, slice_get-get_or, REMOTENESS, Solved, Rules, at, IsCanonical, IsGame, IsTrueValue, StandsBefore, Status, Hole, Undecided, Settled, ShardState, IsInRange, delivered_to, In, StatusIs, IsShard, IsWithinLimit, IsGood}
use Rattle.gm_game.proofs.Basic.{HasValue_once}
use Rattle.gm_game.proofs.Settled.{end_value}
use Rattle.gm_game.proofs.Reached.{reached_true, reached_settled}
use Rattle.gm_counters.proofs.StatusLemmas.{reached_at}

module _ {r : Rules} (g : IsGame r) {s : ShardState} {statuses : List Status} (t : IsShard r s statuses) where
  -- a settled status is the true value
  pub settled_truth : (i : ℕ) (x : Solved) → IsInRange s i → StatusIs r s i (Settled x) → IsTrueValue r (at s.tier i) x
  settled_truth i x m (inl e) = subst (λ (y : Solved). IsTrueValue r (at s.tier i) y) (sym e.value) (end_value r (at s.tier i) e.ended e.primitive)
  settled_truth i x m (inr (inner, q)) =
      reached_true r (at s.tier i) s.phase s.level (In (delivered_to s i)) (reached_at r s statuses t i m inner)
      g inner.legal inner.unended x.value x.remoteness q

  -- the stored status
  pub stored : (i : ℕ) → IsInRange s i → (y : Status) × StatusIs r s i y × IsWithinLimit y
  stored i m =
      let w : i - s.lo < length statuses = (let k = t.many in let a = m.0 in let b = m.1 in omega arith) in
      let k = t.known i (get_or statuses (i - s.lo) Hole) m (slice_get-get_or statuses (i - s.lo) Hole w) in
      (get_or statuses (i - s.lo) Hole, k.0, k.1)

  -- a settled status is the stored one, and so within the limit
  pub near_of : (i : ℕ) (x : Solved) (m : IsInRange s i) → StatusIs r s i (Settled x) → (y : Status) → StatusIs r s i y → IsWithinLimit y
      → x.remoteness ≤ REMOTENESS
  near_of i x m (inl e) Hole k n = absurd (k e.canonical)
  near_of i x m (inr q) Hole k n = absurd (k (q.0.legal, q.0.canonical))
  near_of i x m (inl e) Undecided k n = let none : None ≡ Some e.ended = sym k.0.unended ∙ e.primitive in absurd (cc)
  near_of i x m (inr q) Undecided k n = absurd (k.1 x.value x.remoteness q.1)
  near_of i x m h (Settled y) k n =
      let e : x.remoteness ≡ y.remoteness =
      (HasValue_once r (at s.tier i) x.value y.value x.remoteness y.remoteness (settled_truth i x m h) (settled_truth i y m k)).1 in omega arith

  -- a position that is at the place or before is settled
  settled_of : (i : ℕ) (m : IsInRange s i) → IsCanonical r (at s.tier i) → StandsBefore r s.phase (s.level + 1) (at s.tier i) → (y : Status) → StatusIs r s i y
      → (x : Solved) × StatusIs r s i (Settled x)
  settled_of i m c b Hole k = absurd (k c)
  settled_of i m c b Undecided (inner, u) =
      let (v, h, q) = reached_settled r (at s.tier i) s.phase s.level (In (delivered_to s i)) (reached_at r s statuses t i m inner)
      g inner.legal inner.unended b.own_phase b.own_level b.stands b.before in
      absurd (u v b.own_level q)
  settled_of i m c b (Settled x) k = (x, k)

  pub good_from : IsGood r s
  good_from = record {
    once = t.once;
    pairs = t.pairs;
    whole = t.whole;
    settled_is_true = λ (i : ℕ) (x : Solved) (m : IsInRange s i) (h : StatusIs r s i (Settled x)).
        (settled_truth i x m h, near_of i x m h ((stored i m).0) ((stored i m).1) ((stored i m).2));
    true_is_settled = λ (i : ℕ) (m : IsInRange s i) (c : IsCanonical r (at s.tier i))
        (b : StandsBefore r s.phase (s.level + 1) (at s.tier i)). settled_of i m c b ((stored i m).0) ((stored i m).1);
  }

  -- each status that an index has is within the limit
  pub within_limit : (i : ℕ) → IsInRange s i → (y : Status) → StatusIs r s i y → IsWithinLimit y
  within_limit i m Hole h = tt
  within_limit i m Undecided h = tt
  within_limit i m (Settled x) h = near_of i x m h ((stored i m).0) ((stored i m).1) ((stored i m).2)
