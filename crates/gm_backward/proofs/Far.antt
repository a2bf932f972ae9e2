-- A delivery that would settle a position above the limit, and the last level within it.
use Rattle.gm_backward.proofs.Lower.{◌≡◌, ℕ, ◌+◌, ◌-◌, ◌<◌, ◌≤◌, inl, inr, List, [], refl, sym, subst, ◌∙◌, arith, Option, Some, Contains, cases_lt, REMOTENESS, Position, Solved, Phase, WinLose, Ties, Place, Rules, at, IsGame, AreHeld, NoteData, ShardState, IsGood, IsTooFar}
use Rattle.std.proofs.Common.{⊎_elim, None, IsSome, Err, get_or-set_same}
use Rattle.std.proofs.lemmas.Bool.{false≢true}
use Rattle.gm_game.specs.Rules.{IsCanonical, IsInner}
use Rattle.gm_game.specs.Values.{HasValue, IsTrueValue}
use Rattle.gm_game.specs.Places.{StandsAt, IsPlaceBefore, IsLastLevel, IsAtLevel}
use Rattle.gm_table.specs.Tables.{TableData, table_of, AreTables}
use Rattle.gm_counters.specs.State.{delivered_to, IsInRange, with_pair}
use Rattle.gm_counters.specs.declared.status.Refused.TheVariants.{TooFar, NotThisLevel, NotMine, NotAParent}
use Rattle.gm_counters.specs.Delivery.{Delivers, IsPairHere, IsSettledNow}
use Rattle.gm_locks.specs.Spots.{IsDeliverable}
use Rattle.gm_backward.specs.inner.Covered.{IsCovered}
use Rattle.gm_game.specs.Children.{with_position}
use Rattle.gm_game.specs.Settling.{IsSettled, AreReached, And}
use Rattle.gm_game.proofs.SetLemmas.{has_new, has_old, with_cases}
use Rattle.gm_game.proofs.Delivered.{reached_more}
use Rattle.gm_game.proofs.Reached.{reached_true}
use Rattle.gm_game.proofs.Frontier.{none_from_last}
use Rattle.gm_frontier.specs.Notes.{IsNote, phase_of}
use Rattle.gm_counters.specs.declared.status.Status.TheVariants.{Settled}
use Rattle.gm_counters.specs.Status.{In, StatusIs}
use Rattle.gm_counters.specs.declared.status.Refused.{Refused}
use Rattle.gm_counters.proofs.StatusLemmas.{settled_same}
use Rattle.gm_counters.proofs.AddedLemmas.{value_stands}
use Rattle.gm_locks.proofs.Places.{stands_remoteness}
use Rattle.gm_table.proofs.ValueLemmas.{known_value}

-- the children delivered to an inner position of a good shard, at its place
reached_good : (r : Rules) (s : ShardState) → IsGood r s → (i : ℕ) → IsInRange s i → IsInner r (at s.tier i)
    → AreReached r (at s.tier i) s.phase s.level (In (delivered_to s i))
reached_good r s h i m inner = record {
  children = λ c k. (h.pairs i c m k).0.1;
  up_to = λ c k. (let b = (h.pairs i c m k).1 in (b.own_phase, b.own_level, b.stands, b.before));
  before = λ c q n k stands b. h.whole i c m (inner, k) (record { own_phase = q; own_level = n; stands = stands; before = b });
}

-- the children and one more, as a list and as a kind
and_with : (c : Position) (d : List Position) (y : Position) → And (In d) c y → In (with_position c d) y
and_with c d y (inl i) = has_old c y d i
and_with c d y (inr e) = subst (In (with_position c d)) (sym e) (has_new c d)

with_and : (c : Position) (d : List Position) (y : Position) → In (with_position c d) y → And (In d) c y
with_and c d y h = ⊎_elim (λ (e : c ≡ y). inr (sym e)) (λ (i : Contains d y). inl i) (with_cases c y d h)

module _ (r : Rules) (g : IsGame r) (s : ShardState) (h : IsGood r s) (note : NoteData) (parent : ℕ) (is : IsNote r note.position note.solved)
    (here : IsPairHere r s note parent) where
  stands : StandsAt r s.phase s.level note.position
  stands =
      subst (λ (ph : Phase). StandsAt r ph s.level note.position) here.is_level.0
      (subst (λ (n : ℕ). StandsAt r (phase_of note.solved.value) n note.position) here.is_level.1
      (value_stands r note.position note.solved.value note.solved.remoteness is.value is.decided))

  -- what the note settles is the true value
  settled_with : (x : Solved) → IsSettled r (at s.tier parent) (In (with_position note.position (delivered_to s parent))) x.value x.remoteness
      → HasValue r (at s.tier parent) x.value x.remoteness
  settled_with x q =
      let d = delivered_to s parent in
      let c = note.position in
      let reached = reached_good r s h parent here.is_mine here.is_parent.0 in
      reached_true r (at s.tier parent) s.phase s.level (And (In d) c)
      (reached_more r (at s.tier parent) s.phase s.level (In d) reached c here.is_parent.1 stands)
      g here.is_parent.0.legal here.is_parent.0.unended x.value x.remoteness
      (settled_same r (at s.tier parent) (In (with_position c d)) (And (In d) c) (with_and c d) (and_with c d) x.value x.remoteness q)

  same_here : delivered_to (with_pair s note.position parent) parent ≡ with_position note.position (delivered_to s parent)
  same_here = let m = here.is_mine in get_or-set_same s.delivered (parent - s.lo) (with_position note.position (delivered_to s parent)) [] (omega arith)

  settled_truth : (x : Solved) → StatusIs r (with_pair s note.position parent) parent (Settled x) → HasValue r (at s.tier parent) x.value x.remoteness
  settled_truth x (inl e) = let none : None ≡ Some e.ended = sym here.is_parent.0.unended ∙ e.primitive in absurd (cc)
  settled_truth x (inr (inner, q)) = settled_with x (subst (λ (d : List Position). IsSettled r (at s.tier parent) (In d) x.value x.remoteness) same_here q)

  -- so a delivery that is refused as too far tells of a position one above the limit
  pub too_far : s.level ≤ REMOTENESS → IsSettledNow r s (with_pair s note.position parent) parent → REMOTENESS < s.level + 1 → IsTooFar r s.tier
  too_far near now far =
      let inner = here.is_parent.0 in
      let n : now.value.remoteness ≡ REMOTENESS + 1 = (let e = now.remoteness in omega arith) in
      record {
        index = parent;
        canonical = (inner.legal, inner.canonical);
        value = now.value.value;
        far = subst (HasValue r (at s.tier parent) now.value.value) n (settled_truth now.value now.settled);
      }

-- a pair that can be delivered is refused for nothing else
pub refused_far : (r : Rules) → IsGame r → (s t : ShardState) (pair : NoteData × ℕ) (refused : Refused) → IsDeliverable r s pair → IsGood r t
    → s.level ≤ REMOTENESS → Delivers r pair.0 pair.1 s t (Err refused) → IsTooFar r s.tier
refused_far r g s t pair NotThisLevel d good near h = absurd (h.1 d.here.is_level)
refused_far r g s t pair NotMine d good near h = absurd (h.2 d.here.is_mine)
refused_far r g s t pair NotAParent d good near h = absurd (h.3 d.here.is_parent)
refused_far r g s t pair TooFar d good near h = too_far r g s (subst (IsGood r) h.0 good) pair.0 pair.1 d.is_note d.here near h.3 h.4

-- the tables of the child tiers know each canonical legal position of theirs
pub child_known : (r : Rules) → IsGame r → (entries : List TableData) → AreTables r entries → (tier : ℕ) → AreHeld r entries tier → (c : Position)
    → IsCanonical r c → Contains (r.child_tiers tier) c.tier → (x : Solved) × IsTrueValue r c x × (x.remoteness ≤ REMOTENESS)
child_known r g entries tables tier held c canonical k = found (table_of entries c.tier) refl (held c.tier k)
  where
    found : (o : Option TableData) → table_of entries c.tier ≡ o → IsSome o → (x : Solved) × IsTrueValue r c x × (x.remoteness ≤ REMOTENESS)
    found None e some = absurd (false≢true some)
    found (Some t) e some = let (x, is, value, near) = known_value r g entries c t tables canonical.0 e in (x, value, near)

-- one level above the limit nothing is left, where good shards have every index of the tier
past_limit : (r : Rules) → IsGame r → (entries : List TableData) → AreTables r entries → (place : Place)
    → ((i : ℕ) → i < r.tier_size place.tier → IsCovered r place i) → AreHeld r entries place.tier → REMOTENESS < place.level
    → IsLastLevel r place.tier place.phase place.level
past_limit r g entries tables place covered held above = λ c m near stands. elim (cases_lt m place.level) [
  | inl l ↦ l
  | inr l ↦ absurd (elim near.1 [
    | inl e ↦ none_from_last r g place.tier place.phase place.level none_here none_below c m near.0 e l stands
    | inr k ↦ none_below c m l k near.0 stands
  ])
]
  where
    none_below : (c : Position) (m : ℕ) → place.level ≤ m → Contains (r.child_tiers place.tier) c.tier → IsCanonical r c → StandsAt r place.phase m c → ⊥
    none_below c m l k canonical stands =
        let (x, is_true, near) = child_known r g entries tables place.tier held c canonical k in
        let e = stands_remoteness r c place.phase m x stands is_true in
        omega arith

    same_place : (q : Phase) (n : ℕ) → IsPlaceBefore q n q (n + 1)
    same_place WinLose n = omega arith
    same_place Ties n = omega arith

    of_shard : (s : ShardState) → IsGood r s → (i : ℕ) → IsInRange s i → REMOTENESS < s.level → IsCanonical r (at s.tier i)
        → StandsAt r s.phase s.level (at s.tier i) → ⊥
    of_shard s good i m far canonical stands =
        let (x, settled) = good.true_is_settled i m canonical
        (record { own_phase = s.phase; own_level = s.level; stands = stands; before = same_place s.phase s.level }) in
        let (is_true, near) = good.settled_is_true i x m settled in
        let e = stands_remoteness r (at s.tier i) s.phase s.level x stands is_true in
        omega arith

    own_none : (i : ℕ) → IsCanonical r (at place.tier i) → StandsAt r place.phase place.level (at place.tier i) → ⊥
    own_none i canonical stands =
        let k = covered i (g.index_below (at place.tier i) canonical.0) in
        let back = sym k.here in
        of_shard k.shard k.good i k.mine (subst (λ (p : Place). REMOTENESS < p.level) back above)
        (subst (λ (p : Place). IsCanonical r (at p.tier i)) back canonical) (subst (λ (p : Place). StandsAt r p.phase p.level (at p.tier i)) back stands)

    none_here : (c : Position) → IsAtLevel r place.tier place.phase place.level c → ⊥
    none_here c (canonical, inl e, stands) = own_none c.index (subst (λ (t : ℕ). IsCanonical r (at t c.index)) e canonical)
        (subst (λ (t : ℕ). StandsAt r place.phase place.level (at t c.index)) e stands)
    none_here c (canonical, inr k, stands) = none_below c place.level (omega arith) k canonical stands

-- so where something is left the level is within the limit
pub level_near : (r : Rules) → IsGame r → (entries : List TableData) → AreTables r entries → (place : Place)
    → ((i : ℕ) → i < r.tier_size place.tier → IsCovered r place i) → AreHeld r entries place.tier
    → (IsLastLevel r place.tier place.phase place.level → ⊥) → place.level ≤ REMOTENESS
level_near r g entries tables place covered held more = elim (cases_lt REMOTENESS place.level) [
  | inl above ↦ absurd (more (past_limit r g entries tables place covered held above))
  | inr near ↦ near
]
