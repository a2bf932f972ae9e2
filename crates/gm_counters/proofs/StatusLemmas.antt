-- How a status changes where one more child is delivered.
use Rattle.gm_counters.proofs.Lower.{◌≡◌, ◌≢◌, ℕ, ◌+◌, inl, inr, Bool, true, List, ◌∙◌, sym, subst, refl, None, Some, Contains, Position, Value, Lose, Draw, Tie, Win, Phase, Rules, at, HasValue, StandsAt, StandsBefore, with_position, IsSettled, Status, Hole, Undecided, Settled, ShardState, IsInRange, delivered_to, In, HasStatus, IsShard, next_status}
use Rattle.std.proofs.Common.{⊎_elim, false}
use Rattle.gm_game.specs.Rules.{IsInner, IsCanonicalChild, IsParent}
use Rattle.gm_game.specs.Records.{solved}
use Rattle.gm_game.specs.Settling.{AreAll, IsUndecided, AreReached, And}
use Rattle.gm_game.proofs.SetLemmas.{has_new, has_old, with_cases}
use Rattle.gm_game.proofs.Delivered.{settled_stays, settles_win, settles_tie, settles_loss, settles_nothing}

-- the same positions settle the same
pub settled_same : (r : Rules) (p : Position) (I J : Position → Type 0) → ((y : Position) → I y → J y) → ((y : Position) → J y → I y) → (v : Value) (n : ℕ)
    → IsSettled r p I v n → IsSettled r p J v n
settled_same r p I J to from Win n (m, e, x) = let (c, i, h) = x.one in (m, e, record { one = (c, to c i, h); least = λ y k j. x.least y k (from y j) })
settled_same r p I J to from Lose n (m, e, all, x) =
    let (c, i, h) = x.longest in (m, e, λ y k. to y (all y k), record { each = λ y j. x.each y (from y j); longest = (c, to c i, h) })
settled_same r p I J to from Tie n (m, e, none, x) =
    let (c, i, h) = x.one in (m, e, λ y k j. none y k (from y j), record { one = (c, to c i, h); least = λ y k j. x.least y k (from y j) })
settled_same r p I J to from Draw n x = x

pub undecided_same : (r : Rules) (p : Position) (I J : Position → Type 0) → ((y : Position) → I y → J y) → ((y : Position) → J y → I y)
    → IsUndecided r p I → IsUndecided r p J
undecided_same r p I J to from u v n x = u v n (settled_same r p J I from to v n x)

-- the children and one more, as a list and as a kind
and_with : (c : Position) (d : List Position) (y : Position) → And (In d) c y → In (with_position c d) y
and_with c d y (inl i) = has_old c y d i
and_with c d y (inr e) = subst (In (with_position c d)) (sym e) (has_new c d)

with_and : (c : Position) (d : List Position) (y : Position) → In (with_position c d) y → And (In d) c y
with_and c d y h = ⊎_elim (λ (e : c ≡ y). inr (sym e)) (λ (i : Contains d y). inl i) (with_cases c y d h)

-- an undecided position takes a child of this value
after_undecided : (r : Rules) (p c : Position) (d : List Position) (v : Value) (phase : Phase) (n : ℕ) (last : Bool)
    → AreReached r p phase n (In d) → IsInner r p → IsCanonicalChild r p c → StandsAt r phase n c → HasValue r c v n → (v ≢ Draw)
    → (last ≡ true → AreAll r p (In (with_position c d))) → (last ≡ false → AreAll r p (In (with_position c d)) → ⊥)
    → IsUndecided r p (In d) → HasStatus r p (with_position c d) (next_status Undecided (solved v n) last)
after_undecided r p c d Lose phase n last h inner k s w some all more u =
    inr (inner, settled_same r p (And (In d) c) (In (with_position c d)) (and_with c d) (with_and c d) Win (n + 1) (settles_win r p phase n (In d) h c k s u w))
after_undecided r p c d Draw phase n last h inner k s w some all more u = absurd (some refl)
after_undecided r p c d Tie phase n last h inner k s w some all more u =
    inr (inner, settled_same r p (And (In d) c) (In (with_position c d)) (and_with c d) (with_and c d) Tie (n + 1) (settles_tie r p phase n (In d) h c k s u w))
after_undecided r p c d Win phase n true h inner k s w some all more u =
    inr (
      inner,
      settled_same r p (And (In d) c) (In (with_position c d)) (and_with c d) (with_and c d) Lose (n + 1)
          (settles_loss r p phase n (In d) h c k s u w (λ y i. with_and c d y (all refl y i))),
    )
after_undecided r p c d Win phase n false h inner k s w some all more u = (
  inner,
  undecided_same r p (And (In d) c) (In (with_position c d)) (and_with c d) (with_and c d)
      (settles_nothing r p phase n (In d) h c k s u w (λ a. more refl (λ y i. and_with c d y (a y i)))),
)

-- any inner position takes a new child
pub after_any : (r : Rules) (p c : Position) (d : List Position) (v : Value) (phase : Phase) (n : ℕ) (last : Bool) (old : Status)
    → AreReached r p phase n (In d) → IsInner r p → IsCanonicalChild r p c → StandsAt r phase n c → HasValue r c v n → (v ≢ Draw)
    → (last ≡ true → AreAll r p (In (with_position c d))) → (last ≡ false → AreAll r p (In (with_position c d)) → ⊥)
    → HasStatus r p d old → HasStatus r p (with_position c d) (next_status old (solved v n) last)
after_any r p c d v phase n last Hole h inner k s w some all more x = absurd (x (inner.legal, inner.canonical))
after_any r p c d v phase n last Undecided h inner k s w some all more x = after_undecided r p c d v phase n last h inner k s w some all more x.1
after_any r p c d v phase n last (Settled y) h inner k s w some all more (inl e) = let none : None ≡ Some e.ended =
    sym inner.unended ∙ e.primitive in absurd (cc)
after_any r p c d v phase n last (Settled y) h inner k s w some all more (inr x) =
    inr (
      x.0,
      settled_same r p (And (In d) c) (In (with_position c d)) (and_with c d) (with_and c d) y.value y.remoteness
          (settled_stays r p phase n (In d) h c k s y.value y.remoteness x.1),
    )

-- the children delivered to an inner position of a shard, at its place
pub reached_by : (r : Rules) (s : ShardState) (i : ℕ) → IsInner r (at s.tier i)
    → ((c : Position) → Contains (delivered_to s i) c → IsParent r c s.tier i × StandsBefore r s.phase (s.level + 1) c)
    → ((c : Position) → IsParent r c s.tier i → StandsBefore r s.phase s.level c → Contains (delivered_to s i) c)
    → AreReached r (at s.tier i) s.phase s.level (In (delivered_to s i))
reached_by r s i inner pairs whole = record {
  children = λ c h. (pairs c h).0.1;
  up_to = λ c h. (let b = (pairs c h).1 in (b.own_phase, b.own_level, b.stands, b.before));
  before = λ c q n k stands b. whole c (inner, k) (record { own_phase = q; own_level = n; stands = stands; before = b });
}

pub reached_at : (r : Rules) (s : ShardState) (statuses : List Status) → IsShard r s statuses → (i : ℕ) → IsInRange s i → IsInner r (at s.tier i)
    → AreReached r (at s.tier i) s.phase s.level (In (delivered_to s i))
reached_at r s statuses t i m inner = reached_by r s i inner (λ c. t.pairs i c m) (λ c. t.whole i c m)
