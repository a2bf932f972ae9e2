-- One delivery of a new pair.
use Rattle.gm_counters.proofs.Lower.{◌≡◌, ℕ, ◌+◌, ◌-◌, ◌<◌, ◌≤◌, Bool, true, List, length, map, refl, ap, sym, subst, ◌∙◌, arith, Some, Ok, length-set, true≢false, ◌==◌, Contains, slice_get, REMOTENESS, Position, Solved, Value, Lose, Draw, Tie, Win, Rules, at, IsGame, HasValue, StandsAt, StandsBefore, with_position, canonical_children_of, AreAscending, NoteData, IsNote, phase_of, Status, Hole, Undecided, Settled, Err, FreshSettled, TooFar, Fresh, ShardState, IsInRange, delivered_to, with_pair, In, HasStatus, StatusIs, IsShard, IsWithinLimit, IsShardKept, CanDeliver, Delivers, next_status, IsPairHere, IsSettledNow, KeepsStatus}
use Rattle.std.proofs.Common.{◌^◌, ⊎_elim, false}
use Rattle.std.proofs.Math.ListN.{set}
use Rattle.std.proofs.lemmas.Bool.{false_from_ne_true}
use Rattle.std.proofs.lemmas.Bool.Decides.{Decides-eqb}
use Rattle.gm_game.specs.Rules.{children, IsCanonicalChild, IsParent}
use Rattle.gm_game.specs.Records.{solved}
use Rattle.gm_game.specs.Settling.{AreAll}
use Rattle.gm_counters.specs.Delivery.{is_settling}
use Rattle.gm_game.proofs.SetLemmas.{has_old, with_cases, set_has, has_set, ascending_set, ascending_with, shorter, no_longer, has_all, length_with}
use Rattle.gm_frontier.proofs.ForGame.{now_stands}
use Rattle.gm_counters.proofs.AddedLemmas.{set_cases, range_is, still_mine, same_here, cases_at, note_stands}
use Rattle.gm_counters.proofs.StatusLemmas.{after_any, reached_at}
use Rattle.gm_counters.proofs.GoodLemmas.{near_of, within_limit}

-- the children in K(p), as a list and as a fact
pub in_children : (r : Rules) (p c : Position) → IsCanonicalChild r p c → Contains (canonical_children_of r p) c
in_children r p c h = set_has (map r.canonical (children r p)) c h

pub from_children_of : (r : Rules) (p c : Position) → Contains (canonical_children_of r p) c → IsCanonicalChild r p c
from_children_of r p c h = has_set (map r.canonical (children r p)) c h

-- a child at the present place that is not delivered to its parent
pub record NewPair (r : Rules) (s : ShardState) (c : Position) (parent : ℕ) : Type 0 where
  pub stands : StandsAt r s.phase s.level c
  pub is_mine : IsInRange s parent
  pub is_parent : IsParent r c s.tier parent
  pub new : Contains (delivered_to s parent) c → ⊥

module _ {r : Rules} {s : ShardState} {statuses : List Status} (shard : IsShard r s statuses) {child : Position} {parent : ℕ}
    (t : NewPair r s child parent) where
  pub subset : (y : Position) → Contains (delivered_to s parent) y → Contains (canonical_children_of r (at s.tier parent)) y
  subset y h = in_children r (at s.tier parent) y ((shard.pairs parent y t.is_mine h).0.1)

  pub fewer : length (delivered_to s parent) + 1 ≤ length (canonical_children_of r (at s.tier parent))
  fewer = shorter _ _ child (shard.once parent t.is_mine) subset (in_children r (at s.tier parent) child t.is_parent.1) t.new

  pub subset_with : (y : Position) → Contains (with_position child (delivered_to s parent)) y → Contains (canonical_children_of r (at s.tier parent)) y
  subset_with y h = ⊎_elim (λ (e : child ≡ y). subst (λ (x : Position). Contains (canonical_children_of r (at s.tier parent)) x) e
      (in_children r (at s.tier parent) child t.is_parent.1)) (λ (o : Contains (delivered_to s parent) y). subset y o)
      (with_cases child y (delivered_to s parent) h)

  pub up_with : AreAscending (with_position child (delivered_to s parent))
  up_with = ascending_with child _ (shard.once parent t.is_mine)

  pub long : length (with_position child (delivered_to s parent)) ≡ length (delivered_to s parent) + 1
  long = length_with child (delivered_to s parent) t.new

  known_after : (next : Status) → StatusIs r (with_pair s child parent) parent next → IsWithinLimit next → (i : ℕ) (x : Status) → IsInRange s i
      → slice_get (set statuses (parent - s.lo) next) (i - s.lo) ≡ Some x
      → StatusIs r (with_pair s child parent) i x × IsWithinLimit x
  known_after next after near i x m got =
      set_cases (λ y. StatusIs r (with_pair s child parent) i y × IsWithinLimit y) statuses (parent - s.lo) next (i - s.lo) x got
      (λ e. (let a = t.is_mine.0 in let b = m.0 in let same : parent ≡ i = omega arith in
      (subst (λ (j : ℕ). StatusIs r (with_pair s child parent) j next) same after, near)))
      (λ ne was. (let k = shard.known i x m was in
      (cases_at s child parent t.is_mine (λ d. HasStatus r (at s.tier i) d x) i m (λ e. absurd (ne (ap (λ (j : ℕ). j - s.lo) e))) (λ _. k.0), k.1)))

  pub shard_after : (next : Status) → StatusIs r (with_pair s child parent) parent next → IsWithinLimit next
      → IsShard r (with_pair s child parent) (set statuses (parent - s.lo) next)
  shard_after next after near = record {
    once = λ (i : ℕ) (m : IsInRange (with_pair s child parent) i). cases_at s child parent t.is_mine AreAscending i (range_is s child parent t.is_mine i m) (λ _. up_with) (λ _. shard.once i (range_is s child parent t.is_mine i m));
    pairs = λ (i : ℕ) (c : Position) (m : IsInRange (with_pair s child parent) i).
        cases_at s child parent t.is_mine (λ d. Contains d c → IsParent r c s.tier i × StandsBefore r s.phase (s.level + 1) c) i (range_is s child parent t.is_mine i m)
        (λ same h. ⊎_elim
        (λ (e : child ≡ c). subst (λ (x : Position). IsParent r x s.tier i × StandsBefore r s.phase (s.level + 1) x) e
        (subst (λ (j : ℕ). IsParent r child s.tier j) (sym same) t.is_parent, now_stands r s.phase s.level child t.stands))
        (λ (o : Contains (delivered_to s parent) c). subst (λ (j : ℕ). IsParent r c s.tier j × StandsBefore r s.phase (s.level + 1) c) (sym same)
        (shard.pairs parent c t.is_mine o))
        (with_cases child c (delivered_to s parent) h))
        (λ _. shard.pairs i c (range_is s child parent t.is_mine i m));
    whole = λ (i : ℕ) (c : Position) (m : IsInRange (with_pair s child parent) i) (p : IsParent r c s.tier i) (b : StandsBefore r s.phase s.level c).
        cases_at s child parent t.is_mine (λ d. Contains d c) i (range_is s child parent t.is_mine i m)
        (λ same. has_old child c (delivered_to s parent) (shard.whole parent c t.is_mine (subst (λ (j : ℕ). IsParent r c s.tier j) same p) b))
        (λ _. shard.whole i c (range_is s child parent t.is_mine i m) p b);
    fits = shard.fits;
    many = length-set statuses (parent - s.lo) next ∙ shard.many ∙ sym (length-set s.delivered (parent - s.lo) (with_position child (delivered_to s parent)));
    known = λ (i : ℕ) (x : Status) (m : IsInRange (with_pair s child parent) i). known_after next after near i x (range_is s child parent t.is_mine i m);
  }

-- a note at the present place, a new pair, and the status that its parent has
pub record Step (r : Rules) (s : ShardState) (statuses : List Status) (note : NoteData) (parent : ℕ) (old : Status) (last : Bool) : Type 0 where
  pub shard : IsShard r s statuses
  pub is_note : IsNote r note.position note.solved
  pub here : IsPairHere r s note parent
  pub new : Contains (delivered_to s parent) note.position → ⊥
  pub before : StatusIs r s parent old
  pub last_is : last ≡ (length (delivered_to s parent) + 1 == length (canonical_children_of r (at s.tier parent)))

module _ {r : Rules} {s : ShardState} {statuses : List Status} {note : NoteData} {parent : ℕ} {old : Status} {last : Bool}
    (t : Step r s statuses note parent old last) where
  pub fresh : NewPair r s note.position parent
  fresh = record { stands = note_stands r s note parent t.is_note t.here; is_mine = t.here.is_mine; is_parent = t.here.is_parent; new = t.new }

  all_there : last ≡ true → AreAll r (at s.tier parent) (In (with_position note.position (delivered_to s parent)))
  all_there e y h = has_all _ _ (up_with t.shard fresh) (subset_with t.shard fresh)
      (long t.shard fresh ∙ (Decides-eqb (length (delivered_to s parent) + 1) (length (canonical_children_of r (at s.tier parent)))).0 (sym t.last_is ∙ e)) y
      (in_children r (at s.tier parent) y h)

  not_all : last ≡ false → AreAll r (at s.tier parent) (In (with_position note.position (delivered_to s parent))) → ⊥
  not_all e all =
      let l : length (canonical_children_of r (at s.tier parent)) ≤ length (with_position note.position (delivered_to s parent)) =
      no_longer _ _ (ascending_set (map r.canonical (children r (at s.tier parent)))) (λ y h. all y (from_children_of r (at s.tier parent) y h)) in
      let f : length (delivered_to s parent) + 1 ≤ length (canonical_children_of r (at s.tier parent)) = fewer t.shard fresh in
      let g = long t.shard fresh in
      let same : length (delivered_to s parent) + 1 ≡ length (canonical_children_of r (at s.tier parent)) = omega arith in
      true≢false (sym ((Decides-eqb (length (delivered_to s parent) + 1) (length (canonical_children_of r (at s.tier parent)))).1 same) ∙ sym t.last_is ∙ e)

  pub status_after : StatusIs r (with_pair s note.position parent) parent (next_status old note.solved last)
  status_after =
      subst (λ (d : List Position). HasStatus r (at s.tier parent) d (next_status old note.solved last)) (sym (same_here s note.position parent t.here.is_mine))
      (after_level note.solved.remoteness t.here.is_level.1 t.is_note.value)
    where
      after_level : (n : ℕ) → n ≡ s.level → HasValue r note.position note.solved.value n
          → HasStatus r (at s.tier parent) (with_position note.position (delivered_to s parent)) (next_status old (solved note.solved.value n) last)
      after_level n e =
          subst (λ (m : ℕ). HasValue r note.position note.solved.value m
          → HasStatus r (at s.tier parent) (with_position note.position (delivered_to s parent)) (next_status old (solved note.solved.value m) last)) (sym e)
          (λ value. after_any r (at s.tier parent) note.position (delivered_to s parent) note.solved.value s.phase s.level last old
          (reached_at r s statuses t.shard parent t.here.is_mine t.here.is_parent.0)
          t.here.is_parent.0 t.here.is_parent.1 fresh.stands value t.is_note.decided all_there not_all t.before)

stays_open : (v : Value) (n : ℕ) (last : Bool) → is_settling Undecided (next_status Undecided (solved v n) last) ≡ false
    → next_status Undecided (solved v n) last ≡ Undecided
stays_open Lose n last e = absurd (true≢false e)
stays_open Draw n last e = refl
stays_open Tie n last e = absurd (true≢false e)
stays_open Win n true e = absurd (true≢false e)
stays_open Win n false e = refl

above_open : (v : Value) (n : ℕ) (last : Bool) → is_settling Undecided (next_status Undecided (solved v n) last) ≡ true
    → (x : Solved) × (next_status Undecided (solved v n) last ≡ Settled x) × (x.remoteness ≡ n + 1) × (phase_of x.value ≡ phase_of v)
above_open Lose n last e = (solved Win (n + 1), refl, refl, refl)
above_open Draw n last e = absurd (true≢false (sym e))
above_open Tie n last e = (solved Tie (n + 1), refl, refl, refl)
above_open Win n true e = (solved Lose (n + 1), refl, refl, refl)
above_open Win n false e = absurd (true≢false (sym e))

-- if no status is settled the status stays
pub stays : (old : Status) (note : Solved) (last : Bool) → is_settling old (next_status old note last) ≡ false → next_status old note last ≡ old
stays Hole note last e = refl
stays (Settled x) note last e = refl
stays Undecided note last e = stays_open note.value note.remoteness last e

-- if one is settled it was open, and has a value one above the note
pub settles_one_above : (old : Status) (note : Solved) (last : Bool) → is_settling old (next_status old note last) ≡ true
    → (old ≡ Undecided) × ((x : Solved) × (next_status old note last ≡ Settled x) × (x.remoteness ≡ note.remoteness + 1)
    × (phase_of x.value ≡ phase_of note.value))
settles_one_above Hole note last e = absurd (true≢false (sym e))
settles_one_above (Settled x) note last e = absurd (true≢false (sym e))
settles_one_above Undecided note last e = (refl, above_open note.value note.remoteness last e)

-- a status whose record is within the limit
near_limit : (x : Status) → ((y : Solved) → x ≡ Settled y → y.remoteness ≤ REMOTENESS) → IsWithinLimit x
near_limit Hole near = tt
near_limit Undecided near = tt
near_limit (Settled y) near = near y refl

-- the same of a state after a pair
pub within_after : (r : Rules) (s : ShardState) (c : Position) (parent : ℕ) (x : Status) → CanDeliver r s c parent
    → StatusIs r (with_pair s c parent) parent x → IsWithinLimit x
within_after r s c parent x can is = near_limit x (λ y e. can.near y (subst (λ (z : Status). StatusIs r (with_pair s c parent) parent z) e is))

pub same_test : (a b c : ℕ) → a + b ≡ c → (a == 1) ≡ (b + 1 == c)
same_test a b c e =
    elim (a == 1) as (λ t. (a == 1) ≡ t → t ≡ (b + 1 == c)) [
      | true ↦ λ h. let f : a ≡ 1 = (Decides-eqb a 1).0 h in sym ((Decides-eqb (b + 1) c).1 (omega arith))
      | false ↦ λ h. sym (false_from_ne_true (b + 1 == c)
          (λ z. true≢false (sym ((Decides-eqb a 1).1 (let f : b + 1 ≡ c = (Decides-eqb (b + 1) c).0 z in omega arith)) ∙ h)))
    ] refl

module _ {r : Rules} {s : ShardState} {statuses : List Status} {note : NoteData} {parent : ℕ} {old : Status} {last : Bool}
    (t : Step r s statuses note parent old last) where
  pub settled_now : is_settling old (next_status old note.solved last) ≡ true → IsSettledNow r s (with_pair s note.position parent) parent
  settled_now e =
      let k = settles_one_above old note.solved last e in
      record {
        was_open = subst (λ (x : Status). StatusIs r s parent x) k.0 t.before;
        value = k.1.0;
        phase = k.1.3 ∙ t.here.is_level.0;
        remoteness = (let q : k.1.0.remoteness ≡ note.solved.remoteness + 1 = k.1.2 in
            let m : note.solved.remoteness ≡ s.level = t.here.is_level.1 in omega arith);
        settled = subst (λ (x : Status). StatusIs r (with_pair s note.position parent) parent x) k.1.1 (status_after t);
      }

  keeps : is_settling old (next_status old note.solved last) ≡ false → KeepsStatus r s (with_pair s note.position parent) parent
  keeps e = record {
    status = old;
    before = t.before;
    after = subst (λ (x : Status). StatusIs r (with_pair s note.position parent) parent x)
        (stays old note.solved last e) (status_after t);
  }

  pub near_settling : is_settling old (next_status old note.solved last) ≡ true → s.level + 1 ≤ REMOTENESS → IsWithinLimit (next_status old note.solved last)
  near_settling e l =
      let k = settles_one_above old note.solved last e in
      let here' = t.here.is_level in
      subst IsWithinLimit (sym k.1.1) (let q : k.1.0.remoteness ≡ note.solved.remoteness + 1 = k.1.2 in let m : note.solved.remoteness ≡ s.level = here'.1 in
      let g : k.1.0.remoteness ≤ REMOTENESS = omega arith in g)

  near_staying : IsGame r → is_settling old (next_status old note.solved last) ≡ false → IsWithinLimit (next_status old note.solved last)
  near_staying g e = subst IsWithinLimit (sym (stays old note.solved last e)) (within_limit g t.shard parent t.here.is_mine old t.before)

  -- the pair can be delivered
  can_deliver : IsGame r → IsWithinLimit (next_status old note.solved last) → CanDeliver r s note.position parent
  can_deliver g near = record {
    stands = (fresh t).stands;
    is_mine = t.here.is_mine;
    is_parent = t.here.is_parent;
    new = t.new;
    near = λ (x : Solved) (h : StatusIs r (with_pair s note.position parent) parent (Settled x)).
        near_of g (shard_after t.shard (fresh t) (next_status old note.solved last) (status_after t) near) parent x (still_mine s note.position parent t.here.is_mine) h
        (next_status old note.solved last) (status_after t) near;
  }

  pub can_settle : IsGame r → is_settling old (next_status old note.solved last) ≡ true → s.level < REMOTENESS → CanDeliver r s note.position parent
  can_settle g e l = can_deliver g (near_settling e (omega arith))

  pub can_stay : IsGame r → is_settling old (next_status old note.solved last) ≡ false → CanDeliver r s note.position parent
  can_stay g e = can_deliver g (near_staying g e)

  pub out_fresh : (v : ShardState) → v ≡ with_pair s note.position parent → is_settling old (next_status old note.solved last) ≡ false
      → Delivers r note parent s v (Ok Fresh)
  out_fresh v w settles = (w, t.here, t.new, subst (λ (v : ShardState). KeepsStatus r s v parent) (sym w) (keeps settles))

  pub out_settled : (v : ShardState) → v ≡ with_pair s note.position parent → is_settling old (next_status old note.solved last) ≡ true
      → s.level < REMOTENESS → Delivers r note parent s v (Ok FreshSettled)
  out_settled v w settles l =
      (w, t.here, t.new, subst (λ (v : ShardState). IsSettledNow r s v parent) (sym w) (settled_now settles), omega (arith, l))

  pub out_far : is_settling old (next_status old note.solved last) ≡ true → REMOTENESS ≤ s.level → Delivers r note parent s s (Err TooFar)
  out_far settles l = (refl, t.here, t.new, settled_now settles, omega (arith, l))

  -- the status of the parent after the pair
  pub next_after : (next : Status) → next ≡ next_status old note.solved last → StatusIs r (with_pair s note.position parent) parent next
  next_after next e = subst (λ (x : Status). StatusIs r (with_pair s note.position parent) parent x) (sym e) (status_after t)

-- the next status and the test, as the code computes them
pub next_is : (old next : Status) (x y : Solved) (last : Bool) → next ≡ next_status old x last → x ≡ y → next ≡ next_status old y last
next_is old next x y last e same = e ∙ ap (λ (z : Solved). next_status old z last) same

pub settling_is : (old next : Status) (note : Solved) (last settles : Bool) {v : Bool} → next ≡ next_status old note last → settles ≡ is_settling old next
    → settles ≡ v → is_settling old (next_status old note last) ≡ v
settling_is old next note last settles e is b = ap (is_settling old) (sym e) ∙ sym is ∙ b

-- a remoteness one above that of a note of the present level fits
pub room_above : {r : Rules} {u s : ShardState} {statuses : List Status} {left : List ℕ} {count : ℕ} {x y : Solved} → IsShardKept r u statuses left count → u ≡
    s
    → x ≡ y → y.remoteness ≡ s.level → x.remoteness + 1 < 2 ^ 32
room_above kept e same level =
    let fits = kept.shard.fits in
    let here = ap (λ (s : ShardState). s.level) e in
    let known = ap (λ (z : Solved). z.remoteness) same in
    omega arith
