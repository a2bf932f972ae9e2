-- Events, and what they leave.
use Rattle.gm_shard.proofs.Lower.{◌≡◌, ℕ, ◌+◌, ◌<◌, ◌≤◌, inl, inr, List, [], Some, Result, Ok, get_or, drop, length, refl, sym, ap, subst, ◌∙◌, arith, ◌↔◌, Contains, Rules, ShardState, IsInRange, delivered_to, IsGood, IsPairHere}
use Rattle.std.proofs.Common.{◌∷◌, suc, Err, Bool, true, false, MatchBool, slice_set, IsTrue, slice_get}
use Rattle.std.proofs.Math.Seq.{drop-cons}
use Rattle.std.proofs.lemmas.Option.{slice_get-get_or, slice_get_within, get_or_from_slice_get, same_Some}
use Rattle.std.proofs.lemmas.List.{set-get_or, drop_all}
use Rattle.std.proofs.lemmas.Bool.{cases_lt}
use Rattle.gm_frontier.specs.Notes.{NoteData, IsNote}
use Rattle.gm_shard.specs.declared.event.Event.{Event}
use Rattle.gm_counters.specs.declared.status.Status.TheVariants.{Settled}
use Rattle.gm_counters.specs.declared.status.Delivery.{Delivery}
use Rattle.gm_counters.specs.declared.status.Delivery.TheVariants.{Fresh, FreshSettled, Repeat}
use Rattle.gm_counters.specs.declared.status.Refused.{Refused}
use Rattle.gm_counters.specs.declared.status.Refused.TheVariants.{NotThisLevel, NotMine, NotAParent, TooFar}
use Rattle.gm_counters.specs.State.{with_pair}
use Rattle.gm_counters.specs.Status.{StatusIs}
use Rattle.gm_counters.specs.Delivery.{IsAdded, Delivers}
use Rattle.gm_counters.specs.Steps.{CanDeliver}
use Rattle.gm_shard.specs.Runs.{shard_of, Takes, Changes, Runs}
use Rattle.gm_counters.proofs.AddedLemmas.{note_stands, still_mine, outcome}
use Rattle.gm_counters.proofs.FreshLemmas.{place_is}

-- a note that passes the first three tests, whose pair is new and leaves a good shard
can_deliver : (r : Rules) (note : NoteData) (parent : ℕ) (s t : ShardState) → IsNote r note.position note.solved → IsGood r t → IsInRange t parent
    → t ≡ with_pair s note.position parent → IsPairHere r s note parent → (Contains (delivered_to s parent) note.position → ⊥)
    → CanDeliver r s note.position parent
can_deliver r note parent s t true_note good mine is here new = record {
  stands = note_stands r s note parent true_note here;
  is_mine = here.is_mine;
  is_parent = here.is_parent;
  new = new;
  near = λ x h. (good.settled_is_true parent x mine (subst (λ (u : ShardState). StatusIs r u parent (Settled x)) (sym is) h)).1;
}

-- a delivery that added its pair could be made
pub added_can : (r : Rules) (note : NoteData) (parent : ℕ) (s t : ShardState) → IsNote r note.position note.solved → IsGood r t
    → (answer : Result Delivery Refused) → IsAdded answer → Delivers r note parent s t answer → CanDeliver r s note.position parent
    × (t ≡ with_pair s note.position parent)
added_can r note parent s t n g answer a d = elim (outcome r note parent s t answer d) [
  | inl (_, is, here, new) ↦ (
    can_deliver r note parent s t n g (subst (λ (u : ShardState). IsInRange u parent) (sym is) (still_mine s note.position parent here.is_mine)) is here new,
    is,
  )
  | inr (none, same) ↦ absurd (none a)
]

-- a delivery that added nothing could not
pub refused_cannot : (r : Rules) (note : NoteData) (parent : ℕ) (s t : ShardState) → IsNote r note.position note.solved
    → (answer : Result Delivery Refused) → (IsAdded answer → ⊥) → Delivers r note parent s t answer → (t ≡ s) × (CanDeliver r s note.position parent → ⊥)
refused_cannot r note parent s t n (Ok Fresh) a d = absurd (a tt)
refused_cannot r note parent s t n (Ok FreshSettled) a d = absurd (a tt)
refused_cannot r note parent s t n (Ok Repeat) a (is, here, held) = (is, λ c. c.new held)
refused_cannot r note parent s t n (Err NotThisLevel) a (is, other) =
    (is, λ c. other (place_is r note.position note.solved s.phase s.level n.value n.decided c.stands))
refused_cannot r note parent s t n (Err NotMine) a (is, level, other) = (is, λ c. other c.is_mine)
refused_cannot r note parent s t n (Err NotAParent) a (is, level, mine, other) = (is, λ c. other c.is_parent)
refused_cannot r note parent s t n (Err TooFar) a (is, here, new, now, far) =
    (is, λ c. (let near = c.near now.value now.settled in let e = now.remoteness in omega arith))

-- what an event makes of the shard that it names, it makes of the list
pub applied : {G : Type 0} → (r : Rules) (e : Event G) (ss : List ShardState) (k : ℕ) (s t : ShardState) (b : Bool) → slice_get ss k ≡ Some s → shard_of e ≡ k
    → MatchBool b (Takes r e s t) ((t ≡ s) × ((u : ShardState) → Takes r e s u → ⊥))
    → MatchBool b (Changes r e ss (slice_set ss k t)) ((slice_set ss k t ≡ ss) × ((mid : List ShardState) → Changes r e ss mid → ⊥))
applied r e ss k s t true get is h = (s, t, subst (λ (i : ℕ). slice_get ss i ≡ Some s) (sym is) get, h, ap (λ (i : ℕ). slice_set ss i t) (sym is))
applied r e ss k s t false get is (same, none) = (
  ap (λ (x : ShardState). slice_set ss k x) (same ∙ sym (get_or_from_slice_get ss k s s get)) ∙ set-get_or ss k s,
  λ mid (s2, t2, get2, takes, us). none t2
      (subst (λ (x : ShardState). Takes r e x t2) (same_Some s2 s (sym get2 ∙ ap (λ (i : ℕ). slice_get ss i) is ∙ get)) takes),
)

-- an event that names no shard
pub not_applied : {G : Type 0} → (r : Rules) (e : Event G) (ss : List ShardState) → (shard_of e < length ss → ⊥) → (mid : List ShardState)
    → Changes r e ss mid → ⊥
not_applied r e ss out mid (s, t, get, takes, us) = out (slice_get_within ss (shard_of e) s get)

-- whatever the rest of the events does from us on, all of them do from ss on
abbrev pub Leads : {G : Type 0} → Rules → List ShardState → List (Event G) → List ShardState → List (Event G) → ℕ → Type 0
Leads r ss es us rest n = (vs : List ShardState) (m : ℕ) → Runs r us rest vs m → Runs r ss es vs (n + m)

-- the events from one on
rest_of : {G : Type 0} → (es : List (Event G)) (i : ℕ) (e : Event G) → i < length es → e ≡ get_or es i e → drop i es ≡ e ∷ drop (i + 1) es
rest_of es i e l is =
    let next : suc i ≡ i + 1 = omega arith in
    drop-cons es i e l ∙ ap (λ x. x ∷ drop (suc i) es) (sym is) ∙ ap (λ (j : ℕ). e ∷ drop j es) next

pub leads_changed : {G : Type 0} → (r : Rules) (ss : List ShardState) (es : List (Event G)) (us mid : List ShardState) (i : ℕ) (e : Event G) (n : ℕ)
    → i < length es → e ≡ get_or es i e
    → Leads r ss es us (drop i es) n → Changes r e us mid → Leads r ss es mid (drop (i + 1) es) (n + 1)
leads_changed r ss es us mid i e n l is h c vs m x = subst (λ (j : ℕ). Runs r ss es vs j) (omega arith)
    (h vs (suc m) (subst (λ rest. Runs r us rest vs (suc m)) (sym (rest_of es i e l is)) (inl (mid, m, c, x, refl))))

pub leads_skipped : {G : Type 0} → (r : Rules) (ss : List ShardState) (es : List (Event G)) (us mid : List ShardState) (i : ℕ) (e : Event G) (n : ℕ)
    → i < length es → e ≡ get_or es i e
    → Leads r ss es us (drop i es) n → ((mid ≡ us) × ((other : List ShardState) → Changes r e us other → ⊥)) → Leads r ss es mid (drop (i + 1) es) n
leads_skipped r ss es us mid i e n l is h (same, none) vs m x =
    h vs m (subst (λ rest. Runs r us rest vs m) (sym (rest_of es i e l is))
    (inr (none, subst (λ (ws : List ShardState). Runs r ws (drop (i + 1) es) vs m) same x)))

pub leads_end : {G : Type 0} → (r : Rules) (ss : List ShardState) (es : List (Event G)) (us : List ShardState) (n : ℕ)
    → Leads r ss es us [] n → Runs r ss es us n
leads_end r ss es us n h = subst (λ (j : ℕ). Runs r ss es us j) (omega arith) (h us 0 (refl, refl))

-- what the answer of a delivery says of whether it could be made
pub note_taken : (r : Rules) (note : NoteData) (parent : ℕ) (s t : ShardState) → IsNote r note.position note.solved → IsGood r t
    → (answer : Result Delivery Refused) → Delivers r note parent s t answer → (b : Bool) → (IsTrue b ↔ IsAdded answer)
    → MatchBool b (CanDeliver r s note.position parent × (t ≡ with_pair s note.position parent)) ((t ≡ s) × (CanDeliver r s note.position parent → ⊥))
note_taken r note parent s t n good answer d true a = added_can r note parent s t n good answer (a.0 refl) d
note_taken r note parent s t n good answer d false a = refused_cannot r note parent s t n answer (λ h. (let z : false ≡ true = a.1 h in cc)) d

-- all events have been taken
pub all_events : {G : Type 0} → (r : Rules) (ss : List ShardState) (es : List (Event G)) (us : List ShardState) (i n : ℕ) → length es ≤ i
    → Leads r ss es us (drop i es) n → Runs r ss es us n
all_events r ss es us i n l h = leads_end r ss es us n (subst (λ rest. Leads r ss es us rest n) (drop_all i es l) h)

-- one good shard more
pub one_more_good : (r : Rules) (ss : List ShardState) (i : ℕ) (s : ShardState) → i < length ss → s ≡ get_or ss i s → IsGood r s
    → ((k : ℕ) (d : ShardState) → k < i → IsGood r (get_or ss k d)) → (k : ℕ) (d : ShardState) → k < i + 1 → IsGood r (get_or ss k d)
one_more_good r ss i s l is good old k d m = elim (cases_lt k i) [
  | inl b ↦ old k d b
  | inr n ↦ (
      let end : i ≡ k = omega arith in
      let same : s ≡ get_or ss i d = is ∙ same_Some (get_or ss i s) (get_or ss i d) (sym (slice_get-get_or ss i s l) ∙ slice_get-get_or ss i d l) in
      subst (λ (j : ℕ). IsGood r (get_or ss j d)) end (subst (IsGood r) same good))
]
