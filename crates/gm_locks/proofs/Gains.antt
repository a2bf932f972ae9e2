-- What a delivery answers by where the shard stands, and by how much it raises the number of pairs.
use Rattle.gm_locks.proofs.Lower.{◌≡◌, ℕ, ◌+◌, ◌⊎◌, inl, inr, List, sym, refl, ap, ◌∙◌, arith, Result, Ok, Err, Contains, Position, Rules, NoteData, Delivery, Refused, ShardState, IsInRange, delivered_to, with_pair, pairs_in, Delivers, IsAdded, Spot, spot_of}
use Rattle.std.proofs.Common.{◌↔◌}
use Rattle.gm_game.proofs.SetLemmas.{has_new, has_old, with_cases}
use Rattle.gm_counters.specs.declared.status.Delivery.TheVariants.{Fresh, FreshSettled, Repeat}
use Rattle.gm_counters.specs.Delivery.{IsPairHere}
use Rattle.gm_locks.specs.Spots.{gain}
use Rattle.gm_counters.proofs.AddedLemmas.{count_same, cases_at, pairs_more, outcome}

-- what is delivered with a pair more: what was, and the pair
pub delivered_more : (s : ShardState) (x : NoteData × ℕ) → IsInRange s x.1 → (y : NoteData × ℕ) → IsInRange s y.1
    → Contains (delivered_to (with_pair s x.0.position x.1) y.1) y.0.position
    ↔ (Contains (delivered_to s y.1) y.0.position ⊎ ((y.1 ≡ x.1) × (x.0.position ≡ y.0.position)))
delivered_more s x m y n =
    let c = x.0.position in
    let parent = x.1 in
    let d = y.0.position in
    cases_at s c parent m (λ (ds : List Position). Contains ds d ↔ (Contains (delivered_to s y.1) d ⊎ ((y.1 ≡ parent) × (c ≡ d)))) y.1 n
    (λ e. (
      (λ h. elim (with_cases c d (delivered_to s parent) h) [ inl q ↦ inr (e, q) | inr k ↦ inl (rw e k) ]),
      (λ h. elim h [ inl old ↦ has_old c d (delivered_to s parent) (rw e at old) | inr (_, q) ↦ rw (sym q) (has_new c (delivered_to s parent)) ]),
    ))
    (λ other. ((λ h. inl h), (λ h. elim h [ inl old ↦ old | inr (same, _) ↦ absurd (other same) ])))

-- a delivery keeps the shard's tier, range and place
pub stays : (r : Rules) (note : NoteData) (parent : ℕ) (s t : ShardState) (answer : Result Delivery Refused) → Delivers r note parent s t answer
    → spot_of t ≡ spot_of s
stays r note parent s t answer d = elim (outcome r note parent s t answer d) [
  | inl (_, is, here, _) ↦ ap spot_of is ∙ ap (λ (n : ℕ).
      let x : Spot = record { tier = s.tier; lo = s.lo; hi = s.lo + n; phase = s.phase; level = s.level } in x)
      (count_same s note.position parent here.is_mine)
  | inr (_, is) ↦ ap spot_of is
]

-- the number of pairs rises by the gain: one for a pair that is added
pub gain_is : (answer : Result Delivery Refused) → (IsAdded answer → gain answer ≡ 1) × ((IsAdded answer → ⊥) → gain answer ≡ 0)
gain_is (Err e) = (λ a. absurd a, λ n. refl)
gain_is (Ok Fresh) = (λ a. refl, λ n. absurd (n tt))
gain_is (Ok FreshSettled) = (λ a. refl, λ n. absurd (n tt))
gain_is (Ok Repeat) = (λ a. absurd a, λ n. refl)

pub gained : (r : Rules) (note : NoteData) (parent : ℕ) (s t : ShardState) (answer : Result Delivery Refused) → Delivers r note parent s t answer
    → pairs_in t ≡ pairs_in s + gain answer
gained r note parent s t answer d = elim (outcome r note parent s t answer d) [
  | inl (a, is, here, new) ↦ ap pairs_in is ∙ pairs_more s note.position parent here.is_mine new ∙ ap (λ (n : ℕ). pairs_in s + n) (sym ((gain_is answer).0 a))
  | inr (n, is) ↦ (let same = ap pairs_in is in let none = (gain_is answer).1 n in omega arith)
]

-- a pair that was added
pub added_is : (r : Rules) (x : NoteData × ℕ) (s t : ShardState) (answer : Result Delivery Refused) → Delivers r x.0 x.1 s t answer → IsAdded answer
    → (t ≡ with_pair s x.0.position x.1) × IsPairHere r s x.0 x.1
added_is r x s t (Err e) d a = absurd a
added_is r x s t (Ok Fresh) d a = (d.0, d.1)
added_is r x s t (Ok FreshSettled) d a = (d.0, d.1)
added_is r x s t (Ok Repeat) d a = absurd a

-- what is not refused, and was not there, is added
pub ok_added : (r : Rules) (x : NoteData × ℕ) (s t : ShardState) (answer : Delivery) → (Contains (delivered_to s x.1) x.0.position → ⊥)
    → Delivers r x.0 x.1 s t (Ok answer) → IsAdded (Ok answer)
ok_added r x s t Fresh new d = tt
ok_added r x s t FreshSettled new d = tt
ok_added r x s t Repeat new d = absurd (new d.2)
