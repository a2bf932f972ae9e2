-- The masks of a shard mark which children are delivered, before and after a delivery.
use Rattle.gm_shard.proofs.Lower.{◌≡◌, ℕ, ◌+◌, ◌-◌, ◌<◌, ◌↔◌, inl, inr, List, [], length, get_or, ap, sym, subst, ◌∙◌, arith, Result, Some, Contains, set, Position, Rules, IsPlaceOf, ShardState, IsInRange, delivered_to, refl, Ok, IsPairHere}
use Rattle.std.proofs.Common.{◌≢◌, ⊎_elim, map, replicate}
use Rattle.std.specs.List.{slice_get}
use Rattle.std.proofs.lemmas.List.{get_or_read}
use Rattle.std.specs.Int.{bit_at}
use Rattle.gm_game.specs.Rules.{at, children}
use Rattle.gm_game.specs.Children.{with_position, canonical_children_of}
use Rattle.gm_game.specs.inner.Masks.{picked}
use Rattle.gm_game.proofs.SetLemmas.{ascending_set}
use Rattle.gm_game.proofs.MaskLemmas.{bit_cases, picked_has, picked_lacks, picked_with, at_place}
use Rattle.gm_frontier.specs.Notes.{NoteData}
use Rattle.gm_counters.specs.declared.status.Delivery.{Delivery}
use Rattle.gm_counters.specs.declared.status.Refused.{Refused}
use Rattle.gm_counters.specs.inner.Begin.{first_state}
use Rattle.gm_counters.specs.Delivery.{IsAdded, Delivers, IsThisLevel}
use Rattle.gm_counters.specs.State.{with_pair}
use Rattle.gm_shard.specs.inner.Masks.{children_of_masks}
use Rattle.gm_counters.specs.declared.status.Delivery.TheVariants.{Repeat}
use Rattle.gm_counters.proofs.AddedLemmas.{outcome}
use Rattle.gm_shard.proofs.MaskList.{length-masks, masks_at, masks_set, masks_none, zero_plus}
use Rattle.gm_counters.proofs.StepLemmas.{from_children_of}

-- the masks mark what is delivered
abbrev pub Tells : Rules → ShardState → List ℕ → Type 0
Tells r s masks = s.delivered ≡ children_of_masks r s.tier s.lo masks

pub tells_none : (r : Rules) (tier lo n : ℕ) (s : ShardState) (masks : List ℕ) → s ≡ first_state tier lo n → masks ≡ replicate n 0 → Tells r s masks
tells_none r tier lo n s masks e m = subst (λ (u : ShardState). Tells r u masks) (sym e)
    (subst (λ (ms : List ℕ). Tells r (first_state tier lo n) ms) (sym m) (sym (masks_none r tier lo n)))

pub in_told : (r : Rules) (s : ShardState) (masks : List ℕ) (parent : ℕ) → Tells r s masks → IsInRange s parent → parent - s.lo < length masks
in_told r s masks parent e m =
    let n = length-masks r s.tier s.lo masks in let l = ap (λ (ds : List (List Position)). length ds) e in let a = m.0 in let b = m.1 in omega arith

-- what is delivered to an index, by its mask
told_at : (r : Rules) (s : ShardState) (masks : List ℕ) (parent : ℕ) → Tells r s masks → IsInRange s parent
    → delivered_to s parent ≡ picked (canonical_children_of r (at s.tier parent)) (get_or masks (parent - s.lo) 0)
told_at r s masks parent e m =
    let back : s.lo + (parent - s.lo) ≡ parent = (let a = m.0 in omega arith) in
    ap (λ (ds : List (List Position)). get_or ds (parent - s.lo) []) e
    ∙ masks_at r s.tier s.lo masks (parent - s.lo) (in_told r s masks parent e m)
    ∙ ap (λ (i : ℕ). picked (canonical_children_of r (at s.tier i)) (get_or masks (parent - s.lo) 0)) back

-- a bit of the mask marks whether the child at its place is delivered
bit_says : (r : Rules) (s : ShardState) (masks : List ℕ) (c : Position) (parent k : ℕ) → Tells r s masks → IsInRange s parent
    → slice_get (canonical_children_of r (at s.tier parent)) k ≡ Some c
    → (bit_at (get_or masks (parent - s.lo) 0) k ≡ 1) ↔ Contains (delivered_to s parent) c
bit_says r s masks c parent k e m place =
    let is = told_at r s masks parent e m in
    let all = canonical_children_of r (at s.tier parent) in
    let mask = get_or masks (parent - s.lo) 0 in
    let zk = zero_plus k in (
      λ set'. subst (λ (xs : List Position). Contains xs c) (sym is)
          (picked_has 0 k all mask c place (subst (λ (i : ℕ). bit_at mask i ≡ 1) (sym zk) set')),
      λ there. ⊎_elim (λ (set' : bit_at mask k ≡ 1). set')
          (λ (clear : bit_at mask k ≢ 1). absurd (picked_lacks 0 k all mask c (ascending_set (map r.canonical (children r (at s.tier parent)))) place
          (λ z. clear (subst (λ (i : ℕ). bit_at mask i ≡ 1) zk z)) (subst (λ (xs : List Position). Contains xs c) is there)))
          (bit_cases mask k),
    )

-- the same, as the bit is read
pub pair_is : (r : Rules) (s : ShardState) (masks : List ℕ) (c : Position) (parent k mask : ℕ) → Tells r s masks → IsInRange s parent
    → IsPlaceOf r c s.tier parent (Some k) → mask ≡ get_or masks (parent - s.lo) mask → (B : Type 0) → (B ↔ (bit_at mask k ≡ 1))
    → B ↔ Contains (delivered_to s parent) c
pair_is r s masks c parent k mask e m place read B says =
    let is : mask ≡ get_or masks (parent - s.lo) 0 = get_or_read masks (parent - s.lo) mask (in_told r s masks parent e m) read 0 in
    let bit = bit_says r s masks c parent k e m place.1 in (
      λ b. bit.0 (subst (λ (n : ℕ). bit_at n k ≡ 1) is (says.0 b)),
      λ there. says.1 (subst (λ (n : ℕ). bit_at n k ≡ 1) (sym is) (bit.1 there)),
    )

-- a delivery that added its pair
pub added_is : (r : Rules) (note : NoteData) (parent : ℕ) (s t : ShardState) (answer : Result Delivery Refused) → Delivers r note parent s t answer →
    IsAdded answer → (t ≡ with_pair s note.position parent) × (Contains (delivered_to s parent) note.position → ⊥)
added_is r note parent s t answer d a = elim (outcome r note parent s t answer d) [ inl (_, is, here, new) ↦ (is, new) | inr (none, same) ↦ absurd (none a) ]

-- with one bit more the masks tell the state with one pair more
pub tells_more : (r : Rules) (s t : ShardState) (masks : List ℕ) (c : Position) (parent k m mask : ℕ) → Tells r s masks → IsInRange s parent →
    IsPlaceOf r c s.tier parent (Some k) → (Contains (delivered_to s parent) c → ⊥) → t ≡ with_pair s c parent → mask ≡ get_or masks (parent - s.lo) mask →
    bit_at m k ≡ 1 → ((j : ℕ) → j ≢ k → bit_at m j ≡ bit_at mask j) → Tells r t (set masks (parent - s.lo) m)
tells_more r s t masks c parent k m mask tells range place new is read same other =
    subst (λ (u : ShardState). Tells r u (set masks (parent - s.lo) m)) (sym is)
    (ap (λ (xs : List Position). set s.delivered (parent - s.lo) xs) (sym more)
    ∙ ap (λ (ds : List (List Position)). set ds (parent - s.lo) (picked all m)) tells
    ∙ ap (λ (i : ℕ). set (children_of_masks r s.tier s.lo masks) (parent - s.lo) (picked (canonical_children_of r (at s.tier i)) m)) (sym back)
    ∙ sym (masks_set r s.tier s.lo masks (parent - s.lo) m high))
  where
    high : parent - s.lo < length masks
    high = in_told r s masks parent tells range

    back : s.lo + (parent - s.lo) ≡ parent
    back = let a = range.0 in omega arith

    all : List Position
    all = canonical_children_of r (at s.tier parent)

    old : ℕ
    old = get_or masks (parent - s.lo) 0

    is_old : mask ≡ old
    is_old = get_or_read masks (parent - s.lo) mask high read 0

    more : picked all m ≡ with_position c (delivered_to s parent)
    more =
        let zk = zero_plus k in
        picked_with 0 k all old m c (ascending_set (map r.canonical (children r (at s.tier parent)))) place.1
        (λ z. new ((bit_says r s masks c parent k tells range place.1).0 (subst (λ (i : ℕ). bit_at old i ≡ 1) zk z)))
        (subst (λ (i : ℕ). bit_at m i ≡ 1) (sym zk) same)
        (λ j ne. other j (λ z. ne (z ∙ sym zk)) ∙ ap (λ (n : ℕ). bit_at n j) is_old)
        ∙ ap (λ (xs : List Position). with_position c xs) (sym (told_at r s masks parent tells range))

-- a pair of the range, where the child has a place
pub pair_here : (r : Rules) (s : ShardState) (note : NoteData) (parent k : ℕ) → IsThisLevel s note → IsInRange s parent
    → IsPlaceOf r note.position s.tier parent (Some k) → IsPairHere r s note parent
pair_here r s note parent k level mine place = record {
  is_level = level;
  is_mine = mine;
  is_parent = (place.0, from_children_of r (at s.tier parent) note.position (at_place (canonical_children_of r (at s.tier parent)) k note.position place.1));
}

-- a pair that is there
pub out_repeat : (r : Rules) (s : ShardState) (note : NoteData) (parent k : ℕ) → IsThisLevel s note → IsInRange s parent
    → IsPlaceOf r note.position s.tier parent (Some k) → Contains (delivered_to s parent) note.position
    → Delivers r note parent s s (Ok Repeat)
out_repeat r s note parent k level mine place there = (refl, pair_here r s note parent k level mine place, there)
