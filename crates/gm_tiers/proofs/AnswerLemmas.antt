-- What a search answers, step by step.
use Rattle.gm_tiers.proofs.Lower.{◌≡◌, ℕ, suc, ◌-◌, ◌<◌, ◌≤◌, List, [], ◌∷◌, length, take, get_or, Ok, refl, ap, sym, subst, ◌∙◌, arith, cases_lt, Contains, ⊎_elim, ◌⊎◌, contains_none, TooManyTiers, TierTooLarge, AreWithin, AreFound, HasTooMany, TIERS, Rules, comes_to_all, goes_through}
use Rattle.std.proofs.Common.{zero, ◌+◌, inl, inr, ◌++◌, drop, slice_get, None, Some, Err}
use Rattle.std.proofs.lemmas.List.{take_all, take_more, take-append-drop}
use Rattle.std.proofs.lemmas.Option.{slice_get_past, slice_get-get_or}
use Rattle.gm_tiers.specs.Reach.{IsClosed}
use Rattle.gm_tiers.specs.Limits.{IsTooLarge}
use Rattle.gm_tiers.specs.declared.tier_error.TierError.{TierError}
use Rattle.gm_tiers.specs.Search.{Search, comes_to, comes_to_children, search_of, EndsWith}
use Rattle.gm_tiers.proofs.SearchLemmas.{grown_has, grown_itself, closed_more, at_there, found_all}
use Rattle.gm_tiers.proofs.StepLemmas.{Fails, Comes, comes_step, comes_all}

-- a search that has ended stays so
ended_all : (r : Rules) (e : TierError) (ts : List ℕ) → comes_to_all r (Err e) ts ≡ Err e
ended_all r e [] = refl
ended_all r e (t ∷ ts) = ended_all r e ts

ended_through : (r : Rules) (e : TierError) (n k : ℕ) → goes_through r n k (Err e) ≡ Err e
ended_through r e zero k = refl
ended_through r e (suc n) k = ended_through r e n (suc k)

-- first to some, then to the others
all_append : (r : Rules) (s : Search) (ts us : List ℕ) → comes_to_all r s (ts ++ us) ≡ comes_to_all r (comes_to_all r s ts) us
all_append r s [] us = refl
all_append r s (t ∷ ts) us = all_append r (comes_to r s t) ts us

-- to one more
pub one_more_comes : (r : Rules) (s now : Search) (ts : List ℕ) (i : ℕ) → i < length ts → comes_to_all r s (take i ts) ≡ now → comes_to_all r s
    (take (i + 1) ts) ≡ comes_to r now (get_or ts i 0)
one_more_comes r s now ts i h e =
    ap (comes_to_all r s) (take_more ts i 0 h) ∙ all_append r s (take i ts) (get_or ts i 0 ∷ []) ∙ ap (λ u. comes_to r u (get_or ts i 0)) e

-- if it ends among some, it ends among all
ends_among : (r : Rules) (s : Search) (e : TierError) (ts : List ℕ) (n : ℕ) → comes_to_all r s (take n ts) ≡ Err e → comes_to_all r s ts ≡ Err e
ends_among r s e ts n h =
    ap (comes_to_all r s) (sym (take-append-drop n ts)) ∙ all_append r s (take n ts) (drop n ts) ∙ ap (λ u. comes_to_all r u (drop n ts)) h ∙ ended_all r e
    (drop n ts)

pub ends_here : (r : Rules) (s now : Search) (e : TierError) (ts us : List ℕ) (i : ℕ) → ts ≡ us → i < length ts → comes_to_all r s (take i ts) ≡ now
    → EndsWith (comes_to r now (get_or ts i 0)) e → EndsWith (comes_to_all r s us) e
ends_here r s now e ts us i same h before (inl o) = inl o
ends_here r s now e ts us i same h before (inr last) = inr (ap (comes_to_all r s) (sym same) ∙ ends_among r s e ts (i + 1)
    (one_more_comes r s now ts i h before ∙ last))

-- past the last place nothing comes
pub past_all : (r : Rules) (found : List ℕ) (n k : ℕ) → length found ≤ k → goes_through r n k (Ok found) ≡ Ok found
past_all r found zero k h = refl
past_all r found (suc n) k h =
    let at : comes_to_children r k (Ok found) ≡ Ok found = ap (λ o. elim o [ None ↦ Ok found | Some t ↦ comes_to_all r (Ok found) (r.child_tiers t) ])
    (slice_get_past found k h) in
    ap (goes_through r n (suc k)) at ∙ past_all r found n (suc k) (omega arith)

-- the child tiers of the tier at a place
at_place : (r : Rules) (found : List ℕ) (k t : ℕ) → slice_get found k ≡ Some t → comes_to_children r k (Ok found) ≡ comes_to_all r (Ok found) (r.child_tiers t)
at_place r found k t e = ap (λ o. elim o [ None ↦ Ok found | Some u ↦ comes_to_all r (Ok found) (r.child_tiers u) ]) e

-- one place of those that are left
one_place : (r : Rules) (n k : ℕ) (s : Search) → k < n → goes_through r (n - k) k s ≡ goes_through r (n - (k + 1)) (k + 1) (comes_to_children r k s)
one_place r n k s h =
    let left : n - k ≡ suc (n - (k + 1)) = omega arith in
    let next : suc k ≡ k + 1 = omega arith in
    ap (λ m. goes_through r m k s) left ∙ ap (λ j. goes_through r (n - (k + 1)) j (comes_to_children r k s)) next

-- a search that has gone on to a place, and on to the child tiers of the tier there
pub place_more : (r : Rules) (first : ℕ) (n k t : ℕ) (found new : List ℕ) → k < n → search_of r first ≡ goes_through r (n - k) k (Ok found) → slice_get
    found k ≡ Some t
    → comes_to_all r (Ok found) (r.child_tiers t) ≡ Ok new → search_of r first ≡ goes_through r (n - (k + 1)) (k + 1) (Ok new)
place_more r first n k t found new h before at e =
    before ∙ one_place r n k (Ok found) h ∙ ap (goes_through r (n - (k + 1)) (k + 1)) (at_place r found k t at ∙ e)

pub place_ends : (r : Rules) (first : ℕ) (n k t : ℕ) (found : List ℕ) (e : TierError) → k < n → search_of r first ≡ goes_through r (n - k) k (Ok found) →
    slice_get found k ≡ Some t
    → EndsWith (comes_to_all r (Ok found) (r.child_tiers t)) e → EndsWith (search_of r first) e
place_ends r first n k t found e h before at (inl o) = inl o
place_ends r first n k t found e h before at (inr s) =
    inr (before ∙ one_place r n k (Ok found) h ∙ ap (goes_through r (n - (k + 1)) (k + 1)) (at_place r found k t at ∙ s) ∙ ended_through r e (n - (k + 1))
    (k + 1))

-- the search before a place: what it has found, with the child tiers of all before the place, or why it has ended
abbrev Goes : Rules → ℕ → ℕ → Search → Type 0
Goes r first k (Ok found) = AreWithin r first found × Contains found first × IsClosed r k found
Goes r first k (Err e) = Fails r first e

goes_on : (r : Rules) (first k t : ℕ) (found : List ℕ) (s : Search) → Contains found first → IsClosed r k found → slice_get found k ≡ Some t →
    Comes r first found (λ u. ⊥ ⊎ Contains (r.child_tiers t) u) s → Goes r first (k + 1) s
goes_on r first k t found (Ok new) initial closed at (within, grown, all) =
    (within, grown_has found new first grown initial, closed_more r found new k t closed grown at (λ u n. all u (inr n)))
goes_on r first k t found (Err e) initial closed at c = c

goes_place : (r : Rules) (first k : ℕ) (s : Search) → Goes r first k s → Goes r first (k + 1) (comes_to_children r k s)
goes_place r first k (Err e) c = c
goes_place r first k (Ok found) (within, initial, closed) = ⊎_elim
    (λ (inside : k < length found).
    let t = get_or found k 0 in
    let at : slice_get found k ≡ Some t = slice_get-get_or found k 0 inside in
    subst (Goes r first (k + 1)) (sym (at_place r found k t at))
    (goes_on r first k t found (comes_to_all r (Ok found) (r.child_tiers t)) initial closed at
    (comes_all r first t found (λ _. ⊥) (Ok found) (r.child_tiers t) (at_there found k t at) (λ u n. n) (within, grown_itself found, λ u. absurd))))
    (λ (past : length found ≤ k). subst (Goes r first (k + 1)) (sym (past_all r found 1 k past))
    (within, initial, λ u child has is. closed u child (subst (λ l. Contains l u) (take_all (k + 1) found (omega arith) ∙ sym (take_all k found past)) has) is))
    (cases_lt k (length found))

goes_far : (r : Rules) (first n k m : ℕ) (s : Search) → k + n ≡ m → Goes r first k s → Goes r first m (goes_through r n k s)
goes_far r first zero k m s e h = subst (λ i. Goes r first i s) (let same : k ≡ m = omega arith in same) h
goes_far r first (suc n) k m s e h = goes_far r first n (suc k) m (comes_to_children r k s) (omega arith)
    (subst (λ i. Goes r first i (comes_to_children r k s)) (let same : k + 1 ≡ suc k = omega arith in same) (goes_place r first k s h))

-- what a search finds, and why it ends, is so
searched : (r : Rules) (first : ℕ) → Goes r first TIERS (search_of r first)
searched r first = goes_far r first TIERS 0 TIERS (comes_to r (Ok []) first) refl (begun (comes_to r (Ok []) first) (comes_step r first [] first record {
  search = tt;
  small = λ t has. absurd (contains_none t has);
  few = omega arith;
} refl))
  where
    begun : (s : Search) → Comes r first [] (λ u. first ≡ u) s → Goes r first 0 s
    begun (Ok new) (within, grown, has) = (within, has first refl, λ t child none. absurd (contains_none t none))
    begun (Err e) c = c

pub found_is : (r : Rules) (first : ℕ) (found : List ℕ) → search_of r first ≡ Ok found → AreFound r first found
found_is r first found e =
    let (within, initial, closed) = subst (Goes r first TIERS) e (searched r first) in found_all r first found TIERS within initial closed within.few

pub many_is : (r : Rules) (first : ℕ) → EndsWith (search_of r first) TooManyTiers → HasTooMany r first
many_is r first (inl o) = absurd (cc)
many_is r first (inr e) = subst (Goes r first TIERS) e (searched r first)

pub large_is : (r : Rules) (first tier : ℕ) → EndsWith (search_of r first) (TierTooLarge tier) → IsTooLarge r first tier
large_is r first tier (inl o) = absurd (cc)
large_is r first tier (inr e) = subst (Goes r first TIERS) e (searched r first)
