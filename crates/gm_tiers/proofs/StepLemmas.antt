-- What one step of a search answers, and that what it has found, or why it has ended, is so.
use Rattle.gm_tiers.proofs.Lower.{◌≡◌, ℕ, suc, ◌<◌, ◌≤◌, ◌⊎◌, ⊎_elim, false, List, [], ◌∷◌, length, Ok, refl, ap, sym, subst, ◌∙◌, arith, Contains, cases_lt, TIERS, Rules, contains_none, TooManyTiers, TierTooLarge, comes_to_all, AreWithin, HasTooMany}
use Rattle.std.proofs.Common.{inl, inr, true, nat_eq, Result, Err}
use Rattle.std.specs.List.{list_any}
use Rattle.std.specs.Result.{IsErrAnd, IsErrOf}
use Rattle.std.proofs.lemmas.Result.{err_from_is_err_and}
use Rattle.std.proofs.lemmas.Bool.{cases_Bool, lt-ltb, le-ltb, le-leb, lt-leb}
use Rattle.std.proofs.lemmas.List.Elements.{Contains-append_right}
use Rattle.gm_game.specs.declared.limits.TheConstants.{TIER_SIZE}
use Rattle.gm_game.proofs.Lists.{contains_first, contains_cases}
use Rattle.gm_tiers.specs.declared.tier_error.TierError.{TierError}
use Rattle.gm_tiers.specs.declared.tier_error.TierError.TheVariants.{OutOfMemory}
use Rattle.gm_tiers.specs.Reach.{IsNext, IsGrown}
use Rattle.gm_tiers.specs.Search.{Search, comes_to, Answers, EndsWith}
use Rattle.gm_tiers.specs.Limits.{IsFoundNext, IsTooLarge}
use Rattle.gm_tiers.proofs.SearchLemmas.{there, not_there, one_more, next_child, grown_itself, grown_again, grown_has}

-- what the exit of a `?` returns is refused as what it had
pub passed_on : {T U : Type 0} (r : Result T TierError) (m : Result U TierError) (e : TierError) (s t : Search) (f : T → List ℕ) (h : U → List ℕ) →
    IsErrAnd r (λ y. y ≡ e) → m ≡ Err e → Answers m s h → (EndsWith s e → EndsWith t e) → Answers r t f
passed_on r m e s t f h err was ans more =
    let (y, is, same) = err_from_is_err_and r err in subst (λ q. Answers q t f) (sym (is ∙ ap Err same)) (more (subst (λ q. Answers q s h) was ans))

pub ends_as : {T : Type 0} (r : Result T TierError) (s : Search) (f : T → List ℕ) (e : TierError) → Answers r s f → IsErrOf r e → EndsWith s e
ends_as r s f e ans is = subst (λ q. Answers q s f) is ans

-- why a search has ended
abbrev pub Fails : Rules → ℕ → TierError → Type 0
Fails r first OutOfMemory = ⊥
Fails r first TooManyTiers = HasTooMany r first
Fails r first (TierTooLarge t) = IsTooLarge r first t

-- a search that had found the tiers of the base has found more, and all that is wanted, or has ended
abbrev pub Comes : Rules → ℕ → List ℕ → (ℕ → Type 0) → Search → Type 0
Comes r first base D (Ok new) = AreWithin r first new × IsGrown base new × ((u : ℕ) → D u → Contains new u)
Comes r first base D (Err e) = Fails r first e

pub comes_step : (r : Rules) (first : ℕ) (found : List ℕ) (t : ℕ) → AreWithin r first found → IsNext r first found t →
    Comes r first found (λ u. t ≡ u) (comes_to r (Ok found) t)
comes_step r first found t within next = ⊎_elim (λ (h : list_any (nat_eq t) found ≡ true).
    rw h (within, grown_itself found, λ u e. subst (Contains found) e (there found t h)))
    (λ (h : list_any (nat_eq t) found ≡ false).
    let is : IsFoundNext r first found t = record { within = within; next = next; fresh = not_there found t h } in
    ⊎_elim (λ (l : TIER_SIZE < r.tier_size t). rw (h, lt-ltb TIER_SIZE (r.tier_size t) l) (l, found, is))
    (λ (l : r.tier_size t ≤ TIER_SIZE). ⊎_elim
    (λ (k : length found < TIERS). rw (h, le-ltb TIER_SIZE (r.tier_size t) l, lt-leb TIERS (length found) k)
    (one_more r first found t is l k, (t ∷ [], refl), λ u e. Contains-append_right found (t ∷ []) u (subst (Contains (t ∷ [])) e (contains_first t []))))
    (λ (k : TIERS ≤ length found). rw (h, le-ltb TIER_SIZE (r.tier_size t) l, le-leb TIERS (length found) k)
    (found, t, is, omega (arith, within.few), l))
    (cases_lt (length found) TIERS))
    (cases_lt TIER_SIZE (r.tier_size t))) (cases_Bool (list_any (nat_eq t) found))

comes_weaker : (r : Rules) (first : ℕ) (base : List ℕ) (D E : ℕ → Type 0) (s : Search) → ((u : ℕ) → E u → D u) → Comes r first base D s →
    Comes r first base E s
comes_weaker r first base D E (Ok new) h (within, grown, all) = (within, grown, λ u e. all u (h u e))
comes_weaker r first base D E (Err e) h c = c

comes_on : (r : Rules) (first : ℕ) (base found : List ℕ) (D E : ℕ → Type 0) (s : Search) → IsGrown base found → ((u : ℕ) → D u → Contains found u) →
    Comes r first found E s → Comes r first base (λ u. D u ⊎ E u) s
comes_on r first base found D E (Ok new) grown all (within, more, last) =
    (within, grown_again base found new grown more, λ u. ⊎_elim (λ (d : D u). grown_has found new u more (all u d)) (λ (e : E u). last u e))
comes_on r first base found D E (Err e) grown all c = c

comes_child : (r : Rules) (first parent : ℕ) (base : List ℕ) (D : ℕ → Type 0) (s : Search) (t : ℕ) → Contains base parent →
    Contains (r.child_tiers parent) t → Comes r first base D s → Comes r first base (λ u. D u ⊎ (t ≡ u)) (comes_to r s t)
comes_child r first parent base D (Ok found) t has is (within, grown, all) = comes_on r first base found D (λ u. t ≡ u) (comes_to r (Ok found) t) grown all
    (comes_step r first found t within (next_child r first found parent t (grown_has base found parent grown has) is))
comes_child r first parent base D (Err e) t has is c = c

pub comes_all : (r : Rules) (first parent : ℕ) (base : List ℕ) (D : ℕ → Type 0) (s : Search) (ts : List ℕ) → Contains base parent →
    ((u : ℕ) → Contains ts u → Contains (r.child_tiers parent) u) → Comes r first base D s →
    Comes r first base (λ u. D u ⊎ Contains ts u) (comes_to_all r s ts)
comes_all r first parent base D s [] has are c =
    comes_weaker r first base D (λ u. D u ⊎ Contains [] u) s (λ u. ⊎_elim (λ (d : D u). d) (λ (n : Contains [] u). absurd (contains_none u n))) c
comes_all r first parent base D s (t ∷ ts) has are c =
    comes_weaker r first base (λ u. (D u ⊎ (t ≡ u)) ⊎ Contains ts u) (λ u. D u ⊎ Contains (t ∷ ts) u) (comes_to_all r (comes_to r s t) ts)
    (λ u. ⊎_elim (λ (d : D u). inl (inl d)) (λ (n : Contains (t ∷ ts) u). cases u (contains_cases t u ts n)))
    (comes_all r first parent base (λ u. D u ⊎ (t ≡ u)) (comes_to r s t) ts has (λ u n. are u (later u n))
    (comes_child r first parent base D s t has (are t (contains_first t ts)) c))
  where
    cases : (u : ℕ) → (t ≡ u) ⊎ Contains ts u → (D u ⊎ (t ≡ u)) ⊎ Contains ts u
    cases u (inl e) = inl (inr e)
    cases u (inr n) = inr n

    later : (u : ℕ) → Contains ts u → Contains (t ∷ ts) u
    later u (k, l, e) = (suc k, omega arith, e)
