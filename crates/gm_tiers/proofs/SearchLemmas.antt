-- What a search for tiers keeps.
use Rattle.gm_tiers.proofs.Lower.{◌≡◌, ◌≢◌, ℕ, suc, ◌<◌, ◌≤◌, ◌⊎◌, ⊎_elim, false, List, [], ◌∷◌, length, take, get_or, refl, ap, sym, subst, ◌∙◌, arith, Contains, AllPairs, TIERS, Rules, contains_none, AreWithin, AreFound, HasTooMany}
use Rattle.std.proofs.Common.{zero, ◌+◌, true, true≢false, ◌++◌, slice_get, Some, nat_eq, if◌then◌else◌, append_assoc, length-append}
use Rattle.std.specs.List.{list_any}
use Rattle.std.proofs.lemmas.Bool.{eqb-true, eq-eqb}
use Rattle.std.proofs.lemmas.List.{append-nil, take_all, take_more, take-append-le}
use Rattle.std.proofs.lemmas.List.Elements.{Contains-append_left, Contains-push_cases, Contains-get_or}
use Rattle.std.proofs.lemmas.Option.{get_or_from_slice_get, slice_get_within}
use Rattle.std.proofs.lemmas.List.Quantifiers.{all_pairs_push}
use Rattle.gm_game.specs.declared.limits.TheConstants.{TIER_SIZE}
use Rattle.gm_game.proofs.Lists.{any_from, any_in, contains_cases}
use Rattle.gm_tiers.specs.Reach.{IsReachedIn, IsReachedFrom, IsNext, IsSearchOn, IsSearch, IsClosed, IsGrown}
use Rattle.gm_tiers.specs.Limits.{IsFoundNext, AreMoreThan}

-- what the test of a set means
pub there : (ks : List ℕ) (k : ℕ) → list_any (nat_eq k) ks ≡ true → Contains ks k
there ks k h = let (x, has, e) = any_in (nat_eq k) ks h in subst (Contains ks) (sym (eqb-true k x e)) has

pub not_there : (ks : List ℕ) (k : ℕ) → list_any (nat_eq k) ks ≡ false → Contains ks k → ⊥
not_there ks k h has = true≢false (sym (any_from (nat_eq k) ks k has (eq-eqb k k refl)) ∙ h)

-- a child tier of one that is found comes next
pub next_child : (r : Rules) (first : ℕ) (found : List ℕ) (parent child : ℕ) → Contains found parent → Contains (r.child_tiers parent) child → IsNext r
    first found child
next_child r first [] parent child has is = absurd (contains_none parent has)
next_child r first (t ∷ ts) parent child has is = (parent, has, is)

-- a search goes on to one more
searched_more : (r : Rules) (first : ℕ) (found ts : List ℕ) (t : ℕ) → IsSearchOn r first found ts → IsNext r first (found ++ ts) t →
    (Contains (found ++ ts) t → ⊥) → IsSearchOn r first found (ts ++ t ∷ [])
searched_more r first found [] t s next fresh =
    (subst (λ l. IsNext r first l t) (append-nil found) next, λ has. fresh (subst (λ l. Contains l t) (sym (append-nil found)) has), tt)
searched_more r first found (u ∷ us) t s next fresh =
    let e : found ++ (u ∷ us) ≡ (found ++ u ∷ []) ++ us = sym (append_assoc found (u ∷ []) us) in (
      s.0,
      s.1,
      searched_more r first (found ++ u ∷ []) us t s.2 (subst (λ l. IsNext r first l t) e next)
          (λ has. fresh (subst (λ l. Contains l t) (sym e) has)),
    )

pub one_more : (r : Rules) (first : ℕ) (found : List ℕ) (tier : ℕ) → IsFoundNext r first found tier → r.tier_size tier ≤ TIER_SIZE → length found < TIERS →
    AreWithin r first (found ++ tier ∷ [])
one_more r first found tier is small room = record {
  search = searched_more r first [] found tier is.within.search is.next is.fresh;
  small = λ t has. ⊎_elim (λ (old : Contains found t). is.within.small t old) (λ (e : tier ≡ t). subst (λ u. r.tier_size u ≤ TIER_SIZE) e small)
      (Contains-push_cases found tier t has);
  few = omega (arith, length-append found (tier ∷ []));
}

-- what is grown has what was there
pub grown_has : (old new : List ℕ) (t : ℕ) → IsGrown old new → Contains old t → Contains new t
grown_has old new t (more, e) has = subst (λ l. Contains l t) (sym e) (Contains-append_left old more t has)

pub grown_itself : (old : List ℕ) → IsGrown old old
grown_itself old = ([], sym (append-nil old))

pub grown_again : (a b c : List ℕ) → IsGrown a b → IsGrown b c → IsGrown a c
grown_again a b c (more, e) (most, f) = (more ++ most, f ∙ ap (λ l. l ++ most) e ∙ append_assoc a more most)

-- each tier that is found is reached
next_reached : (r : Rules) (first : ℕ) (found : List ℕ) (t : ℕ) → ((u : ℕ) → Contains found u → IsReachedFrom r first u) → IsNext r first found t →
    IsReachedFrom r first t
next_reached r first [] t all next = (zero, next)
next_reached r first (x ∷ xs) t all (parent, has, is) = let (n, reached) = all parent has in (suc n, (parent, reached, is))

searched_reached : (r : Rules) (first : ℕ) (found ts : List ℕ) → ((u : ℕ) → Contains found u → IsReachedFrom r first u) → IsSearchOn r first found ts →
    (t : ℕ) → Contains ts t → IsReachedFrom r first t
searched_reached r first found [] all s t has = absurd (contains_none t has)
searched_reached r first found (x ∷ xs) all s t has =
    let here : IsReachedFrom r first x = next_reached r first found x all s.0 in
    let more = λ (u : ℕ) (h : Contains (found ++ x ∷ []) u). ⊎_elim (λ (old : Contains found u). all u old)
    (λ (e : x ≡ u). subst (IsReachedFrom r first) e here) (Contains-push_cases found x u h) in
    ⊎_elim (λ (e : x ≡ t). subst (IsReachedFrom r first) e here) (λ (h : Contains xs t). searched_reached r first (found ++ x ∷ []) xs more s.2 t h)
    (contains_cases x t xs has)

pub search_reached : (r : Rules) (first : ℕ) (found : List ℕ) → IsSearch r first found → (t : ℕ) → Contains found t → IsReachedFrom r first t
search_reached r first found s = searched_reached r first [] found (λ u h. absurd (contains_none u h)) s

pub found_next_reached : (r : Rules) (first : ℕ) (found : List ℕ) (t : ℕ) → IsFoundNext r first found t → IsReachedFrom r first t
found_next_reached r first found t is = next_reached r first found t (search_reached r first found is.within.search) is.next

-- no tier is found twice
searched_once : (r : Rules) (first : ℕ) (found ts : List ℕ) → AllPairs (λ (t u : ℕ). t ≢ u) found → IsSearchOn r first found ts → AllPairs
    (λ (t u : ℕ). t ≢ u) (found ++ ts)
searched_once r first found [] once s = subst (AllPairs (λ (t u : ℕ). t ≢ u)) (sym (append-nil found)) once
searched_once r first found (x ∷ xs) once s =
    let push : AllPairs (λ (t u : ℕ). t ≢ u) (found ++ x ∷ []) = once_more found x once s.1 in
    subst (AllPairs (λ (t u : ℕ). t ≢ u)) (append_assoc found (x ∷ []) xs) (searched_once r first (found ++ x ∷ []) xs push s.2)
  where
    once_more : (found : List ℕ) (x : ℕ) → AllPairs (λ (t u : ℕ). t ≢ u) found → (Contains found x → ⊥) → AllPairs (λ (t u : ℕ). t ≢ u) (found ++ x ∷ [])
    once_more found x once fresh =
        all_pairs_push (λ (t u : ℕ). t ≢ u) found x once (λ k d h e. fresh (subst (Contains found) e (Contains-get_or found k d h)))

pub search_once : (r : Rules) (first : ℕ) (found : List ℕ) → IsSearch r first found → AllPairs (λ (t u : ℕ). t ≢ u) found
search_once r first found s = searched_once r first [] found (λ i j d i<j j<0. absurd (omega arith)) s

-- where too many are found, too many are reached
pub too_many_reached : (r : Rules) (first : ℕ) → HasTooMany r first → AreMoreThan r first TIERS
too_many_reached r first (found, tier, is, full, small) =
    let s : IsSearch r first (found ++ tier ∷ []) = searched_more r first [] found tier is.within.search is.next is.fresh in (
      found ++ tier ∷ [],
      omega (arith, length-append found (tier ∷ [])),
      search_once r first (found ++ tier ∷ []) s,
      search_reached r first
          (found ++ tier ∷ []) s,
    )

-- all that is reached is found, where the child tiers of all that is found are
pub reached_found : (r : Rules) (first : ℕ) (found : List ℕ) → AreFound r first found → (n t : ℕ) → IsReachedIn r first n t → Contains found t
reached_found r first found is zero t e = subst (Contains found) (sym e) is.has_first
reached_found r first found is (suc n) t (parent, reached, child) =
    is.closed parent t (subst (λ l. Contains l parent) (sym (take_all (length found) found (omega arith)))
    (reached_found r first found is n parent reached)) child

-- what is among the first i of a list, and one more
among_more : (xs : List ℕ) (i u : ℕ) → i < length xs → Contains (take (i + 1) xs) u → Contains (take i xs) u ⊎ (get_or xs i 0 ≡ u)
among_more xs i u h has = Contains-push_cases (take i xs) (get_or xs i 0) u (subst (λ l. Contains l u) (take_more xs i 0 h) has)

pub among_all : (xs : List ℕ) (i u : ℕ) → length xs ≤ i → Contains xs u → Contains (take i xs) u
among_all xs i u h has = subst (λ l. Contains l u) (sym (take_all i xs h)) has

pub at_there : (xs : List ℕ) (i x : ℕ) → slice_get xs i ≡ Some x → Contains xs x
at_there xs i x e = (i, slice_get_within xs i x e, get_or_from_slice_get xs i x x e)

-- the child tiers of one more tier are found
pub closed_more : (r : Rules) (old new : List ℕ) (n t : ℕ) → IsClosed r n old → IsGrown old new → slice_get old n ≡ Some t
    → ((child : ℕ) → Contains (r.child_tiers t) child → Contains new child) → IsClosed r (n + 1) new
closed_more r old new n t closed (more, e) at children u child has is =
    let inside : n < length old = slice_get_within old n t at in
    let front : take (n + 1) new ≡ take (n + 1) old = ap (take (n + 1)) e ∙ take-append-le (n + 1) old more (omega arith) in
    ⊎_elim (λ (h : Contains (take n old) u). grown_has old new child (more, e) (closed u child h is))
    (λ (same : get_or old n 0 ≡ u). let e' : u ≡ t = sym same ∙ get_or_from_slice_get old n t 0 at in children child
    (subst (λ v. Contains (r.child_tiers v) child) e' is))
    (among_more old n u inside (subst (λ l. Contains l u) front has))

-- the child tiers of all that is found are found
pub found_all : (r : Rules) (first : ℕ) (found : List ℕ) (n : ℕ) → AreWithin r first found → Contains found first → IsClosed r n found → length found ≤ n →
    AreFound r first found
found_all r first found n within has_first closed h = record {
  within = within;
  has_first = has_first;
  closed = λ t child has is. closed t child (among_all found n t h (subst (λ l. Contains l t) (take_all (length found) found (omega arith)) has)) is;
}
