-- What a sort of tiers by rank and number gives.
use Rattle.gm_tiers.proofs.Lower.{◌≡◌, ◌≢◌, ℕ, suc, ◌<◌, ◌≤◌, ◌⊎◌, ⊎_elim, false, List, length, get_or, ap, sym, subst, ◌∙◌, arith, Contains, AllPairs, cases_lt, TIERS, Rules, AreFound, [], ◌∷◌, map, refl}
use Rattle.std.proofs.Common.{length-take, eq-or-lt_of_le, ◌==◌}
use Rattle.std.specs.List.Sorted.{IsSortedBy, IsPermutation}
use Rattle.std.specs.Ordering.{nat_cmp, ordering_then, is_lt}
use Rattle.std.specs.declared.cmp.Ordering.{Ordering}
use Rattle.std.specs.Cmp.{IsTotalOrder}
use Rattle.std.proofs.lemmas.Bool.Decides.{nat_tests}
use Rattle.std.proofs.lemmas.List.Sorted.{sorted_far, ranks_by, Contains-permutation, IsPermutation-sym, length_permutation, IsPermutation-map}
use Rattle.std.proofs.lemmas.Option.{get_or_from_slice_get, slice_get_within}
use Rattle.std.proofs.lemmas.List.{get_or-take, get_or-map, length-map}
use Rattle.std.proofs.lemmas.Grind.{get_or_default_zero}
use Rattle.gm_game.specs.Laws.{IsGame}
use Rattle.gm_tiers.specs.Reach.{IsReachedFrom}
use Rattle.gm_tiers.specs.Orders.{IsTierBefore, IsOrderFrom, ComeChildrenFirst}
use Rattle.std.proofs.lemmas.List.Elements.{Contains-get_or}
use Rattle.std.proofs.lemmas.Cmp.{nat_cmp_total, then_total, on_total}
use Rattle.gm_tiers.proofs.SearchLemmas.{search_reached, reached_found}

abbrev pub pair_cmp : ℕ × ℕ → ℕ × ℕ → Ordering
pair_cmp x y = ordering_then (nat_cmp x.0 y.0) (nat_cmp x.1 y.1)

not_after : (a b t u : ℕ) → is_lt (ordering_then (nat_cmp b a) (nat_cmp u t)) ≡ false → t ≢ u → (a < b) ⊎ ((a ≡ b) × (t < u))
not_after a b t u h ne = grind (arith, nat_tests)

pair_cmp_total : IsTotalOrder pair_cmp
pair_cmp_total = then_total (on_total (λ (p : ℕ × ℕ). p.0) nat_cmp_total) (on_total (λ (p : ℕ × ℕ). p.1) nat_cmp_total)

-- no two are the same, and each has at least the rank and number of the one before it
pub ordered : (r : Rules) (tiers : List ℕ) → AllPairs (λ (t u : ℕ). t ≢ u) tiers → IsSortedBy
    (λ t u. is_lt (pair_cmp (r.tier_rank t, t) (r.tier_rank u, u))) tiers → AllPairs (IsTierBefore r) tiers
ordered r tiers once up i j d i<j j<n =
    let key : ℕ → ℕ × ℕ = λ t. (r.tier_rank t, t) in
    let t = get_or tiers i d in
    let u = get_or tiers j d in
    not_after (r.tier_rank t) (r.tier_rank u) t u
    (sorted_far (λ x y. is_lt (pair_cmp (key x) (key y))) (ranks_by pair_cmp_total key) tiers up i j d (omega arith) j<n)
    (once i j d i<j j<n)

-- a child tier has a smaller rank, so it comes first
pub children_first : (r : Rules) → IsGame r → (first : ℕ) (tiers : List ℕ) → IsOrderFrom r first tiers → ComeChildrenFirst r tiers
children_first r laws first tiers is k t child e c =
    let inside : k < length tiers = slice_get_within tiers k t e in
    let here : get_or tiers k 0 ≡ t = get_or_from_slice_get tiers k t 0 e in
    let (n, reached) = (is.each t).0 (k, inside, get_or_from_slice_get tiers k t t e) in
    let (j, j<n, there) = (is.each child).1 (suc n, (t, reached, c)) in
    let falls : r.tier_rank child < r.tier_rank t = laws.child_rank t child c in
    let there' : get_or tiers j 0 ≡ child = sym (get_or_default_zero tiers j child j<n) ∙ there in
    ⊎_elim
    (λ (j<k : j < k). (j, omega (arith, length-take k tiers), get_or-take k tiers j child j<k ∙ there))
    (λ (k≤j : k ≤ j). absurd (⊎_elim
    (λ (same : k ≡ j). let e' : t ≡ child = sym here ∙ ap (λ i. get_or tiers i 0) same ∙ there' in
    let less : r.tier_rank t < r.tier_rank t = subst (λ u. r.tier_rank u < r.tier_rank t) (sym e') falls in omega arith)
    (λ (k<j : k < j).
    let before : IsTierBefore r t child = subst (λ u. IsTierBefore r u child) here
    (subst (λ u. IsTierBefore r (get_or tiers k 0) u) there' (is.ordered k j 0 k<j j<n)) in
    ⊎_elim (λ (less : r.tier_rank t < r.tier_rank child). let none : ⊥ = omega arith in none)
    (λ (b : (r.tier_rank t ≡ r.tier_rank child) × (t < child)). let none : ⊥ = omega arith in none) before)
    (eq-or-lt_of_le k≤j)))
    (cases_lt j k)

-- the tiers that a search finds, sorted
pub order_is : (r : Rules) (first : ℕ) (found tiers : List ℕ) → AreFound r first found → IsPermutation found tiers → AllPairs (IsTierBefore r) tiers →
    IsOrderFrom r first tiers
order_is r first found tiers is same up = record {
  each = λ t. (
    λ (has : Contains tiers t). search_reached r first found is.within.search t (back t has),
    λ (h : IsReachedFrom r first t). Contains-permutation found tiers t same (reached_found r first found is h.0 t h.1),
  );
  ordered = up;
  few = let few : length found ≤ TIERS = is.within.few in omega (arith, length_permutation found tiers same);
  small = λ t has. is.within.small t (back t has);
}
  where
    back : (t : ℕ) → Contains tiers t → Contains found t
    back t has = Contains-permutation tiers found t (IsPermutation-sym found tiers same) has

-- a tier after its rank
abbrev pub ranked : Rules → ℕ → ℕ × ℕ
ranked r t = (r.tier_rank t, t)

abbrev pub tier_of : ℕ × ℕ → ℕ
tier_of pair = pair.1

tiers_of_ranked : (r : Rules) (tiers : List ℕ) → map tier_of (map (ranked r) tiers) ≡ tiers
tiers_of_ranked r [] = refl
tiers_of_ranked r (t ∷ ts) = ap (λ (us : List ℕ). t ∷ us) (tiers_of_ranked r ts)

-- the tiers of the pairs of tiers, in any order
pub same_tiers : (r : Rules) (tiers : List ℕ) (pairs : List (ℕ × ℕ)) → IsPermutation (map (ranked r) tiers) pairs → IsPermutation tiers (map tier_of pairs)
same_tiers r tiers pairs same = subst (λ (ts : List ℕ). IsPermutation ts (map tier_of pairs)) (tiers_of_ranked r tiers)
    (IsPermutation-map tier_of (map (ranked r) tiers) pairs same)

is_ranked : (r : Rules) (tiers : List ℕ) (p : ℕ × ℕ) → Contains (map (ranked r) tiers) p → p.0 ≡ r.tier_rank p.1
is_ranked r tiers p (k, inside, is) =
    let within : k < length tiers = subst (λ n. k < n) (length-map tiers (ranked r)) inside in
    let whole : p ≡ ranked r (get_or tiers k 0) = sym is ∙ get_or-map (ranked r) tiers k 0 p within in
    subst (λ (q : ℕ × ℕ). q.0 ≡ r.tier_rank q.1) (sym whole) refl

-- each of the pairs is ranked, in any order
stays_ranked : (r : Rules) (tiers : List ℕ) (pairs : List (ℕ × ℕ)) → IsPermutation (map (ranked r) tiers) pairs → (k : ℕ) → k < length pairs →
    (get_or pairs k (0, 0)).0 ≡ r.tier_rank (get_or pairs k (0, 0)).1
stays_ranked r tiers pairs same k within =
    let p = get_or pairs k (0, 0) in
    is_ranked r tiers p (Contains-permutation pairs (map (ranked r) tiers) p (IsPermutation-sym (map (ranked r) tiers) pairs same) (Contains-get_or pairs k (0, 0) within))

-- pairs in order have their tiers in order
pub pairs_ordered : (r : Rules) (tiers : List ℕ) (pairs : List (ℕ × ℕ)) → AllPairs (λ (t u : ℕ). t ≢ u) (map tier_of pairs) →
    IsPermutation (map (ranked r) tiers) pairs → IsSortedBy (λ x y. is_lt (pair_cmp x y)) pairs → AllPairs (IsTierBefore r) (map tier_of pairs)
pairs_ordered r tiers pairs once same up i j d i<j j<n =
    let p = get_or pairs i (0, 0) in
    let q = get_or pairs j (0, 0) in
    let j<m : j < length pairs = subst (λ n. j < n) (length-map pairs tier_of) j<n in
    let i<m : i < length pairs = omega arith in
    let here : get_or (map tier_of pairs) i d ≡ p.1 = get_or-map tier_of pairs i (0, 0) d i<m in
    let there : get_or (map tier_of pairs) j d ≡ q.1 = get_or-map tier_of pairs j (0, 0) d j<m in
    let differ : p.1 ≢ q.1 = λ s. once i j d i<j j<n (here ∙ s ∙ sym there) in
    let is : IsTierBefore r p.1 q.1 =
    subst (λ b. (r.tier_rank p.1 < b) ⊎ ((r.tier_rank p.1 ≡ b) × (p.1 < q.1))) (stays_ranked r tiers pairs same j j<m)
    (subst (λ a. (a < q.0) ⊎ ((a ≡ q.0) × (p.1 < q.1))) (stays_ranked r tiers pairs same i i<m)
    (not_after p.0 q.0 p.1 q.1 (sorted_far (λ x y. is_lt (pair_cmp x y)) (ranks_by pair_cmp_total (λ (x : ℕ × ℕ). x)) pairs up i j (0, 0) (omega arith) j<m) differ)) in
    subst (λ t. IsTierBefore r t (get_or (map tier_of pairs) j d)) (sym here) (subst (λ u. IsTierBefore r p.1 u) (sym there) is)

pub eqb_flips : (t u : ℕ) → (t == u) ≡ (u == t)
eqb_flips t u = grind (arith, nat_tests)
