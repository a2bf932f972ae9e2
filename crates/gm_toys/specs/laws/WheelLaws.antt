-- Wheel has the laws of a game, and its texts can be read back.
use Rattle.std.proofs.Common.{◌≡◌, ◌≢◌, ℕ, zero, suc, ◌<◌, ◌≤◌, inl, Bool, true, false, List, [], length, ◌&&◌, eqb, refl, None, arith, sym, ap, subst, ◌∙◌}
use Rattle.gm_toys.specs.Lower.{and_parts, nat_tests, common_steps, nat_lt, Contains, list_all, list_any, Position, IsGame, IsShown, at, IsAscending, IsCanonical, IsCanonicalChild, IsParent, contains_none, all_in, any_in, same_position}
use Rattle.std.specs.Prelude.{if◌then◌else◌}
use Rattle.gm_toys.specs.Subtraction.{number_text}
use Rattle.gm_toys.specs.laws.SubtractionLaws.{child_in, child_from, decimals_readable}
use Rattle.gm_toys.specs.Wheel.{wheel, wheel_targets, wheel_sources, wheel_end, target_text}

-- what holds of each of the ten numbers
below_ten : (P : ℕ → Type 0) → P 0 → P 1 → P 2 → P 3 → P 4 → P 5 → P 6 → P 7 → P 8 → P 9 → (i : ℕ) → i < 10 → P i
below_ten P a b c d e f g h j k zero l = a
below_ten P a b c d e f g h j k (suc zero) l = b
below_ten P a b c d e f g h j k (suc (suc zero)) l = c
below_ten P a b c d e f g h j k (suc (suc (suc zero))) l = d
below_ten P a b c d e f g h j k (suc (suc (suc (suc zero)))) l = e
below_ten P a b c d e f g h j k (suc (suc (suc (suc (suc zero))))) l = f
below_ten P a b c d e f g h j k (suc (suc (suc (suc (suc (suc zero)))))) l = g
below_ten P a b c d e f g h j k (suc (suc (suc (suc (suc (suc (suc zero))))))) l = h
below_ten P a b c d e f g h j k (suc (suc (suc (suc (suc (suc (suc (suc zero)))))))) l = j
below_ten P a b c d e f g h j k (suc (suc (suc (suc (suc (suc (suc (suc (suc zero))))))))) l = k
below_ten P a b c d e f g h j k (suc (suc (suc (suc (suc (suc (suc (suc (suc (suc n)))))))))) l = absurd (omega arith)

-- what holds for a legal position
pub wheel_legal_in : (p : Position) → wheel.is_legal p ≡ true → (p.tier ≡ 0) × (p.index < 10)
wheel_legal_in p l = (grind (arith, nat_tests), grind (arith, nat_tests))

pub wheel_legal_from : (t i : ℕ) → t ≡ 0 → i < 10 → wheel.is_legal (at t i) ≡ true
wheel_legal_from t i e l = grind (arith, nat_tests)

targets_up : (i : ℕ) → i < 10 → IsAscending (wheel_targets i)
targets_up = below_ten (λ i. IsAscending (wheel_targets i)) tt (omega arith, tt) (omega arith, tt) tt tt tt (omega arith, tt) tt (omega arith, tt)
    (omega arith, tt)

sources_up : (i : ℕ) → i < 10 → IsAscending (wheel_sources i)
sources_up = below_ten (λ i. IsAscending (wheel_sources i)) (omega arith, tt) (omega arith, tt) tt (omega arith, (omega arith, tt)) tt tt (omega arith, tt)
    tt tt tt

few_targets : (i : ℕ) → i < 10 → length (wheel_targets i) ≤ 2
few_targets = below_ten (λ i. length (wheel_targets i) ≤ 2) (omega arith) (omega arith) (omega arith) (omega arith) (omega arith) (omega arith)
    (omega arith) (omega arith) (omega arith) (omega arith)

few_sources : (i : ℕ) → i < 10 → length (wheel_sources i) ≤ 3
few_sources = below_ten (λ i. length (wheel_sources i) ≤ 3) (omega arith) (omega arith) (omega arith) (omega arith) (omega arith) (omega arith)
    (omega arith) (omega arith) (omega arith) (omega arith)

-- the game ends exactly if there is no move
no_targets : (i : ℕ) → i < 10 → wheel_end i ≢ None → wheel_targets i ≡ []
no_targets = below_ten (λ i. wheel_end i ≢ None → wheel_targets i ≡ []) (λ h. refl) (λ h. absurd (h refl)) (λ h. absurd (h refl)) (λ h. absurd (h refl))
    (λ h. absurd (h refl)) (λ h. refl) (λ h. absurd (h refl)) (λ h. absurd (h refl)) (λ h. absurd (h refl)) (λ h. absurd (h refl))

some_targets : (i : ℕ) → i < 10 → wheel_end i ≡ None → wheel_targets i ≢ []
some_targets = below_ten (λ i. wheel_end i ≡ None → wheel_targets i ≢ []) (λ h e. cc) (λ h e. cc) (λ h e. cc) (λ h e. cc) (λ h e. cc) (λ h e. cc)
    (λ h e. cc) (λ h e. cc) (λ h e. cc) (λ h e. cc)

goes_on : (i : ℕ) → i < 10 → wheel_targets i ≢ [] → wheel_end i ≡ None
goes_on = below_ten (λ i. wheel_targets i ≢ [] → wheel_end i ≡ None) (λ h. absurd (h refl)) (λ h. refl) (λ h. refl) (λ h. refl) (λ h. refl)
    (λ h. absurd (h refl)) (λ h. refl) (λ h. refl) (λ h. refl) (λ h. refl)

-- whether each number of a list is below ten and has i in its own list
abbrev are_linked : (ℕ → List ℕ) → ℕ → List ℕ → Bool
are_linked back i xs = list_all (λ x. nat_lt x 10 && list_any (λ y. eqb y i) (back x)) xs

linked_in : (back : ℕ → List ℕ) (i : ℕ) (xs : List ℕ) → are_linked back i xs ≡ true → (x : ℕ) → Contains xs x → (x < 10) × Contains (back x) i
linked_in back i xs e x h =
    let (low, there) = and_parts (nat_lt x 10) (list_any (λ y. eqb y i) (back x)) (all_in (λ x. nat_lt x 10 && list_any (λ y. eqb y i) (back x)) xs e x h) in
    let (y, k, same) = any_in (λ y. eqb y i) (back x) there in
    let s : y ≡ i = grind (arith, nat_tests) in
    (grind (arith, nat_tests), subst (λ z. Contains (back x) z) s k)

-- targets and sources are each other's reverse
pub target_in : (i : ℕ) → i < 10 → (m : ℕ) → Contains (wheel_targets i) m → (m < 10) × Contains (wheel_sources m) i
target_in i l = linked_in wheel_sources i (wheel_targets i) (below_ten (λ i. are_linked wheel_sources i (wheel_targets i) ≡ true) refl refl refl refl refl
    refl refl refl refl refl i l)

source_in : (i : ℕ) → i < 10 → (k : ℕ) → Contains (wheel_sources i) k → (k < 10) × Contains (wheel_targets k) i
source_in i l = linked_in wheel_targets i (wheel_sources i) (below_ten (λ i. are_linked wheel_targets i (wheel_sources i) ≡ true) refl refl refl refl refl
    refl refl refl refl refl i l)

-- only tier 0 has parents
own_tier : (c : Position) (t j : ℕ) → Contains (wheel.parents c t) j → t ≡ 0
own_tier c t j h = grind (arith, nat_tests, common_steps)

few_parents : (c : Position) (t : ℕ) → c.index < 10 → length (wheel.parents c t) ≤ 3
few_parents c t l = let few = few_sources c.index l in elim (eqb t 0) as (λ b. length (if b then wheel_sources c.index else []) ≤ 3)
    [ true ↦ few | false ↦ omega arith ]

parents_up : (c : Position) (t : ℕ) → c.index < 10 → IsAscending (wheel.parents c t)
parents_up c t l = elim (eqb t 0) as (λ b. IsAscending (if b then wheel_sources c.index else [])) [ true ↦ sources_up c.index l | false ↦ tt ]

parents_in : (c : Position) (t i : ℕ) → IsCanonical wheel c → Contains (wheel.parents c t) i → IsParent wheel c t i
parents_in c t i k h =
    let z : t ≡ 0 = own_tier c t i h in
    let (ct, cl) = wheel_legal_in c k.0 in
    let (il, m) = source_in c.index cl i (subst (λ (u : ℕ). Contains (wheel.parents c u) i) z h) in
    let same : at t c.index ≡ c = same_position (at t c.index) c (z ∙ sym ct) refl in (
      record {
        legal = wheel_legal_from t i z il;
        canonical = refl;
        unended = goes_on i il (λ e. contains_none c.index (subst (λ xs. Contains xs c.index) e m));
      },
      subst (IsCanonicalChild wheel (at t i)) same (child_from wheel (at t i) c.index m),
    )

parents_from : (c : Position) (t i : ℕ) → IsParent wheel c t i → Contains (wheel.parents c t) i
parents_from c t i (inner, child) =
    let (z, l) = wheel_legal_in (at t i) inner.legal in
    let (m, k, e) = child_in wheel (at t i) c child in
    let (low, back) = target_in i l c.index (subst (λ x. Contains (wheel_targets i) x) (ap (λ (p : Position). p.index) e) k) in
    subst (λ (u : ℕ). Contains (wheel.parents c u) i) (sym z) back

-- the laws of a game hold
pub wheel_lawful : IsGame wheel
wheel_lawful = record {
  name_length = refl;
  name_text = refl;
  moves_ascending = λ p l. targets_up p.index (wheel_legal_in p l).1;
  ended = λ p l e. no_targets p.index (wheel_legal_in p l).1 e;
  unended = λ p l e. some_targets p.index (wheel_legal_in p l).1 e;
  initial_legal = refl;
  index_below = λ p l. grind (arith, nat_tests);
  tier_fits = λ p l. let (t, i) = wheel_legal_in p l in omega arith;
  size_fits = λ p l. grind (arith, nat_tests);
  move_fits = λ p m l c. let (low, back) = target_in p.index (wheel_legal_in p l).1 m c in omega arith;
  play_legal = λ p m l c. let (t, i) = wheel_legal_in p l in wheel_legal_from p.tier m t (target_in p.index i m c).0;
  play_tier = λ p m l c. inl refl;
  child_rank = λ t u c. absurd (contains_none u c);
  child_tiers_ascending = λ t. tt;
  canonical_twice = λ p l. refl;
  canonical_tier = λ p l. refl;
  canonical_legal = λ p l. l;
  canonical_primitive = λ p l. refl;
  canonical_children = λ p c l. (λ x. x, λ x. x);
  parents_ascending = λ c t k. parents_up c t (wheel_legal_in c k.0).1;
  parents_exact = λ c t i k. (parents_in c t i k, parents_from c t i);
  moves_few = λ p l. let few = few_targets p.index (wheel_legal_in p l).1 in omega arith;
  parents_few = λ c t k. let few = few_parents c t (wheel_legal_in c k.0).1 in omega arith;
  child_tiers_few = λ t. omega arith;
}

-- the laws of texts hold
pub wheel_readable : IsShown wheel number_text target_text
wheel_readable =
    decimals_readable wheel (λ p. p.index)
    (λ p l. let (t, i) = wheel_legal_in p l in omega arith)
    (λ p q l k e. same_position p q ((wheel_legal_in p l).0 ∙ sym (wheel_legal_in q k).0) e)
    (λ p m l c. let (low, back) = target_in p.index (wheel_legal_in p l).1 m c in omega arith)
