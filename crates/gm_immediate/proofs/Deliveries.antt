-- Deliveries into ranges of a tier.
use Rattle.gm_immediate.proofs.Lower.{◌≡◌, ℕ, ◌+◌, ◌<◌, ◌≤◌, inl, inr, true, List, [], ◌++◌, length, refl, ap, sym, subst, arith, length-append, Contains, Position, Rules, at, IsGame, AreThere, IsDeliveryIn, Option, REMOTENESS, Solved, IsTooFar}
use Rattle.std.proofs.Common.{◌⊎◌, ◌↔◌, Bool, map, filter}
use Rattle.std.proofs.lemmas.Bool.{cases_lt}
use Rattle.std.proofs.lemmas.List.{length-map}
use Rattle.gm_game.specs.declared.position.Value.TheVariants.{Draw}
use Rattle.gm_game.specs.Rules.{IsInner, IsCanonicalChild, AreHoles}
use Rattle.gm_game.specs.Values.{HasValue}
use Rattle.gm_immediate.specs.inner.Gathered.{AreOnce}
use Rattle.gm_game.proofs.Lists.{contains_none, map_from, map_in}
use Rattle.gm_table.proofs.Distinct.{no_repeats_to, no_repeats_append, no_repeats_from, no_repeats_map, no_repeats_filter, in_filter, filter_has}
use Rattle.gm_table.specs.Solving.{IsDelivery, AreDeliveries}
use Rattle.gm_game.specs.Records.{IsTrueTable}
use Rattle.gm_game.proofs.Basic.{HasValue_once}
use Rattle.gm_table.proofs.ValueLemmas.{canonical_record}
use Rattle.std.proofs.lemmas.List.Elements.{Contains-append_left, Contains-append_right, Contains-append_cases}

-- things of one of two kinds that have nothing in common
pub there_sum : {A : Type 0} (n m : ℕ) (K L M : A → Type 0) → AreThere n K → AreThere m L → ((x : A) → K x → L x → ⊥) → ((x : A) → M x ↔ (K x ⊎ L x))
    → AreThere (n + m) M
there_sum n m K L M (xs, count, a) (ys, many, b) apart same = (
  xs ++ ys,
  omega (arith, length-append xs ys),
  record {
    each = λ x. (
      λ h. elim ((same x).0 h) [ inl k ↦ Contains-append_left xs ys x ((a.each x).0 k) | inr l ↦ Contains-append_right xs ys x ((b.each x).0 l) ],
      λ h. (same x).1 (elim (Contains-append_cases xs ys x h) [ inl k ↦ inl ((a.each x).1 k) | inr l ↦ inr ((b.each x).1 l) ]),
    );
    once = no_repeats_to (xs ++ ys) (no_repeats_append xs ys (no_repeats_from xs a.once) (no_repeats_from ys b.once)
        (λ x i j. apart x ((a.each x).1 i) ((b.each x).1 j)));
  },
)

-- things of the same kind, said otherwise
pub there_same : {A : Type 0} (n : ℕ) (K M : A → Type 0) → AreThere n K → ((x : A) → M x ↔ K x) → AreThere n M
there_same n K M (xs, count, a) same = (
  xs,
  count,
  record { each = λ x. (λ m. (a.each x).0 ((same x).0 m), λ h. (same x).1 ((a.each x).1 h)); once = a.once },
)

-- nothing of a kind that there is not
pub there_none : {A : Type 0} (K : A → Type 0) → ((x : A) → K x → ⊥) → AreThere 0 K
there_none K none = (
  [],
  refl,
  record {
    each = λ x. (λ k. absurd (none x k), λ h. absurd (contains_none x h));
    once = no_repeats_to [] tt;
  },
)

-- none into an empty range
pub deliveries_start : (r : Rules) (tier lo hi : ℕ) → hi ≤ lo → AreThere 0 (IsDeliveryIn r tier lo hi)
deliveries_start r tier lo hi l = there_none (IsDeliveryIn r tier lo hi) (λ pair d. let a = d.low in let b = d.high in omega arith)

-- those into a range and into the one behind it
pub deliveries_join : (r : Rules) (tier lo mid hi n m : ℕ) → lo ≤ mid → mid ≤ hi → AreThere n (IsDeliveryIn r tier lo mid)
    → AreThere m (IsDeliveryIn r tier mid hi) → AreThere (n + m) (IsDeliveryIn r tier lo hi)
deliveries_join r tier lo mid hi n m a b x y =
    there_sum n m (IsDeliveryIn r tier lo mid) (IsDeliveryIn r tier mid hi) (IsDeliveryIn r tier lo hi) x y
    (λ pair k l. let h = k.high in let g = l.low in omega arith)
    (λ pair. (
      λ d. elim (cases_lt pair.1 mid) [
        | inl h ↦ inl (record { delivery = d.delivery; low = d.low; high = h })
        | inr h ↦ inr (record { delivery = d.delivery; low = h; high = d.high })
      ],
      λ e. elim e [
        | inl d ↦ record { delivery = d.delivery; low = d.low; high = (let h = d.high in omega arith) }
        | inr d ↦ record { delivery = d.delivery; low = (let h = d.low in omega arith); high = d.high }
      ],
    ))

-- the index of a range of one
one_index : (i k : ℕ) → i ≤ k → k < i + 1 → k ≡ i
one_index i k a b = omega arith

-- none into an index that isn't inner
pub deliveries_outer : (r : Rules) (p : Position) → (IsInner r p → ⊥) → AreThere 0 (IsDeliveryIn r p.tier p.index (p.index + 1))
deliveries_outer r p none =
    there_none (IsDeliveryIn r p.tier p.index (p.index + 1))
    (λ pair d. none (subst (λ (i : ℕ). IsInner r (at p.tier i)) (one_index p.index pair.1 d.low d.high) d.delivery.is_parent.0))

-- none into indexes that are not any of canonical positions
pub deliveries_holes : (r : Rules) (tier lo hi : ℕ) → AreHoles r tier lo hi → AreThere 0 (IsDeliveryIn r tier lo hi)
deliveries_holes r tier lo hi holes =
    there_none (IsDeliveryIn r tier lo hi) (λ pair d. let inner = d.delivery.is_parent.0 in holes pair.1 d.low d.high (inner.legal, inner.canonical))

-- the pair of a child and an index
abbrev pair_with : ℕ → Position → Position × ℕ
pair_with i c = (c, i)

-- those into an inner index: its canonical children that are no draws
pub deliveries_inner : (r : Rules) (p : Position) (cs : List Position) (f : Position → Bool) → IsInner r p → AreOnce r p cs
    → ((c : Position) → Contains cs c → (f c ≡ true) ↔ (HasValue r c Draw 0 → ⊥))
    → AreThere (length (filter f cs)) (IsDeliveryIn r p.tier p.index (p.index + 1))
deliveries_inner r p cs f inner are decides = (
  map (pair_with p.index) (filter f cs),
  length-map (filter f cs) (pair_with p.index),
  record {
    each = λ (pair : Position × ℕ). (
      λ d. (
          let same = one_index p.index pair.1 d.low d.high in
          let child : IsCanonicalChild r p pair.0 = subst (λ (i : ℕ). IsCanonicalChild r (at p.tier i) pair.0) same d.delivery.is_parent.1 in
          let has = (are.exact pair.0).1 child in
          subst (λ (i : ℕ). Contains (map (pair_with p.index) (filter f cs)) (pair.0, i)) (sym same)
          (map_from (pair_with p.index) (filter f cs) pair.0 (filter_has f cs pair.0 has ((decides pair.0 has).1 d.delivery.no_draw)))),
      λ h. (
          let (c, has, e) = map_in (pair_with p.index) (filter f cs) pair h in
          let (there, passes) = in_filter f cs c has in
          subst (IsDeliveryIn r p.tier p.index (p.index + 1)) e
          (record {
            delivery = record { is_parent = (inner, (are.exact c).0 there); no_draw = (decides c there).0 passes };
            low = omega arith;
            high = omega arith;
          })),
    );
    once = no_repeats_to (map (pair_with p.index) (filter f cs))
        (no_repeats_map (pair_with p.index) (filter f cs) (λ x y i j e. ap (λ (z : Position × ℕ). z.0) e)
        (no_repeats_filter f cs (no_repeats_from cs are.once)));
  },
)

-- those into all indexes of a tier
pub deliveries_whole : (r : Rules) → IsGame r → (tier n : ℕ) → AreThere n (IsDeliveryIn r tier 0 (r.tier_size tier)) → AreDeliveries r tier n
deliveries_whole r g tier n are = there_same n (IsDeliveryIn r tier 0 (r.tier_size tier)) (IsDelivery r tier) are (λ pair. (
  λ d. record { delivery = d; low = omega arith; high = g.index_below (at tier pair.1) d.is_parent.0.legal },
  λ d. d.delivery,
))

-- no position of a tier with a true table has a remoteness above the limit
pub not_too_far : (r : Rules) → IsGame r → (tier : ℕ) (records : List (Option Solved)) → IsTrueTable r REMOTENESS tier records → IsTooFar r tier → ⊥
not_too_far r g tier records t far =
    let (x, is, is_true, near) = canonical_record r g tier records t (at tier far.index) far.canonical refl in
    let e = (HasValue_once r (at tier far.index) x.value far.value x.remoteness (REMOTENESS + 1) is_true far.far).1 in
    omega arith
