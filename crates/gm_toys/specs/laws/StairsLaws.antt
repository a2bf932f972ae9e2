-- Stairs has the laws of a game, and its texts can be read back.
use Rattle.std.proofs.Common.{◌≡◌, ℕ, ◌+◌, ◌-◌, ◌<◌, ◌≤◌, ◌^◌, inl, inr, min, Bool, true, false, [], ◌&&◌, eqb, length, refl, None, arith, sym, ap, subst, ◌∙◌}
use Rattle.gm_toys.specs.Lower.{nat_le, nat_lt, nat_tests, length-range_with_len, Contains, Position, IsGame, IsShown, at, IsAscending, IsCanonical, IsCanonicalChild, IsParent, contains_none, contains_first, contains_cases, same_position}
use Rattle.gm_toys.specs.Subtraction.{moves_down, step_text}
use Rattle.gm_toys.specs.laws.SubtractionLaws.{child_in, child_from, range_in, range_from, range_ascending, no_moves, some_moves, decimals_readable}
use Rattle.gm_toys.specs.Stairs.{stairs, only_if, tier_below, position_above, tier_text}

-- what is in a list of at most one number
only_in : (b : Bool) (x y : ℕ) → Contains (only_if b x) y → (b ≡ true) × (x ≡ y)
only_in true x y h = (refl, elim (contains_cases x y [] h) [ inl e ↦ e | inr t ↦ absurd (contains_none y t) ])
only_in false x y h = absurd (contains_none y h)

only_from : (b : Bool) (x : ℕ) → b ≡ true → Contains (only_if b x) x
only_from b x e = subst (λ c. Contains (only_if c x) x) (sym e) (contains_first x [])

only_up : (b : Bool) (x : ℕ) → IsAscending (only_if b x)
only_up true x = tt
only_up false x = tt

only_few : (b : Bool) (x : ℕ) → length (only_if b x) ≤ 1
only_few true x = omega arith
only_few false x = omega arith

-- what holds for a legal position
pub stairs_legal_in : (n : ℕ) (p : Position) → (stairs n).is_legal p ≡ true → (p.tier ≤ n) × (p.index ≡ 0)
stairs_legal_in n p l = (grind (arith, nat_tests), grind (arith, nat_tests))

pub stairs_legal_from : (n t i : ℕ) → t ≤ n → i ≡ 0 → (stairs n).is_legal (at t i) ≡ true
stairs_legal_from n t i l e = grind (arith, nat_tests)

unended_in : (n : ℕ) (p : Position) → (stairs n).primitive p ≡ None → 0 < p.tier
unended_in n p e = grind (arith, nat_tests)

unended_from : (n t i : ℕ) → 0 < t → (stairs n).primitive (at t i) ≡ None
unended_from n t i l = grind (arith, nat_tests)

-- the one move goes down by one
step_in : (t m : ℕ) → Contains (moves_down 1 t) m → (m ≡ 1) × (0 < t)
step_in t m h = let (low, high) = range_in 1 (min 1 t) m h in (omega arith, omega arith)

step_from : (t : ℕ) → 0 < t → Contains (moves_down 1 t) 1
step_from t l = range_from 1 (min 1 t) 1 (omega arith) (omega arith)

-- the tier below, and the position above
below_in : (n t u : ℕ) → Contains (tier_below n t) u → (0 < t) × (u + 1 ≡ t)
below_in n t u h =
    let (b, e) = only_in (nat_lt 0 t && nat_le t n) (t - 1) u h in
    let l : 0 < t = grind (arith, nat_tests) in
    (l, omega arith)

below_from : (n t : ℕ) → 0 < t → t ≤ n → Contains (tier_below n t) (t - 1)
below_from n t l h = only_from (nat_lt 0 t && nat_le t n) (t - 1) (grind (arith, nat_tests))

above_in : (n c t i : ℕ) → Contains (position_above n c t) i → (t ≡ c + 1) × (t ≤ n) × (i ≡ 0)
above_in n c t i h =
    let (b, e) = only_in (eqb t (c + 1) && nat_le t n) 0 i h in
    (grind (arith, nat_tests), grind (arith, nat_tests), sym e)

above_from : (n c t i : ℕ) → t ≡ c + 1 → t ≤ n → i ≡ 0 → Contains (position_above n c t) i
above_from n c t i e l z = subst (λ x. Contains (position_above n c t) x) (sym z) (only_from (eqb t (c + 1) && nat_le t n) 0 (grind (arith, nat_tests)))

parents_in : (n : ℕ) (c : Position) (t i : ℕ) → IsCanonical (stairs n) c → Contains ((stairs n).parents c t) i → IsParent (stairs n) c t i
parents_in n c t i k h =
    let r = stairs n in
    let (up, high, z) = above_in n c.tier t i h in
    let (ct, ci) = stairs_legal_in n c k.0 in
    let down : t - 1 ≡ c.tier = omega arith in
    let back : at (t - 1) i ≡ c = same_position (at (t - 1) i) c down (z ∙ sym ci) in (
      record { legal = stairs_legal_from n t i high z; canonical = refl; unended = unended_from n t i (omega arith) },
      subst (IsCanonicalChild r (at t i)) back
          (child_from r (at t i) 1 (step_from t (omega arith))),
    )

parents_from : (n : ℕ) (c : Position) (t i : ℕ) → IsParent (stairs n) c t i → Contains ((stairs n).parents c t) i
parents_from n c t i (inner, child) =
    let (high, z) = stairs_legal_in n (at t i) inner.legal in
    let (m, k, e) = child_in (stairs n) (at t i) c child in
    let (one, up) = step_in t m k in
    let down : t - m ≡ c.tier = ap (λ (p : Position). p.tier) e in
    above_from n c.tier t i (omega arith) high z

-- the laws of a game hold
pub stairs_lawful : (n : ℕ) → n < 2 ^ 32 → IsGame (stairs n)
stairs_lawful n h = record {
  name_length = refl;
  name_text = refl;
  moves_ascending = λ p l. range_ascending 1 (min 1 p.tier);
  ended = λ p l e. no_moves 1 p.tier (grind (arith, nat_tests));
  unended = λ p l e. some_moves 1 p.tier (omega arith) (unended_in n p e);
  initial_legal = grind (arith, nat_tests);
  index_below = λ p l. grind (arith, nat_tests);
  tier_fits = λ p l. let (t, i) = stairs_legal_in n p l in omega arith;
  size_fits = λ p l. grind (arith, nat_tests);
  move_fits = λ p m l c. let (one, t) = step_in p.tier m c in omega arith;
  play_legal = λ p m l c. let (t, i) = stairs_legal_in n p l in stairs_legal_from n (p.tier - m) p.index (omega arith) i;
  play_tier = λ p m l c.
      let (t, i) = stairs_legal_in n p l in
      let (one, up) = step_in p.tier m c in
      inr (subst (λ (x : ℕ). Contains (tier_below n p.tier) (p.tier - x)) (sym one) (below_from n p.tier up t));
  child_rank = λ t u c. let (l, e) = below_in n t u c in omega arith;
  child_tiers_ascending = λ t. only_up (nat_lt 0 t && nat_le t n) (t - 1);
  canonical_twice = λ p l. refl;
  canonical_tier = λ p l. refl;
  canonical_legal = λ p l. l;
  canonical_primitive = λ p l. refl;
  canonical_children = λ p c l. (λ x. x, λ x. x);
  parents_ascending = λ c t k. only_up (eqb t (c.tier + 1) && nat_le t n) 0;
  parents_exact = λ c t i k. (parents_in n c t i k, parents_from n c t i);
  moves_few = λ p l. let same = length-range_with_len 1 (min 1 p.tier) in omega arith;
  parents_few = λ c t k. let few = only_few (eqb t (c.tier + 1) && nat_le t n) 0 in omega arith;
  child_tiers_few = λ t. let few = only_few (nat_lt 0 t && nat_le t n) (t - 1) in omega arith;
}

-- the laws of texts hold
pub stairs_readable : (n : ℕ) → n < 2 ^ 32 → IsShown (stairs n) tier_text step_text
stairs_readable n h =
    decimals_readable (stairs n) (λ p. p.tier)
    (λ p l. let (t, i) = stairs_legal_in n p l in omega arith)
    (λ p q l k e. same_position p q e ((stairs_legal_in n p l).1 ∙ sym (stairs_legal_in n q k).1))
    (λ p m l c. let (one, t) = step_in p.tier m c in omega arith)
