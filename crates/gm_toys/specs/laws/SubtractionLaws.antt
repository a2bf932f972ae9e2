-- Subtraction games have the laws of a game, and their texts can be read back.
use Rattle.std.proofs.Common.{◌≡◌, ℕ, zero, suc, ◌+◌, ◌-◌, ◌<◌, ◌≤◌, ◌^◌, inl, min, true, false, eqb, if◌then◌else◌, List, [], ◌∷◌, ◌++◌, length, refl, None, arith, sym, ap, subst, ◌∙◌}
use Rattle.gm_toys.specs.Lower.{nat_tests, common_steps, length-range_with_len, get_or-range_with_len, Contains, range_with_len, decimal, Position, MOVES, NAME, IsGame, IsShown, IsPaddedText, Rules, at, children, IsAscending, IsCanonical, IsCanonicalChild, IsParent, map_in, map_from, plain_decimal, same_position}
use Rattle.std.proofs.lemmas.Fmt.{length-decimal-le, decimal_injective}
use Rattle.gm_toys.specs.Subtraction.{moves_down, numbers_above, subtraction, number_text, step_text}

-- the numbers of a range
pub range_in : (a n x : ℕ) → Contains (range_with_len a n) x → (a ≤ x) × (x < a + n)
range_in a n x (k, l, e) =
    let same = length-range_with_len a n in
    let value = get_or-range_with_len a n k x (omega arith) in
    (omega arith, omega arith)

pub range_from : (a n x : ℕ) → a ≤ x → x < a + n → Contains (range_with_len a n) x
range_from a n x l h =
    let same = length-range_with_len a n in
    let value = get_or-range_with_len a n (x - a) x (omega arith) in
    (x - a, omega arith, omega arith)

pub range_push : (a n : ℕ) → range_with_len a (n + 1) ≡ range_with_len a n ++ (a + n) ∷ []
range_push a zero = let e : a ≡ a + 0 = omega arith in ap (λ (x : ℕ). x ∷ []) e
range_push a (suc n) =
    let e : suc n + 1 ≡ suc (n + 1) = omega arith in
    let f : a + 1 + n ≡ a + suc n = omega arith in
    rw e (ap (λ (xs : List ℕ). a ∷ xs) (range_push (a + 1) n ∙ ap (λ (x : ℕ). range_with_len (a + 1) n ++ x ∷ []) f))

pub range_length : (xs : List ℕ) (a n : ℕ) → xs ≡ range_with_len a n → length xs ≡ n
range_length xs a n e = ap (λ (ys : List ℕ). length ys) e ∙ length-range_with_len a n

pub range_ascending : (a n : ℕ) → IsAscending (range_with_len a n)
range_ascending a zero = tt
range_ascending a (suc zero) = tt
range_ascending a (suc (suc n)) = (omega arith, range_ascending (a + 1) (suc n))

-- what holds for a legal position
pub legal_in : (name : List ℕ) (most n : ℕ) (p : Position) → (subtraction name most n).is_legal p ≡ true → (p.tier ≡ 0) × (p.index ≤ n)
legal_in name most n p l = (grind (arith, nat_tests), grind (arith, nat_tests))

pub legal_from : (name : List ℕ) (most n t i : ℕ) → t ≡ 0 → i ≤ n → (subtraction name most n).is_legal (at t i) ≡ true
legal_from name most n t i e l = grind (arith, nat_tests)

unended_in : (name : List ℕ) (most n : ℕ) (p : Position) → (subtraction name most n).primitive p ≡ None → 0 < p.index
unended_in name most n p e = grind (arith, nat_tests)

unended_from : (name : List ℕ) (most n t i : ℕ) → 0 < i → (subtraction name most n).primitive (at t i) ≡ None
unended_from name most n t i l = grind (arith, nat_tests)

pub no_moves : (most i : ℕ) → i ≡ 0 → moves_down most i ≡ []
no_moves most i e = ap (range_with_len 1) (let z : min most i ≡ 0 = omega arith in z)

pub some_moves : (most i : ℕ) → 0 < most → 0 < i → moves_down most i ≡ [] → ⊥
some_moves most i p q e = let l = length-range_with_len 1 (min most i) in let z = ap (λ (xs : List ℕ). length xs) e in omega arith

-- only tier 0 has parents
own_tier : (name : List ℕ) (most n : ℕ) (c : Position) (t j : ℕ) → Contains ((subtraction name most n).parents c t) j → t ≡ 0
own_tier name most n c t j h = grind (arith, nat_tests, common_steps)

few_above : (name : List ℕ) (most n : ℕ) (c : Position) (t : ℕ) → length ((subtraction name most n).parents c t) ≤ most
few_above name most n c t = let l = length-range_with_len (c.index + 1) (min most (n - c.index)) in grind (arith, nat_tests)

up_above : (name : List ℕ) (most n : ℕ) (c : Position) (t : ℕ) → IsAscending ((subtraction name most n).parents c t)
up_above name most n c t =
    elim (eqb t 0) as (λ b. IsAscending (if b then numbers_above most n c.index else []))
    [ true ↦ range_ascending (c.index + 1) (min most (n - c.index)) | false ↦ tt ]

-- a canonical child comes from a move
pub child_in : (r : Rules) (p c : Position) → IsCanonicalChild r p c → (m : ℕ) × Contains (r.moves p) m × (r.canonical (r.play p m) ≡ c)
child_in r p c h =
    let (d, k, e) = map_in r.canonical (children r p) c h in
    let (m, j, f) = map_in (r.play p) (r.moves p) d k in
    (m, j, ap r.canonical f ∙ e)

pub child_from : (r : Rules) (p : Position) (m : ℕ) → Contains (r.moves p) m → IsCanonicalChild r p (r.canonical (r.play p m))
child_from r p m k = map_from r.canonical (children r p) (r.play p m) (map_from (r.play p) (r.moves p) m k)

parents_in : (name : List ℕ) (most n : ℕ) (c : Position) (t i : ℕ) → IsCanonical (subtraction name most n) c → Contains
    ((subtraction name most n).parents c t) i → IsParent (subtraction name most n) c t i
parents_in name most n c t i k h =
    let r = subtraction name most n in
    let z : t ≡ 0 = own_tier name most n c t i h in
    let (low, high) = range_in (c.index + 1) (min most (n - c.index)) i (subst (λ (u : ℕ). Contains (r.parents c u) i) z h) in
    let (ct, cl) = legal_in name most n c k.0 in
    let away : i - (i - c.index) ≡ c.index = omega arith in
    let back : at t (i - (i - c.index)) ≡ c = same_position (at t (i - (i - c.index))) c (z ∙ sym ct) away in (
      record { legal = legal_from name most n t i z (omega arith); canonical = refl; unended = unended_from name most n t i (omega arith) },
      subst (IsCanonicalChild r (at t i)) back (child_from r (at t i) (i - c.index) (range_from 1 (min most i) (i - c.index) (omega arith) (omega arith))),
    )

parents_from : (name : List ℕ) (most n : ℕ) (c : Position) (t i : ℕ) → IsParent (subtraction name most n) c t i → Contains
    ((subtraction name most n).parents c t) i
parents_from name most n c t i (inner, child) =
    let r = subtraction name most n in
    let (z, le) = legal_in name most n (at t i) inner.legal in
    let (m, k, e) = child_in r (at t i) c child in
    let (low, high) = range_in 1 (min most i) m k in
    let index : i - m ≡ c.index = ap (λ (p : Position). p.index) e in
    subst (λ (u : ℕ). Contains (r.parents c u) i) (sym z) (range_from (c.index + 1) (min most (n - c.index)) i (omega arith) (omega arith))

-- the laws of a game hold
pub subtraction_lawful : (name : List ℕ) (most n : ℕ) → length name ≡ NAME → IsPaddedText name → 0 < most → most ≤ MOVES → n < 2 ^ 32 → IsGame
    (subtraction name most n)
subtraction_lawful name most n long text some few h = record {
  name_length = long;
  name_text = text;
  moves_ascending = λ p l. range_ascending 1 (min most p.index);
  ended = λ p l e. no_moves most p.index (grind (arith, nat_tests));
  unended = λ p l e. some_moves most p.index some (unended_in name most n p e);
  initial_legal = grind (arith, nat_tests);
  index_below = λ p l. grind (arith, nat_tests);
  tier_fits = λ p l. grind (arith, nat_tests);
  size_fits = λ p l. grind (arith, nat_tests);
  move_fits = λ p m l c. let (low, high) = range_in 1 (min most p.index) m c in omega arith;
  play_legal = λ p m l c. let (t, le) = legal_in name most n p l in legal_from name most n p.tier (p.index - m) t (omega arith);
  play_tier = λ p m l c. inl refl;
  child_rank = λ t u c. grind (arith, common_steps);
  child_tiers_ascending = λ t. tt;
  canonical_twice = λ p l. refl;
  canonical_tier = λ p l. refl;
  canonical_legal = λ p l. l;
  canonical_primitive = λ p l. refl;
  canonical_children = λ p c l. (λ x. x, λ x. x);
  parents_ascending = λ c t k. up_above name most n c t;
  parents_exact = λ c t i k. (parents_in name most n c t i k, parents_from name most n c t i);
  moves_few = λ p l. let same = length-range_with_len 1 (min most p.index) in omega arith;
  parents_few = λ c t k. let le = few_above name most n c t in omega arith;
  child_tiers_few = λ t. omega arith;
}

-- texts that are the decimals of numbers are readable where the number of a position tells the position
pub decimals_readable : (r : Rules) (f : Position → ℕ) → ((p : Position) → r.is_legal p ≡ true → f p < 2 ^ 32)
    → ((p q : Position) → r.is_legal p ≡ true → r.is_legal q ≡ true → f p ≡ f q → p ≡ q)
    → ((p : Position) (m : ℕ) → r.is_legal p ≡ true → Contains (r.moves p) m → m < 2 ^ 32) → IsShown r (λ p. decimal (f p)) (λ p m. decimal m)
decimals_readable r f small once few = record {
  shown_plain = λ p l. let h = small p l in plain_decimal (f p) (omega arith);
  shown_fits = λ p l. let h = small p l in let d = length-decimal-le 10 (f p) (omega arith) (omega arith) (omega arith) in omega arith;
  shown_once = λ p q l k e. let h = small p l in let i = small q k in once p q l k (decimal_injective (f p) (f q) (omega arith) (omega arith) e);
  move_shown_plain = λ p m l c. let h = few p m l c in plain_decimal m (omega arith);
  move_shown_fits = λ p m l c. let h = few p m l c in let d = length-decimal-le 10 m (omega arith) (omega arith) (omega arith) in omega arith;
  move_shown_once = λ p m k l c d e. let h = few p m l c in let i = few p k l d in decimal_injective m k (omega arith) (omega arith) e;
}

pub subtraction_readable : (name : List ℕ) (most n : ℕ) → n < 2 ^ 32 → IsShown (subtraction name most n) number_text step_text
subtraction_readable name most n h =
    decimals_readable (subtraction name most n) (λ p. p.index)
    (λ p l. let (t, le) = legal_in name most n p l in omega arith)
    (λ p q l k e. same_position p q ((legal_in name most n p l).0 ∙ sym (legal_in name most n q k).0) e)
    (λ p m l c. let (t, le) = legal_in name most n p l in let (low, high) = range_in 1 (min most p.index) m c in omega arith)
