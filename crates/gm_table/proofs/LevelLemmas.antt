-- The greatest level of the records, and the indexes of those at a place.
use Rattle.gm_table.proofs.Lower.{◌≡◌, ℕ, zero, suc, ◌<◌, ◌+◌, List, [], ◌∷◌, ◌++◌, take, length, get_or, refl, sym, ap, ◌∙◌, subst, arith, false, Option, None, Some, ◌⊎◌, inl, inr, take_more, same_Some, slice_get-get_or, cases_lt, Solved, Phase, record_at, level_in, greatest_of}
use Rattle.std.proofs.Common.{max, is_some}
use Rattle.std.proofs.lemmas.Option.{none-some}
use Rattle.gm_table.specs.Levels.{HasLevel, HasGreatest, later}

-- the record at an index
pub record_read : (os : List (Option Solved)) (i : ℕ) → i < length os → record_at os i ≡ get_or os i None
record_read os i inside = ap (λ (known : Option (Option Solved)). elim known [ None ↦ None | Some o ↦ o ]) (slice_get-get_or os i None inside)

later_none : (a : Option ℕ) → later a None ≡ a
later_none None = refl
later_none (Some m) = refl

later_assoc : (a b c : Option ℕ) → later a (later b c) ≡ later (later a b) c
later_assoc None b c = refl
later_assoc (Some k) None c = refl
later_assoc (Some k) (Some m) None = refl
later_assoc (Some k) (Some m) (Some n) = ap Some (let e : max k (max m n) ≡ max (max k m) n = omega arith in e)

-- one more record at the end
greatest_push : (phase : Phase) (os : List (Option Solved)) (o : Option Solved) → greatest_of phase (os ++ o ∷ []) ≡ later (greatest_of phase os)
    (level_in phase o)
greatest_push phase [] o = later_none (level_in phase o)
greatest_push phase (x ∷ xs) o = ap (later (level_in phase x)) (greatest_push phase xs o) ∙ later_assoc (level_in phase x) (greatest_of phase xs)
    (level_in phase o)

greatest_more : (phase : Phase) (os : List (Option Solved)) (i : ℕ) (d : Option Solved) → i < length os → greatest_of phase (take (i + 1) os) ≡ later
    (greatest_of phase (take i os)) (level_in phase (get_or os i d))
greatest_more phase os i d l = ap (greatest_of phase) (take_more os i d l) ∙ greatest_push phase (take i os) (get_or os i d)

-- the greatest level of one record more
pub greatest_with_one : (phase : Phase) (os : List (Option Solved)) (i : ℕ) (o : Option Solved) (was : Option ℕ) → i < length os → o ≡ record_at os i → was
    ≡ greatest_of phase (take i os)
    → later was (level_in phase o) ≡ greatest_of phase (take (i + 1) os)
greatest_with_one phase os i o was l known e =
    ap (λ (n : Option ℕ). later n (level_in phase o)) e
    ∙ ap (λ (x : Option Solved). later (greatest_of phase (take i os)) (level_in phase x)) (known ∙ record_read os i l)
    ∙ sym (greatest_more phase os i None l)

-- and of no record more
pub greatest_without : (phase : Phase) (os : List (Option Solved)) (i : ℕ) (o : Option Solved) (was : Option ℕ) → i < length os → o ≡ record_at os i →
    is_some o ≡ false → was ≡ greatest_of phase (take i os)
    → was ≡ greatest_of phase (take (i + 1) os)
greatest_without phase os i None was l known none e = sym (later_none was) ∙ greatest_with_one phase os i None was l known e
greatest_without phase os i (Some s) was l known none e = absurd (let z : ⊥ = cc in z)

-- a level of one record and of the others
level_first : (phase : Phase) (o : Option Solved) (os : List (Option Solved)) (n : ℕ) → level_in phase o ≡ Some n → HasLevel phase (o ∷ os) n
level_first phase o os n e = (0, o, refl, e)

level_later : (phase : Phase) (o : Option Solved) (os : List (Option Solved)) (n : ℕ) → HasLevel phase os n → HasLevel phase (o ∷ os) n
level_later phase o os n (i, x, e, h) = (suc i, x, e, h)

level_cases : (phase : Phase) (o : Option Solved) (os : List (Option Solved)) (n : ℕ) → HasLevel phase (o ∷ os) n → (level_in phase o ≡ Some n) ⊎ HasLevel
    phase os n
level_cases phase o os n (zero, x, s, t) = inl (ap (level_in phase) (same_Some o x s) ∙ t)
level_cases phase o os n (suc i, x, s, t) = inr (i, x, s, t)

greatest_with : (phase : Phase) (o : Option Solved) (os : List (Option Solved)) (a b : Option ℕ) → level_in phase o ≡ a → HasGreatest phase os b → HasGreatest
    phase (o ∷ os) (later a b)
greatest_with phase o os None None e h = λ n x. elim (level_cases phase o os n x) [ inl s ↦ none-some n (sym e ∙ s) | inr t ↦ h n t ]
greatest_with phase o os None (Some m) e h = record {
  there = level_later phase o os m h.there;
  greatest = λ n x. elim (level_cases phase o os n x) [ inl s ↦ absurd (none-some n (sym e ∙ s)) | inr t ↦ h.greatest n t ];
}
greatest_with phase o os (Some k) None e h = record {
  there = level_first phase o os k e;
  greatest = λ n x. elim (level_cases phase o os n x) [ inl s ↦ (let q = same_Some k n (sym e ∙ s) in omega arith) | inr t ↦ absurd (h n t) ];
}
greatest_with phase o os (Some k) (Some m) e h = record {
  there = elim (cases_lt k m) [
    | inl l ↦ (let q : m ≡ max k m = omega arith in subst (HasLevel phase (o ∷ os)) q (level_later phase o os m h.there))
    | inr l ↦ (let q : k ≡ max k m = omega arith in subst (HasLevel phase (o ∷ os)) q (level_first phase o os k e))
  ];
  greatest = λ n x. elim (level_cases phase o os n x) [
    | inl s ↦ (let q = same_Some k n (sym e ∙ s) in omega arith)
    | inr t ↦
        (let q = h.greatest n t in omega arith)
  ];
}

greatest_exact : (phase : Phase) (os : List (Option Solved)) → HasGreatest phase os (greatest_of phase os)
greatest_exact phase [] = λ n (i, x, s, t). none-some x s
greatest_exact phase (o ∷ os) = greatest_with phase o os (level_in phase o) (greatest_of phase os) refl (greatest_exact phase os)

pub greatest_is : (phase : Phase) (os : List (Option Solved)) (a : Option ℕ) → a ≡ greatest_of phase os → HasGreatest phase os a
greatest_is phase os a e = subst (HasGreatest phase os) (sym e) (greatest_exact phase os)
