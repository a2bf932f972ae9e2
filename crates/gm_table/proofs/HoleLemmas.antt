-- What indexes without a record leave unchanged.
use Rattle.gm_table.specs.declared.number.TheConstants.{STEP}
use Rattle.gm_table.proofs.Lower.{◌≡◌, ℕ, zero, suc, ◌+◌, ◌/◌, ◌<◌, ◌≤◌, List, [], ◌∷◌, Option, None, map, take, length, slice_get, IfSome, refl, sym, ap, ◌∙◌, arith, inl, inr, eq-eqb, cases_lt, Solved, Phase, record_at, wide, unpacked, indexes_at, greatest_of, Bool, true, replicate, subst, ◌++◌, ◌-◌, take_all}
use Rattle.std.proofs.Common.{eqb, length-append, drop}
use Rattle.std.proofs.lemmas.List.{length-drop}
use Rattle.std.specs.List.{starts_with}
use Rattle.std.proofs.lemmas.Slice.Eq.{starts_is}
use Rattle.std.proofs.lemmas.Bool.Decides.{Decides-eqb}
use Rattle.gm_table.proofs.LevelLemmas.{greatest_without}
use Rattle.gm_table.proofs.RunLemmas.{indexes_with}

-- a short form of no record is that of a number of no record
pub wide_holes : (shorts : List ℕ) (k : ℕ) → IfSome (slice_get shorts k) (λ short. short < 32) → IfSome (slice_get (map wide shorts) k) (λ number. number < STEP)
wide_holes [] k h = h
wide_holes (x ∷ xs) zero h = omega arith
wide_holes (x ∷ xs) (suc k) h = wide_holes xs k h

-- zeros that a list begins with are no records
first_zeros : (n k : ℕ) (rest : List ℕ) → k < n → IfSome (slice_get (replicate n 0 ++ rest) k) (λ short. short < 32)
first_zeros zero k rest h = elim h [ ]
first_zeros (suc n) zero rest h = omega arith
first_zeros (suc n) (suc k) rest h = first_zeros n k rest (omega arith)

-- what is no record from an index on
from_index : (shorts : List ℕ) (i k j : ℕ) → i ≤ k → j ≡ k - i → IfSome (slice_get (drop i shorts) j) (λ short. short < 32)
    → IfSome (slice_get shorts k) (λ short. short < 32)
from_index shorts zero k j low e h =
    let same : j ≡ k = omega arith in
    subst (λ (n : ℕ). IfSome (slice_get shorts n) (λ short. short < 32)) same h
from_index [] (suc i) k j low e h = h
from_index (x ∷ xs) (suc i) zero j low e h = elim low [ ]
from_index (x ∷ xs) (suc i) (suc k) j low e h = from_index xs i k j (omega arith) (omega arith) h

-- where a list goes on with eight zeros from an index on, these are no records
pub eight_holes : (shorts : List ℕ) (i : ℕ) (zeros : Bool) → i ≤ length shorts → zeros ≡ starts_with eqb (take (length shorts - i) (drop i shorts)) (replicate 8 0) → zeros ≡ true
    → (i + 8 ≤ length shorts) × ((k : ℕ) → i ≤ k → k < i + 8 → IfSome (slice_get shorts k) (λ short. short < 32))
eight_holes shorts i zeros inside is true_ =
    let all = take_all (length shorts - i) (drop i shorts) (omega (arith, length-drop i shorts)) in
    let zeros_first = sym all ∙ (starts_is Decides-eqb (take (length shorts - i) (drop i shorts)) (replicate 8 0) zeros is).0 true_ in
    let rest = drop 8 (take (length shorts - i) (drop i shorts)) in (
      omega (arith, ap length zeros_first, length-append (replicate 8 0) rest, length-drop i shorts),
      λ k low high. from_index shorts i k (k - i) low refl
          (subst (λ (l : List ℕ). IfSome (slice_get l (k - i)) (λ short. short < 32)) (sym zeros_first) (first_zeros 8 (k - i) rest (omega arith))),
    )

-- a number of no record
pub unpacked_holes : (numbers : List ℕ) (k : ℕ) → IfSome (slice_get numbers k) (λ number. number < STEP) → record_at (map unpacked numbers) k ≡ None
unpacked_holes [] k h = refl
unpacked_holes (n ∷ ns) zero h = rw (eq-eqb (n / STEP) 0 (omega arith)) refl
unpacked_holes (n ∷ ns) (suc k) h = unpacked_holes ns k h

-- all indexes from one up to another have no record
abbrev pub AreHoles : List (Option Solved) → ℕ → ℕ → Type 0
AreHoles os from to = (k : ℕ) → from ≤ k → k < to → record_at os k ≡ None

-- what the first records have, if another index without a record doesn't change it
over_holes : (A : Type 0) (f : List (Option Solved) → A) (os : List (Option Solved)) → ((i : ℕ) → i < length os → record_at os i ≡ None → f (take (i + 1) os) ≡ f (take i os))
    → (from to : ℕ) → from ≤ to → to ≤ length os → AreHoles os from to → f (take to os) ≡ f (take from os)
over_holes A f os same from zero order inside holes =
    let e : zero ≡ from = omega arith in
    ap (λ (n : ℕ). f (take n os)) e
over_holes A f os same from (suc to) order inside holes =
    elim (cases_lt from (suc to)) [
      | inl l ↦ (
          let e : suc to ≡ to + 1 = omega arith in
          ap (λ (n : ℕ). f (take n os)) e ∙ same to (omega arith) (holes to (omega arith) (omega arith))
          ∙ over_holes A f os same from to (omega arith) (omega arith) (λ k low high. holes k low (omega arith)))
      | inr m ↦ (let e : suc to ≡ from = omega arith in ap (λ (n : ℕ). f (take n os)) e)
    ]

-- no index without a record is at a place
pub indexes_over : (phase : Phase) (n : ℕ) (os : List (Option Solved)) (from to : ℕ) → from ≤ to → to ≤ length os → AreHoles os from to
    → indexes_at phase n (take from os) ≡ indexes_at phase n (take to os)
indexes_over phase n os from to order inside holes =
    sym (over_holes (List ℕ) (indexes_at phase n) os
    (λ i l none. sym (indexes_with phase n i os None (indexes_at phase n (take i os)) l (sym none) refl)) from to order inside holes)

-- nor has it a level
pub greatest_over : (phase : Phase) (os : List (Option Solved)) (from to : ℕ) → from ≤ to → to ≤ length os → AreHoles os from to
    → greatest_of phase (take from os) ≡ greatest_of phase (take to os)
greatest_over phase os from to order inside holes =
    sym (over_holes (Option ℕ) (greatest_of phase) os
    (λ i l none. sym (greatest_without phase os i None (greatest_of phase (take i os)) l (sym none) refl refl)) from to order inside holes)
