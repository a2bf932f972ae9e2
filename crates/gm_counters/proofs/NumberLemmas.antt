-- Statuses as numbers.
use Rattle.gm_counters.proofs.Lower.{◌≡◌, ℕ, ◌+◌, ◌-◌, ◌<◌, ◌≤◌, Bool, true, List, ◌++◌, length, map, replicate, get_or, refl, sym, ap, subst, ◌∙◌, arith, inl, inr, Some, cases_lt, length-map, slice_get, slice_get-get_or, get_or-replicate, get_or_append_left, slice_range, Status, Hole, status_numbered, Start, first_status}
use Rattle.std.proofs.Common.{drop, eqb, option_map}
use Rattle.std.proofs.lemmas.List.{get_or-drop, get_or-take}
use Rattle.std.proofs.lemmas.Bool.Decides.{Decides-eqb}
use Rattle.gm_counters.specs.inner.Statuses.{first_number}
use Rattle.gm_counters.specs.declared.status.Start.TheVariants.{Ended, Inner, Hole as NoStart}
use Rattle.gm_game.specs.declared.position.End.TheVariants.{Lose, Tie, Win}
use Rattle.std.specs.List.{starts_with}
use Rattle.std.proofs.lemmas.Option.{slice_get-map}
use Rattle.std.proofs.lemmas.Slice.Eq.{starts_is}

-- the numbers with which indexes begin are those of their statuses
pub first_numbered : (x : Start) → status_numbered (first_number x) ≡ first_status x
first_numbered NoStart = refl
first_numbered (Ended Lose) = refl
first_numbered (Ended Tie) = refl
first_numbered (Ended Win) = refl
first_numbered (Inner n) = refl

-- the numbers from one place up to another are those of holes
abbrev pub AreZeros : List ℕ → ℕ → ℕ → Type 0
AreZeros numbers from to = (k : ℕ) → from ≤ k → k < to → get_or numbers k 0 ≡ 0

-- eight more
pub eight_more : (numbers : List ℕ) (from to : ℕ) (r : Bool) → r ≡ starts_with eqb (slice_range numbers to (length numbers)) (replicate 8 0) → r ≡ true
    → to + 8 ≤ length numbers → AreZeros numbers from to → AreZeros numbers from (to + 8)
eight_more numbers from to r is same inside old k low high = elim (cases_lt k to) [
  | inl l ↦ old k low l
  | inr n ↦ (
      let part : List ℕ = slice_range numbers to (length numbers) in
      let eight : List ℕ = replicate 8 0 in
      let starts : part ≡ eight ++ drop (length eight) part = (starts_is Decides-eqb part eight r is).0 same in
      let many : length eight ≡ 8 = refl in
      let place : k ≡ to + (k - to) = omega arith in
      ap (λ (j : ℕ). get_or numbers j 0) place ∙ sym (get_or-drop to numbers (k - to) 0)
      ∙ sym (get_or-take (length numbers - to) (drop to numbers) (k - to) 0 (omega arith))
      ∙ ap (λ (xs : List ℕ). get_or xs (k - to) 0) starts ∙ get_or_append_left eight (drop (length eight) part) 0 (k - to) (omega arith)
      ∙ get_or-replicate 8 (k - to) 0 0 (omega arith))
]

-- one more
pub zero_more : (numbers : List ℕ) (from to : ℕ) → get_or numbers to 0 ≡ 0 → AreZeros numbers from to → AreZeros numbers from (to + 1)
zero_more numbers from to is old k low high = elim (cases_lt k to) [
  | inl l ↦ old k low l
  | inr n ↦ (let e : to ≡ k = omega arith in subst (λ (j : ℕ). get_or numbers j 0 ≡ 0) e is)
]

-- their statuses are holes
pub zeros_are_holes : (numbers : List ℕ) (statuses : List Status) (from to k : ℕ) → map status_numbered numbers ≡ statuses → to ≤ length numbers
    → AreZeros numbers from to → from ≤ k → k < to → slice_get statuses k ≡ Some Hole
zeros_are_holes numbers statuses from to k same inside zeros low high =
    ap (λ (s : List Status). slice_get s k) (sym same) ∙ slice_get-map status_numbered numbers k
    ∙ ap (option_map status_numbered) (slice_get-get_or numbers k 0 (omega arith) ∙ ap (λ (n : ℕ). Some n) (zeros k low high))

-- there are as many numbers as statuses
pub in_numbers : (numbers : List ℕ) (statuses : List Status) (n k : ℕ) → map status_numbered numbers ≡ statuses → n ≡ length numbers → k < length statuses → k <
    n
in_numbers numbers statuses n k same many within = let e = length-map numbers status_numbered in let l = ap (λ (xs : List Status). length xs) same in omega
    arith
