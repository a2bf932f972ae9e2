-- Whether the cell below each cell of a mask is in the mask too.
use Rattle.std.proofs.Common.{◌≡◌, ℕ, ◌+◌, ◌-◌, ◌*◌, ◌/◌, ◌%◌, ◌^◌, ◌<◌, ◌≤◌, Bool, true, false, not, ◌&&◌, eqb, eqb-true, eq-eqb, w32, refl, sym, ap, ap₂, ◌∙◌, arith, inl, inr}
use Rattle.std.proofs.lemmas.Bool.{cases_Bool, cases_lt, true≢false}
use Rattle.std.proofs.Math.Pow.{pow_mono}
use Rattle.std.proofs.lemmas.Nat.{shr-shr, shr_le, one_shl}
use Rattle.std.proofs.lemmas.Nat.Bits.{bit_at-zero, bit_at_ones, bit_at_ones_above}
use Rattle.std.specs.Int.{bit_not}
use Rattle.std.specs.Prelude.{bit_and, ◌↔◌}
use Rattle.gm_board.specs.Masks.{has_cell}
use Rattle.gm_board.specs.laws.Lists.{and_false, and_true}
use Rattle.gm_board.specs.laws.MaskChanges.{has_and, has_not, has_none}
use Rattle.gm_stacks.specs.Stacks.{IsStacked}

-- the cells below n - w whose cell below is not in the mask
abbrev pub hanging : ℕ → ℕ → ℕ → ℕ
hanging n w taken = bit_and (bit_and taken (bit_not w32 (taken / 2 ^ w))) (2 ^ (n - w) - 1)

-- the cells of a mask moved up
moved : (taken w k : ℕ) → has_cell (taken / 2 ^ w) k ≡ has_cell taken (k + w)
moved taken w k = ap (λ (v : ℕ). eqb (v % 2) 1) (shr-shr taken w k) ∙ ap (has_cell taken) (let z : w + k ≡ k + w = omega arith in z)

module _ (n w taken : ℕ) (few : n ≤ 25) (l : taken < 2 ^ n) where
  hangs : (k : ℕ) → k + w < n → has_cell (hanging n w taken) k ≡ (has_cell taken k && not (has_cell taken (k + w)))
  hangs k i =
      let wide : 2 ^ n ≤ 2 ^ 32 = pow_mono (let z : n ≤ 32 = omega (arith, few) in z) in
      let small = shr_le taken w in
      has_and (bit_and taken (bit_not w32 (taken / 2 ^ w))) (2 ^ (n - w) - 1) k
      ∙ ap₂ (λ (a b : Bool). a && b)
      (has_and taken (bit_not w32 (taken / 2 ^ w)) k
      ∙ ap (λ (b : Bool). has_cell taken k && b) (has_not (taken / 2 ^ w) k (omega (arith, l, wide, small)) (omega (arith, i, few)) ∙ ap not (moved taken w k)))
      (ap (λ (v : ℕ). eqb v 1) (bit_at_ones (n - w) k (omega arith)))
      ∙ and_true (has_cell taken k && not (has_cell taken (k + w)))

  none_past : (k : ℕ) → n ≤ k + w → has_cell (hanging n w taken) k ≡ false
  none_past k i =
      has_and (bit_and taken (bit_not w32 (taken / 2 ^ w))) (2 ^ (n - w) - 1) k
      ∙ ap (λ (v : ℕ). has_cell (bit_and taken (bit_not w32 (taken / 2 ^ w))) k && eqb v 1) (bit_at_ones_above (n - w) k (omega arith))
      ∙ and_false (has_cell (bit_and taken (bit_not w32 (taken / 2 ^ w))) k)

  -- no cell hangs exactly if the cell below each is in the mask
  pub stacked_by : (h : ℕ) → n ≡ h * w → (hanging n w taken ≡ 0) ↔ IsStacked w h (has_cell taken)
  stacked_by h e = (
    λ z k i t. elim (cases_Bool (has_cell taken (k + w))) [
      | inl q ↦ q
      | inr q ↦ absurd (true≢false (sym (hangs k (omega (arith, e, i)) ∙ ap₂ (λ (a b : Bool). a && not b) t q)
          ∙ ap (λ (m : ℕ). has_cell m k) z ∙ ap (λ (v : ℕ). eqb v 1) (bit_at-zero k)))
    ],
    λ s. has_none (hanging n w taken) (λ k. elim (cases_lt (k + w) n) [
      | inl i ↦ hangs k i ∙ fits (has_cell taken k) (has_cell taken (k + w)) (s k (omega (arith, e, i)))
      | inr i ↦ none_past k i
    ]),
  )
    where
      fits : (a b : Bool) → (a ≡ true → b ≡ true) → (a && not b) ≡ false
      fits true b h = ap not (h refl)
      fits false b h = refl

-- the same, as the code tests it
pub standing : (w h taken m : ℕ) → h * w ≤ 25 → taken < 2 ^ (h * w) → m ≡ h * w - w
    → (eqb (bit_and (bit_and taken (bit_not w32 (taken / 2 ^ w))) (1 * 2 ^ m % 2 ^ 32 - 1)) 0 ≡ true) ↔ IsStacked w h (has_cell taken)
standing w h taken m few l e =
    let n = h * w in
    let whole : 1 * 2 ^ m % 2 ^ 32 ≡ 2 ^ m = one_shl m 32 (omega (arith, few, e)) in
    let same : bit_and (bit_and taken (bit_not w32 (taken / 2 ^ w))) (1 * 2 ^ m % 2 ^ 32 - 1) ≡ hanging n w taken =
    ap (λ (v : ℕ). bit_and (bit_and taken (bit_not w32 (taken / 2 ^ w))) (v - 1)) (whole ∙ ap (λ (k : ℕ). 2 ^ k) e) in
    let both = stacked_by n w taken few l h refl in (
      λ t. both.0 (sym same ∙ eqb-true _ _ t),
      λ s. eq-eqb _ _ (same ∙ both.1 s),
    )
