-- The places of a mask that are tested one after another, the lowest first: what is left to test, and what has been marked.
use Rattle.std.specs.Prelude.{◌≡◌, ◌≢◌, ◌*◌, ◌%◌, ◌^◌, ◌<◌, ◌≤◌, ◌&&◌}
use Rattle.std.specs.Int.{w64}
use Rattle.std.proofs.lemmas.Bool.{le-ltb}
use Rattle.std.proofs.lemmas.Nat.Bits.{bit_at_set_same, bit_at_set_other, bit_at_clear_same, bit_at_clear_other, bit_at-trailing_zeros}
use Rattle.gm_board.specs.laws.NextCells.{cell_one, cell_none}
use Rattle.gm_pieces.specs.Common.{ℕ, Bool, true, false, not, eqb, ltb, ltb-true, length, sym, ap, ap₂, ◌∙◌, arith, inl, inr, cases_Bool, cases_eq, cases_lt, false_from_ne_true, and_left, and_right, bit_and, bit_or, bit_not, trailing_zeros, bit_at-zero, bit_at_above, has_cell}
use Rattle.gm_pieces.specs.declared.candidates.Run.{Run}
use Rattle.gm_pieces.specs.inner.Marking.{places}
use Rattle.gm_pieces.specs.inner.Tried.{run_at}
use Rattle.gm_pieces.specs.laws.MarkFacts.{places_split}
use Rattle.gm_squares.specs.laws.PawnMarks.{IsTested}
use Rattle.gm_squares.specs.laws.PawnReach.{IsAmong}

-- whether a run has a place, and the number there passes
abbrev pub passes_at : (ℕ → Bool) → Run → ℕ → Bool
passes_at p r k = ltb k r.count && p (run_at r k)

-- the places that pass are marked, but those that are left
abbrev pub AreMarkedBut : (ℕ → Bool) → Run → ℕ → ℕ → Type 0
AreMarkedBut p r left marks = (k : ℕ) → k < 64 → has_cell marks k ≡ (not (has_cell left k) && passes_at p r k)

module _ (p : ℕ → Bool) (r : Run) where
  pub none_marked : (among : ℕ) → IsAmong p r among → AreMarkedBut p r among 0
  none_marked among h k l =
      cell_none 0 k (bit_at-zero k) ∙ sym (elim (cases_Bool (has_cell among k)) [
        | inl e ↦ ap (λ (x : Bool). not x && passes_at p r k) e
        | inr e ↦ ap (λ (x : Bool). not x && passes_at p r k) e
            ∙ false_from_ne_true (passes_at p r k) (λ t. (let z : false ≡ true = sym e ∙ h k (ltb-true _ _ (and_left _ _ t)) (and_right (ltb k r.count) _ t) in cc))
      ])

  module _ (left marks : ℕ) (some : left ≢ 0) (fits : left < 2 ^ 64) (h : AreMarkedBut p r left marks) where
    abbrev first : ℕ
    first = trailing_zeros w64 left

    abbrev rest : ℕ
    rest = bit_and left (bit_not w64 (1 * 2 ^ first % 2 ^ 64))

    low : (first < 64) × (has_cell left first ≡ true)
    low = let z = bit_at-trailing_zeros w64 left (omega (arith, some)) fits in (z.0, cell_one left first z.1)

    cleared : has_cell rest first ≡ false
    cleared = cell_none rest first (bit_at_clear_same w64 left first low.0)

    kept : (k : ℕ) → k < 64 → k ≢ first → has_cell rest k ≡ has_cell left k
    kept k l n = ap (λ (v : ℕ). eqb v 1) (bit_at_clear_other w64 left first low.0 k l n)

    pub one_marked : passes_at p r first ≡ true → AreMarkedBut p r rest (bit_or marks (1 * 2 ^ first % 2 ^ 64))
    one_marked e k l = elim (cases_eq k first) [
      | inl q ↦ ap (has_cell (bit_or marks (1 * 2 ^ first % 2 ^ 64))) q
          ∙ cell_one (bit_or marks (1 * 2 ^ first % 2 ^ 64)) first (bit_at_set_same w64 marks first low.0)
          ∙ sym (ap (λ (j : ℕ). not (has_cell rest j) && passes_at p r j) q ∙ ap₂ (λ (x y : Bool). not x && y) cleared e)
      | inr q ↦ ap (λ (v : ℕ). eqb v 1) (bit_at_set_other w64 marks first low.0 k q) ∙ h k l
          ∙ ap (λ (x : Bool). not x && passes_at p r k) (sym (kept k l q))
    ]

    pub none_more : passes_at p r first ≡ false → AreMarkedBut p r rest marks
    none_more e k l = elim (cases_eq k first) [
      | inl q ↦ ap (has_cell marks) q ∙ h first low.0 ∙ ap (λ (x : Bool). not x && passes_at p r first) low.1
          ∙ sym (ap (λ (j : ℕ). not (has_cell rest j) && passes_at p r j) q ∙ ap₂ (λ (x y : Bool). not x && y) cleared e)
      | inr q ↦ h k l ∙ ap (λ (x : Bool). not x && passes_at p r k) (sym (kept k l q))
    ]

    pub one_fewer : length (places rest) < length (places left)
    one_fewer = let z = ap (λ (ks : _). length ks) (places_split left (omega (arith, some)) fits) in omega (arith, z)

  pub all_marked : (left marks : ℕ) → left ≡ 0 → r.count ≤ 64 → marks < 2 ^ r.count → AreMarkedBut p r left marks → IsTested p r r.count marks
  all_marked left marks none few within h k = elim (cases_lt k 64) [
    | inl l ↦ h k l ∙ ap (λ (x : Bool). not x && passes_at p r k) (ap (λ (v : ℕ). has_cell v k) none ∙ cell_none 0 k (bit_at-zero k))
    | inr l ↦ cell_none marks k (bit_at_above marks r.count k within (omega (arith, l, few)))
        ∙ sym (ap (λ (x : Bool). x && p (run_at r k)) (le-ltb k r.count (omega (arith, l, few))))
  ]
