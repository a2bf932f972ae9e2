-- The table of the segments' masks against the segments.
use Rattle.gm_tactix.proofs.Lower.{◌≡◌, ◌≢◌, ◌+◌, ◌-◌, ◌^◌, ◌<◌, ◌≤◌, ◌&&◌, ℕ, Bool, true, false, eqb, eqb-true, eq-eqb, ltb, ltb-true, get_or, refl, sym, ap, ◌∙◌, arith, list_all, range_with_len, cond-false, and_left, and_right, at_below, for_sides, square_small}
use Rattle.gm_pieces.specs.Common.{not, cond, cond-true, true≢false, pattern_mask}
use Rattle.gm_tactix.specs.declared.masks.TheConstants.{MASKS, STARTS}
use Rattle.gm_tactix.specs.laws.SegmentFacts.{number_below}
use Rattle.std.specs.Prelude.{◌*◌}
use Rattle.std.proofs.lemmas.Bool.{false_from_ne_true, true_from_ne_false}
use Rattle.gm_tactix.specs.Segments.{segment_cells, is_segment}
use Rattle.gm_tactix.specs.inner.SegmentMasks.{segment_mask}

-- what the table says of a number
abbrev place : ℕ → ℕ → ℕ
place s m = get_or STARTS (s - 1) 0 + m

abbrev agrees : ℕ → ℕ → Bool
agrees s m =
    let v = get_or MASKS (place s m) 0 in
    ltb (place s m) 880 && (eqb v (segment_mask s m) && (ltb v (2 ^ (s * s)) && cond (is_segment s m) (not (eqb v 0)) true))

abbrev row_agrees : ℕ → Bool
row_agrees s = list_all (agrees s) (range_with_len 0 (16 * (s * s)))

rows_agree : (s : ℕ) → 1 ≤ s → s ≤ 5 → row_agrees s ≡ true
unfolding segment_mask is_segment segment_cells
rows_agree = for_sides (λ s. row_agrees s ≡ true) refl refl refl refl refl

module _ (s m : ℕ) (low : 1 ≤ s) (high : s ≤ 5) (l : m < 16 * (s * s)) where
  at_number : agrees s m ≡ true
  at_number = at_below (16 * (s * s)) (agrees s) (rows_agree s low high) m l

  -- each number has a place
  pub place_below : get_or STARTS (s - 1) 0 + m < 880
  place_below = ltb-true _ _ (and_left _ _ at_number)

  -- its mask
  pub mask_at : get_or MASKS (get_or STARTS (s - 1) 0 + m) 0 ≡ segment_mask s m
  mask_at = eqb-true _ _ (and_left _ _ (and_right _ _ at_number))

  -- it fits the square
  pub mask_fits : get_or MASKS (get_or STARTS (s - 1) 0 + m) 0 < 2 ^ (s * s)
  mask_fits = ltb-true _ _ (and_left _ _ (and_right _ _ (and_right _ _ at_number)))

  -- that of a segment is not 0
  mask_shown : is_segment s m ≡ true → not (eqb (get_or MASKS (place s m) 0) 0) ≡ true
  mask_shown e =
      let v = get_or MASKS (place s m) 0 in
      let shown = cond (is_segment s m) (not (eqb v 0)) true in
      let rest = ltb v (2 ^ (s * s)) && shown in
      sym (cond-true _ _ _ e)
      ∙ and_right (ltb v (2 ^ (s * s))) shown
      (and_right (eqb v (segment_mask s m)) rest (and_right (ltb (place s m) 880) (eqb v (segment_mask s m) && rest) at_number))

-- the mask of a segment
pub mask_of_segment : (s m : ℕ) → is_segment s m ≡ true → segment_mask s m ≡ pattern_mask (segment_cells s m)
unfolding segment_mask
mask_of_segment s m e = cond-true _ _ _ e

-- and of no segment
pub mask_of_none : (s m : ℕ) → is_segment s m ≡ false → segment_mask s m ≡ 0
unfolding segment_mask
mask_of_none s m e = cond-false _ _ _ e

-- numbers of segments are below 400
pub segment_below : (s m : ℕ) → 1 ≤ s → s ≤ 5 → is_segment s m ≡ true → m < 400
segment_below s m low high e = let l = number_below s m e in let k = square_small s low high in omega (arith, l, k)

-- a number from there on has no mask
pub mask_past : (s m : ℕ) → 1 ≤ s → s ≤ 5 → 16 * (s * s) ≤ m → 0 ≡ segment_mask s m
mask_past s m low high l = sym (mask_of_none s m (false_from_ne_true _ (λ e. let k = number_below s m e in omega (arith, k, l))))

-- a segment has a mask other than 0
pub none_by_mask : (s m v : ℕ) → 1 ≤ s → s ≤ 5 → v ≡ segment_mask s m → v ≡ 0 → is_segment s m ≡ false
none_by_mask s m v low high h z = false_from_ne_true _ (λ e.
    let l = number_below s m e in
    let none : get_or MASKS (place s m) 0 ≡ 0 = mask_at s m low high l ∙ sym h ∙ z in
    true≢false (sym (mask_shown s m low high l e) ∙ ap not (eq-eqb _ _ none)))

-- and no other number has
pub segment_by_mask : (s m v : ℕ) → v ≡ segment_mask s m → v ≢ 0 → is_segment s m ≡ true
segment_by_mask s m v h n = true_from_ne_false _ (λ f. n (h ∙ mask_of_none s m f))
