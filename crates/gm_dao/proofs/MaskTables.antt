-- The constant tables of the code against the lists of cells.
use Rattle.gm_dao.proofs.Lower.{◌≡◌, ◌+◌, ◌<◌, ◌&&◌, ◌∷◌, corners}
use Rattle.gm_dao.specs.declared.slides.TheConstants.{PATHS, BEYOND, BEHIND}
use Rattle.gm_dao.specs.declared.formations.TheConstants.{FORMATIONS, CORNERS, NEXT_TO_CORNERS}
use Rattle.std.specs.Prelude.{◌*◌}
use Rattle.gm_pieces.specs.Common.{ℕ, Bool, true, not, cond, eqb, eqb-true, [], map, get_or, refl, sym, ◌∙◌, cond-true, and_left, and_right, pattern_mask, at_below, at_each, agree, agree_same}
use Rattle.gm_dao.specs.DaoRules.{formations, around, in_line, path, beyond}
use Rattle.gm_dao.specs.inner.MaskSlides.{way_mask}

-- the masks of the formations
pub masks_of_formations : map pattern_mask formations ≡ FORMATIONS
unfolding formations
masks_of_formations = refl

-- ---- corners
-- the mask of each of the corners
pub corner_mask : (i : ℕ) → i < 4 → get_or CORNERS i 0 ≡ pattern_mask (get_or corners i 0 ∷ [])
corner_mask i l = eqb-true _ _ (at_below 4 (λ i. eqb (get_or CORNERS i 0) (pattern_mask (get_or corners i 0 ∷ []))) refl i l)

-- and of the cells next to it
pub next_mask : (i : ℕ) → i < 4 → get_or NEXT_TO_CORNERS i 0 ≡ pattern_mask (around (get_or corners i 0))
unfolding around
next_mask i l = eqb-true _ _ (at_below 4 (λ i. eqb (get_or NEXT_TO_CORNERS i 0) (pattern_mask (around (get_or corners i 0)))) refl i l)

-- ---- slides
-- the mask of each way
pub way_is : (a c : ℕ) → a < 16 → c < 16 → get_or PATHS (16 * a + c) 0 ≡ way_mask a c
unfolding way_mask in_line path
way_is a c l k = eqb-true _ _ (at_each 16 16 (λ a c. eqb (get_or PATHS (16 * a + c) 0) (way_mask a c)) refl a c l k)

-- a way has a mask that is not 0
pub line_shown : (a c : ℕ) → a < 16 → c < 16 → not (eqb (way_mask a c) 0) ≡ in_line a c
unfolding way_mask in_line path
line_shown a c l k = sym (agree_same _ _ (at_each 16 16 (λ a c. agree (in_line a c) (not (eqb (way_mask a c) 0))) refl a c l k))

-- the masks of the cells that follow
abbrev line_passes : ℕ → ℕ → Bool
line_passes a c =
    cond (in_line a c) (eqb (get_or BEYOND (16 * a + c) 0) (pattern_mask (beyond a c)) && eqb (get_or BEHIND (16 * a + c) 0) (pattern_mask (beyond c a))) true

lines_pass : (a c : ℕ) → a < 16 → c < 16 → line_passes a c ≡ true
unfolding in_line beyond
lines_pass = at_each 16 16 line_passes refl

pub next_is : (a c : ℕ) → a < 16 → c < 16 → in_line a c ≡ true → get_or BEYOND (16 * a + c) 0 ≡ pattern_mask (beyond a c)
next_is a c l k e = eqb-true _ _ (and_left _ _ (sym (cond-true _ _ _ e) ∙ lines_pass a c l k))

pub behind_is : (c a : ℕ) → c < 16 → a < 16 → in_line c a ≡ true → get_or BEHIND (16 * c + a) 0 ≡ pattern_mask (beyond a c)
behind_is c a l k e = eqb-true _ _ (and_right _ _ (sym (cond-true _ _ _ e) ∙ lines_pass c a l k))

-- between cells in line
pub way_line : (a c : ℕ) → in_line a c ≡ true → way_mask a c ≡ pattern_mask (path a c)
unfolding way_mask
way_line a c e = cond-true _ _ _ e
