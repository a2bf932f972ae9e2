-- The pictures satisfy the laws of pictures.
use Rattle.std.proofs.Common.{◌≡◌, ℕ, ◌*◌, ◌≤◌, Bool, true, false, eqb, refl, sym, subst, ◌∙◌, inl, inr}
use Rattle.std.proofs.lemmas.Bool.{cases_Bool, cond-true, cond-false}
use Rattle.gm_board.specs.Squares.{cell_text}
use Rattle.gm_pieces.specs.laws.MoveLaws.{move_in}
use Rattle.gm_draw.specs.Points.{square_points, IsPointWord}
use Rattle.gm_draw.specs.Pictured.{IsMoveWord, IsPictured}
use Rattle.gm_draw.specs.laws.Points.{one_point, two_points}
use Rattle.gm_draw.specs.laws.Templates.{is_set, pictured_by}
use Rattle.gm_tactix.specs.Segments.{first_cell, segment_length, is_segment}
use Rattle.gm_tactix.specs.Board.{side_of, counters_at, tactix, tactix_rules}
use Rattle.gm_tactix.specs.TactixPicture.{tactix_board, tactix_picture}
use Rattle.gm_tactix.specs.Texts.{last_cell, segment_text, position_text, move_text}
use Rattle.gm_tactix.specs.laws.SegmentFacts.{for_sides, first_within, last_within}
use Rattle.gm_tactix.specs.laws.MoveFacts.{move_in as segment_in}
use Rattle.gm_tactix.specs.laws.TactixLaws.{board_length, side_low, side_high}
use Rattle.gm_tactix.specs.laws.TextLaws.{text_length, texts_readable}

-- a picture of each side
tactix_set : (s : ℕ) (misere : Bool) → 1 ≤ s → s ≤ 5 → is_set (s * s) (tactix_picture s misere) ≡ true
unfolding tactix_picture tactix_board square_points
tactix_set s false low high = for_sides (λ s. is_set (s * s) (tactix_picture s false) ≡ true) refl refl refl refl refl s low high
tactix_set s true low high = for_sides (λ s. is_set (s * s) (tactix_picture s true) ≡ true) refl refl refl refl refl s low high

segment_words : (s m : ℕ) (misere : Bool) → 1 ≤ s → s ≤ 5 → is_segment s m ≡ true → IsMoveWord (tactix_picture s misere).style (tactix_picture s misere).points
    (segment_text s m)
unfolding segment_text tactix_picture square_points
segment_words s m misere low high e =
    let first = first_within s m e in
    let last = last_within s low high m e in
    elim (cases_Bool (eqb (segment_length m) 1)) [
      | inl f ↦ subst (IsPointWord (square_points s)) (sym (cond-true _ _ _ f)) (one_point (cell_text s) (s * s) (first_cell m) first)
      | inr f ↦ subst (IsPointWord (square_points s)) (sym (cond-false _ _ _ f)) (two_points (cell_text s) (s * s) (first_cell m) (last_cell s m) first last)
    ]

pub tactix_pictured : (n : ℕ) (misere : Bool) → IsPictured (tactix_rules n misere) (position_text n) (move_text n) (tactix_picture (side_of n) misere)
tactix_pictured n misere =
    let s = side_of n in
    let low = side_low n in
    let high = side_high n in
    pictured_by (tactix_rules n misere) (position_text n) (move_text n) (s * s) (tactix_picture s misere) (tactix_set s misere low high)
    (texts_readable n misere)
    (λ p l. text_length (counters_at s p.tier p.index) ∙ board_length s low high p.tier p.index)
    (λ p m l c. segment_words s m misere low high (segment_in s (counters_at s p.tier p.index) m
    (move_in (tactix s misere) (counters_at s p.tier p.index) m c).can).0)
