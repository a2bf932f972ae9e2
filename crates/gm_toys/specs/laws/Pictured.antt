-- The pictures satisfy the laws of pictures.
use Rattle.std.proofs.Common.{ℕ, ◌+◌, min, List, refl, arith}
use Rattle.gm_toys.specs.Lower.{decimal, IsPictured, one_point, AreNumbers, AreRowed, rowed, row_pictured}
use Rattle.std.specs.Fmt.{digits}
use Rattle.gm_draw.specs.Points.{number_points}
use Rattle.gm_toys.specs.Subtraction.{subtraction, number_text, step_text}
use Rattle.gm_toys.specs.Countdown.{countdown, countdown_name}
use Rattle.gm_toys.specs.Takeaway.{takeaway, takeaway_name}
use Rattle.gm_toys.specs.Wheel.{wheel, target_text}
use Rattle.gm_toys.specs.Pictures.{countdown_picture, takeaway_picture, wheel_picture}
use Rattle.gm_toys.specs.laws.SubtractionLaws.{legal_in, legal_from, range_in}
use Rattle.gm_toys.specs.laws.WheelLaws.{wheel_legal_in, wheel_legal_from, target_in}

-- ---- Countdown and Takeaway
subtraction_rowed : (name : List ℕ) (most n : ℕ) → AreRowed (subtraction name most n) (n + 1)
subtraction_rowed name most n =
    rowed (subtraction name most n) (n + 1) (λ p l. let (t, i) = legal_in name most n p l in (t, omega arith))
    (λ k l. legal_from name most n 0 k refl (omega arith))

countdown_words : AreNumbers (countdown 10) step_text 11
countdown_words p m l c = let (low, high) = range_in 1 (min 2 p.index) m c in one_point decimal 11 m (omega arith)

takeaway_words : AreNumbers takeaway step_text 13
takeaway_words p m l c = let (low, high) = range_in 1 (min 3 p.index) m c in one_point decimal 13 m (omega arith)

pub countdown_pictured : IsPictured (countdown 10) number_text step_text countdown_picture
unfolding countdown_picture number_points digits
countdown_pictured = row_pictured (countdown 10) step_text 11 countdown_picture refl refl (subtraction_rowed countdown_name 2 10) refl countdown_words

pub takeaway_pictured : IsPictured takeaway number_text step_text takeaway_picture
unfolding takeaway_picture number_points digits
takeaway_pictured = row_pictured takeaway step_text 13 takeaway_picture refl refl (subtraction_rowed takeaway_name 3 12) refl takeaway_words

-- ---- Wheel
wheel_words : AreNumbers wheel target_text 10
wheel_words p m l c = one_point decimal 10 m (target_in p.index (wheel_legal_in p l).1 m c).0

pub wheel_pictured : IsPictured wheel number_text target_text wheel_picture
unfolding wheel_picture number_points digits
wheel_pictured = row_pictured wheel target_text 10 wheel_picture refl refl (rowed wheel 10 wheel_legal_in (λ k l. wheel_legal_from 0 k refl l)) refl wheel_words
