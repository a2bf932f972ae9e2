use Rattle.gm_toys.proofs.Lower.{sym, refl, arith, at, same_position}
use Rattle.gm_toys.specs.Wheel.{wheel}
use Rattle.gm_toys.specs.laws.WheelLaws.{wheel_legal_in, wheel_legal_from}
use Rattle.gm_toys.proofs.Reading.{position_read}
use Rattle.gm_toys.proofs.wheel.WheelShown.read.Goals as goal

pub returns : goal.returns
returns c p =
    position_read wheel (λ p. p.index) (at 0) 9 c.args.text.now c.read_number.result c.in_ok-index.index c.read_number.ensures c.in_ok-index.was
    (λ k l. (wheel_legal_from 0 k refl (omega arith), refl))
    (λ q l. let (t, le) = wheel_legal_in q l in (omega arith, same_position (at 0 q.index) q (sym t) refl)) p
