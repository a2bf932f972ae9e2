use Rattle.gm_board.proofs.Lower.{◌≡◌, take}
use Rattle.gm_board.specs.inner.Digits.{digits_number}
use Rattle.gm_board.proofs.radix.MixedRadix.encode.Given as goal

abbrev pub invariant-loop-k : goal.invariant-loop-k
invariant-loop-k g l = l.number ≡ digits_number (take l.k l.self.radices) (take l.k l.digits)
