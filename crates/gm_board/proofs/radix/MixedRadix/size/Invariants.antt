use Rattle.gm_board.proofs.Lower.{◌≡◌, ◌%◌, ◌^◌, drop}
use Rattle.gm_board.specs.inner.Digits.{radix_size}
use Rattle.gm_board.proofs.radix.MixedRadix.size.Given as goal

abbrev pub invariant-loop-k : goal.invariant-loop-k
invariant-loop-k g l = l.size ≡ radix_size (drop l.k l.self.radices) % 2 ^ 64
