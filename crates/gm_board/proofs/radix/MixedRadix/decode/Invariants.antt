use Rattle.gm_board.proofs.RadixSteps.{IsDecoded}
use Rattle.gm_board.proofs.radix.MixedRadix.decode.Given as goal

abbrev pub invariant-loop-k : goal.invariant-loop-k
invariant-loop-k g l = IsDecoded l.self.radices l.number l.k l.rest l.digits
