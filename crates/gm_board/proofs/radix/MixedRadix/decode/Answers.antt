use Rattle.gm_board.proofs.Lower.{◌≡◌, ◌-◌, length, arith}
use Rattle.std.proofs.Common.{rules}
use Rattle.gm_board.proofs.RadixSteps.{decoded_more}
use Rattle.gm_board.proofs.radix.MixedRadix.decode.Goals as goal

pub loop-k-preserved : goal.loop-k-preserved
loop-k-preserved g c =
    let e : length c.args.self.now.radices ≡ g.row.K = search rules in
    decoded_more c.args.self.now.radices c.args.number c.loop-k.k (c.loop-k.k - 1) c.loop-k.rest c.loop-k.digits (omega arith) (omega arith) c.loop-k.invariant
