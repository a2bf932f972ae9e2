use Rattle.std.proofs.Common.{◌*◌, ◌%◌, ◌^◌}
use Rattle.gm_shard.proofs.Lower.{arith}
use Rattle.std.proofs.lemmas.Nat.{or_lt}
use Rattle.std.specs.Int.{w128}
use Rattle.std.proofs.lemmas.Nat.Bits.{bit_at_set_same, bit_at_set_other}
use Rattle.gm_shard.proofs.bits.with_bit.Goals as goal

pub returns-clause-same : goal.returns-clause-same
returns-clause-same c = bit_at_set_same w128 c.args.mask c.args.k c.requires

pub returns-clause-other : goal.returns-clause-other
returns-clause-other c j ne = bit_at_set_other w128 c.args.mask c.args.k c.requires j ne

pub returns-clause-fits : goal.returns-clause-fits
returns-clause-fits c = or_lt 128 c.args.mask (1 * 2 ^ c.args.k % 2 ^ 128) (omega arith) (omega arith)
