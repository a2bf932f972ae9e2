use Rattle.std.proofs.Common.{arith}
use Rattle.gm_stacks.specs.Heights.{stackings}
use Rattle.gm_stacks.specs.laws.Sums.{down_and_up}
use Rattle.gm_stacks.proofs.counts.with_less.Goals as goal

pub overflow_sub-result : goal.overflow_sub-result
overflow_sub-result c = let e = down_and_up (stackings c.args.height c.args.columns) c.args.first c.args.pieces in omega (arith, e)
