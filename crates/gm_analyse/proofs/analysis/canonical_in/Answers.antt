use Rattle.gm_analyse.proofs.Lower.{arith}
use Rattle.gm_analyse.specs.Numbers.{has_record}
use Rattle.gm_analyse.proofs.Counting.{count_le}
use Rattle.gm_analyse.proofs.analysis.canonical_in.Goals as goal

pub overflow_add-number : goal.overflow_add-number
overflow_add-number g c = omega (arith, count_le (has_record c.args.table.now.records) c.loop-index.index)
