use Rattle.gm_analyse.proofs.Lower.{arith}
use Rattle.gm_analyse.specs.Numbers.{is_legal_at}
use Rattle.gm_analyse.proofs.Counting.{count_le}
use Rattle.gm_analyse.proofs.analysis.legal_in.Goals as goal

pub overflow_add-number : goal.overflow_add-number
overflow_add-number g c = omega (arith, count_le (is_legal_at g.G.Game.rules c.args.table.now.tier) c.loop-index.index)
