use Rattle.gm_analyse.proofs.Lower.{AreCountsBefore}
use Rattle.gm_analyse.proofs.Lists.{Num}
use Rattle.gm_analyse.proofs.counts.counts_of.Given as goal

abbrev pub invariant-loop-value : goal.invariant-loop-value
invariant-loop-value g l = AreCountsBefore (Num l.table.records) l.value-index 0 l.counts.items
