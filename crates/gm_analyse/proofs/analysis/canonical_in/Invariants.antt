use Rattle.gm_analyse.proofs.Lower.{◌≡◌, count_where}
use Rattle.gm_analyse.specs.Numbers.{has_record}
use Rattle.gm_analyse.proofs.analysis.canonical_in.Given as goal

abbrev pub invariant-loop-index : goal.invariant-loop-index
invariant-loop-index g l = l.number ≡ count_where (has_record l.table.records) l.index
