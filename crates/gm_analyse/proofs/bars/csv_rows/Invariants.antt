use Rattle.gm_analyse.proofs.Lower.{◌≡◌, ◌++◌, take, flat_map}
use Rattle.gm_analyse.specs.Bars.{csv_row}
use Rattle.gm_analyse.proofs.bars.csv_rows.Given as goal

abbrev pub invariant-loop-x : goal.invariant-loop-x
invariant-loop-x l = l.rows.items ≡ l.initial.rows.items ++ flat_map csv_row (take l.x-index l.counts)
