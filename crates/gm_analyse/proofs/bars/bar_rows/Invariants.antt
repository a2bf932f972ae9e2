use Rattle.gm_analyse.proofs.Lower.{◌≡◌, take, flat_map}
use Rattle.gm_analyse.specs.Bars.{bar_row}
use Rattle.gm_analyse.proofs.bars.bar_rows.Given as goal

abbrev pub invariant-loop-x : goal.invariant-loop-x
invariant-loop-x l = l.rows.items ≡ flat_map (bar_row l.greatest) (take l.x-index l.counts)
