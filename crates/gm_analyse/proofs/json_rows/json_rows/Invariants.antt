use Rattle.gm_analyse.proofs.Lower.{◌≡◌, take, flat_map}
use Rattle.gm_analyse.specs.Bars.{json_row}
use Rattle.gm_analyse.proofs.json_rows.json_rows.Given as goal

abbrev pub invariant-loop-x : goal.invariant-loop-x
invariant-loop-x l = l.rows.items ≡ flat_map json_row (take l.x-index l.counts)
