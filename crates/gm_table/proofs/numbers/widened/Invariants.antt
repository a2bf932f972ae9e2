use Rattle.gm_table.proofs.Lower.{◌≡◌, map, take, wide}
use Rattle.gm_table.proofs.numbers.widened.Given as goal

abbrev pub invariant-loop-short : goal.invariant-loop-short
invariant-loop-short l = l.long.items ≡ map wide (take l.short-index l.short-items)
