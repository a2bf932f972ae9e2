use Rattle.gm_counters.proofs.Lower.{◌≡◌, map, take, first_left}
use Rattle.gm_counters.proofs.deliveries.first_counters.Given as goal

abbrev pub invariant-loop-start : goal.invariant-loop-start
invariant-loop-start l = l.left.items ≡ map first_left (take l.start-index l.starts)
