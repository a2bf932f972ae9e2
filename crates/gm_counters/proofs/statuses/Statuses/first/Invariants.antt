use Rattle.gm_counters.proofs.Lower.{◌≡◌, map, take, first_status, status_numbered}
use Rattle.gm_counters.proofs.statuses.Statuses.first.Given as goal

abbrev pub invariant-loop-start : goal.invariant-loop-start
invariant-loop-start l = map status_numbered l.numbers.items ≡ map first_status (take l.start-index l.starts)
