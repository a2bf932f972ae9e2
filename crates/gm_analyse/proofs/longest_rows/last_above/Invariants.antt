use Rattle.gm_analyse.proofs.Lower.{IsLastAbove}
use Rattle.gm_analyse.proofs.longest_rows.last_above.Given as goal

abbrev pub invariant-loop-place : goal.invariant-loop-place
invariant-loop-place l = IsLastAbove l.numbers l.place l.last
