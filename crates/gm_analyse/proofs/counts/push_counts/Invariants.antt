use Rattle.gm_analyse.proofs.Lower.{◌≡◌, ◌++◌, drop, counted}
use Rattle.gm_analyse.proofs.counts.push_counts.Given as goal

abbrev pub invariant-loop-remoteness : goal.invariant-loop-remoteness
invariant-loop-remoteness l = l.counts.items ++ counted l.value l.remoteness (drop l.remoteness l.numbers) ≡ l.initial.counts.items ++ counted l.value 0 l.numbers
