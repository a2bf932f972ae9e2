use Rattle.gm_backward.proofs.Lower.{◌≡◌}
use Rattle.gm_backward.proofs.crew.Crew.deliver.Given as goal

abbrev pub invariant-loop-k : goal.invariant-loop-k
invariant-loop-k g l = l.shares.parts ≡ l.fn.shares.parts
