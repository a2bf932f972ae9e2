use Rattle.gm_backward.proofs.Lower.{◌≡◌}
use Rattle.gm_backward.proofs.crew.Crew.walk.Given as goal

abbrev pub invariant-loop-turn : goal.invariant-loop-turn
invariant-loop-turn g l = l.shares.parts ≡ l.fn.shares.parts
