use Rattle.gm_squares.specs.laws.HoundFacts.{IsPassed}
use Rattle.gm_squares.proofs.hounds.fox_at.Given as goal

abbrev pub invariant-loop-rest : goal.invariant-loop-rest
invariant-loop-rest l = IsPassed l.hounds l.number l.rest l.fox

abbrev pub decreases-loop-rest : goal.decreases-loop-rest
decreases-loop-rest l = l.rest
