use Rattle.gamesman.specs.Listed.{AreAllFilled}
use Rattle.gamesman.proofs.sheet.fill_all.Given as goal

abbrev pub invariant-loop-k : goal.invariant-loop-k
invariant-loop-k g l = AreAllFilled l.look l.list l.k l.parts
