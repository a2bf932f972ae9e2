use Rattle.gm_find.proofs.Lower.{take}
use Rattle.gm_find.specs.inner.Takings.{IsOneMore}
use Rattle.gm_find.proofs.spread.take.Given as goal

abbrev pub invariant-loop-q : goal.invariant-loop-q
invariant-loop-q l = IsOneMore l.fn.x (take l.q-index l.along) l.fn.taken l.taken
