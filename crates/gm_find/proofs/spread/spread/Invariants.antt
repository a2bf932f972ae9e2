use Rattle.gm_find.proofs.Lower.{List, []}
use Rattle.std.proofs.Common.{drop}
use Rattle.gm_find.specs.declared.found.Found.{Found}
use Rattle.gm_find.specs.Spreading.{Spreads}
use Rattle.gm_find.specs.inner.Takings.{AreTaken}
use Rattle.gm_find.proofs.spread.spread.Given as goal

abbrev pub invariant-loop-x : goal.invariant-loop-x
invariant-loop-x g l = AreTaken g.G.Game.rules l.taken × ((zs : List Found)
    → Spreads g.G.Game.rules l.fn.per_move l.fn.limit l.taken.found.items (drop l.x-index l.found) zs
    → Spreads g.G.Game.rules l.fn.per_move l.fn.limit [] l.found zs)
