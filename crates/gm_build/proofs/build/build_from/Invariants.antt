use Rattle.gm_build.proofs.Lower.{◌≡◌, IsTrue, take}
use Rattle.gm_build.specs.inner.Steps.{IsAhead}
use Rattle.gm_build.proofs.SoFar.{IsSoFar}
use Rattle.gm_build.proofs.build.build_from.Given as goal

abbrev pub invariant-loop-tier : goal.invariant-loop-tier
invariant-loop-tier g l = record {
  so_far : IsSoFar g.G.Game.rules (IsTrue g.S.Store.KEEPS) (IsTrue g.S.Store.READS) (g.S.Store.texts l.initial.store) (g.S.Store.texts l.store) l.tables
      (take l.tier-index l.tier-items) l.work;
  ahead : IsAhead g.G.Game.rules l.ahead;
  count : g.S.Store.failed l.store ≡ g.S.Store.failed l.initial.store;
}
