use Rattle.gm_solver.proofs.Lower.{subst, sym, Place}
use Rattle.gm_backward.specs.inner.Tiling.{AreShardsAt}
use Rattle.gm_solver.proofs.passes.run_level.Goals as goal

pub run_passes-requires-clause-none : goal.run_passes-requires-clause-none
run_passes-requires-clause-none g c κs bounds = rw c.into_parts-shards.ensures.shards c.args.tiles.none_are

pub run_passes-requires-clause-here : goal.run_passes-requires-clause-here
run_passes-requires-clause-here g c κs bounds =
    rw (c.into_parts-shards.ensures.shards, c.into_parts-shards.ensures.cuts)
    (subst (λ (p : Place). AreShardsAt g.G.Game.rules p c.args.tiles.cuts c.args.tiles.shards) (sym c.requires.place) c.args.tiles.shards_are)
