use Rattle.std.proofs.Common.{subst, sym}
use Rattle.gm_game.specs.declared.position.Place.{Place}
use Rattle.gm_backward.specs.inner.Tiling.{AreShardsAt}
use Rattle.tests_build.proofs.solver.piece_boards.at_first_level.Goals as goal

pub on_brands-requires-clause-here : goal.on_brands-requires-clause-here
on_brands-requires-clause-here g c κs bounds =
    rw (c.into_parts-shards.ensures.shards, c.into_parts-shards.ensures.cuts)
    (subst (λ (p : Place). AreShardsAt g.G.Game.rules p c.must-tiles.result.cuts c.must-tiles.result.shards) (sym c.in-Ok.ensures) c.must-tiles.result.shards_are)

pub on_brands-requires-clause-none : goal.on_brands-requires-clause-none
on_brands-requires-clause-none g c κs bounds = rw c.into_parts-shards.ensures.shards c.must-tiles.result.none_are
