use Rattle.gm_backward.proofs.Lower.{subst, sym, Place}
use Rattle.gm_backward.specs.inner.Tiling.{AreShardsAt}
use Rattle.gm_backward.proofs.tiles.Tiles.run.Goals as goal

pub run_pieces-requires-clause-none : goal.run_pieces-requires-clause-none
run_pieces-requires-clause-none g c κs bounds = c.args.self.none_are

pub run_pieces-requires-clause-here : goal.run_pieces-requires-clause-here
run_pieces-requires-clause-here g c κs bounds = subst (λ (p : Place). AreShardsAt g.G.Game.rules p c.args.self.cuts c.args.self.shards) (sym c.requires.place)
    c.args.self.shards_are
