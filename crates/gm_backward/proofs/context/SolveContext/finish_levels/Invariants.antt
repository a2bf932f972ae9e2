use Rattle.gm_backward.proofs.Lower.{◌+◌, ◌-◌, REMOTENESS, place_of}
use Rattle.gm_backward.specs.inner.Tiling.{IsLaterPlace}
use Rattle.gm_backward.proofs.context.SolveContext.finish_levels.Given as goal

abbrev pub invariant-loop-tiles : goal.invariant-loop-tiles
invariant-loop-tiles g l = IsLaterPlace (place_of l.fn.tiles.shards.a) (place_of l.tiles.shards.a)

abbrev pub decreases-loop-tiles : goal.decreases-loop-tiles
decreases-loop-tiles g l = REMOTENESS + 2 - l.tiles.shards.a.level
