use Rattle.gm_play.proofs.Lower.{◌-◌, length}
use Rattle.gm_play.specs.BestLines.{AreFresh}
use Rattle.gm_play.proofs.Walking.{IsOnWay}
use Rattle.gm_play.proofs.best_line.follow.Given as goal

abbrev pub invariant-loop-here : goal.invariant-loop-here
invariant-loop-here g l =
    IsOnWay g.G.Game.rules l.start.position l.limit l.moves.items l.positions.items l.here.position
    × AreFresh l.positions.items

abbrev pub decreases-loop-here : goal.decreases-loop-here
decreases-loop-here g l = l.limit - length l.moves.items
