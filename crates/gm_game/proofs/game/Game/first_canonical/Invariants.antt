use Rattle.gm_game.specs.Rules.{AreHoles}
use Rattle.gm_game.proofs.game.Game.first_canonical.Given as goal

abbrev pub invariant-loop-index : goal.invariant-loop-index
invariant-loop-index g l = AreHoles g.Self.Game.rules l.fn.tier l.fn.lo l.index
