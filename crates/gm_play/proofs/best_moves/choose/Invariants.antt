use Rattle.gm_play.proofs.Lower.{take, IsChoice}
use Rattle.gm_play.proofs.best_moves.choose.Given as goal

abbrev pub invariant-loop-number : goal.invariant-loop-number
invariant-loop-number g l = IsChoice g.G.Game.rules l.p l.value (take l.number-index l.number-items) l.best
