use Rattle.gm_play.proofs.Lower.{take}
use Rattle.gm_play.specs.Why.{AreExchangeRows}
use Rattle.gm_play.proofs.why.why_text.Given as goal

abbrev pub invariant-loop-x : goal.invariant-loop-x
invariant-loop-x g l = AreExchangeRows g.G.Game.rules g.G.Shown.shown g.G.Shown.move_shown l.known.position (take l.x-index l.x-items) l.rows.items
