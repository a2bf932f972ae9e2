use Rattle.gm_json.proofs.Lower.{take}
use Rattle.gm_json.specs.Whys.{AreReplyLines}
use Rattle.gm_json.proofs.why.why_json.Given as goal

abbrev pub invariant-loop-x : goal.invariant-loop-x
invariant-loop-x g l = AreReplyLines g.G.Game.rules g.G.Shown.shown g.G.Shown.move_shown l.known.position (take l.x-index l.x-items) l.lines.items
