use Rattle.gm_json.proofs.Lower.{take}
use Rattle.gm_play.specs.Replies.{AreInTurn}
use Rattle.gm_json.specs.RepliesLines.{IsRepliesLine}
use Rattle.gm_json.proofs.replies.replies_json.Given as goal

abbrev pub invariant-loop-x : goal.invariant-loop-x
invariant-loop-x g l = AreInTurn (IsRepliesLine g.G.Game.rules g.G.Shown.shown g.G.Shown.move_shown l.known.position) (take l.x-index l.x-items) l.lines.items
