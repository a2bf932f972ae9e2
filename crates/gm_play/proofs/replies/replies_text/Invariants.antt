use Rattle.gm_play.proofs.Lower.{take}
use Rattle.gm_play.specs.Replies.{AreInTurn, IsRepliesRow}
use Rattle.gm_play.proofs.replies.replies_text.Given as goal

abbrev pub invariant-loop-x : goal.invariant-loop-x
invariant-loop-x g l = AreInTurn (IsRepliesRow g.G.Game.rules g.G.Shown.shown g.G.Shown.move_shown l.known.position) (take l.x-index l.x-items) l.rows.items
