use Rattle.gm_play.proofs.Lower.{◌≤◌, SESSION_BYTES, Advice, IsRightAdvice}
use Rattle.gm_play.proofs.Talk.{GoesOn}
use Rattle.gm_play.proofs.session.converse.Given as goal

abbrev pub invariant-loop-count : goal.invariant-loop-count
invariant-loop-count g l = record {
  few : l.count ≤ SESSION_BYTES;
  talk : (k : Advice) → IsRightAdvice g.G.Game.rules l.start.position.tier k
      → GoesOn g.G.Game.rules g.G.Shown.shown g.G.Shown.move_shown k g.V.View.seen l.start.position l.fn.first l.count (g.R.Read.remaining l.fn.input)
      (g.R.Read.remaining l.input) (g.W.Write.contents l.fn.output) (g.W.Write.contents l.output) l.asked.position l.line.items;
}
