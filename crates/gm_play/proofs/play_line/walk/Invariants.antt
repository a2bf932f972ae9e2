use Rattle.gm_play.proofs.Lower.{◌≤◌, Option, drop, IsReached, PlayLine}
use Rattle.std.proofs.Common.{◌*◌}
use Rattle.gm_play.proofs.Playing.{ComesTo}
use Rattle.gm_play.proofs.play_line.walk.Given as goal

abbrev pub invariant-loop-reply : goal.invariant-loop-reply
invariant-loop-reply g l = record {
  on : (o : Option PlayLine) → ComesTo g.G.Game.rules (drop l.reply-index l.replies) l.line o
      → ComesTo g.G.Game.rules l.replies (record { position = l.start.position; side = l.fn.first; moves = 0 }) o;
  reached : IsReached g.G.Game.rules l.start.position.tier l.line.position;
  few : l.line.moves ≤ 2 * l.reply-index;
}
