use Rattle.gm_json.proofs.Lower.{◌≡◌, ◌+◌, ◌≤◌, ◌<◌, [], length, IsAnswer, GoesOn}
use Rattle.std.specs.Prelude.{◌^◌}
use Rattle.gm_json.specs.Asking.{block_bytes}
use Rattle.gm_json.specs.inner.Feeds.{ahead}
use Rattle.gm_json.specs.Turns.{answers_after}
use Rattle.gm_json.proofs.ask.serve.Given as goal

abbrev pub invariant-loop-turn : goal.invariant-loop-turn
invariant-loop-turn g l = record {
  block : length l.feed.block.items ≡ block_bytes;
  lines : l.feed.lines ≡ l.fn.feed.lines;
  taken : l.feed.to ≤ l.feed.from;
  few : l.course.before + l.hand.number < 2 ^ 64;
  answers : l.hand.answers.items ≡ [];
  goes : GoesOn (answers_after l.course.turns l.course.before (IsAnswer g.G.Game.rules g.G.Shown.shown g.G.Shown.move_shown l.asked l.tiers)) l.hand.number
      l.hand.line.items (ahead l.fn.feed (g.R.Read.remaining l.fn.input)) (g.R.Read.remaining l.input) (g.W.Write.contents l.fn.output)
      (g.W.Write.contents l.output);
}
