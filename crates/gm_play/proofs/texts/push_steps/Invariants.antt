use Rattle.gm_play.proofs.Lower.{◌≡◌, ◌++◌, drop, AreBest, rows_from}
use Rattle.gm_play.proofs.texts.push_steps.Given as goal

abbrev pub invariant-loop-number : goal.invariant-loop-number
invariant-loop-number g l = record {
  best : AreBest g.G.Game.rules l.here.position (drop l.number-index l.moves);
  rows : l.rows.items ++ rows_from g.G.Game.rules g.G.Shown.shown g.G.Shown.move_shown l.here.position l.value (drop l.number-index l.moves)
      ≡ l.fn.rows.items ++ rows_from g.G.Game.rules g.G.Shown.shown g.G.Shown.move_shown l.start.position l.fn.value l.moves;
}
