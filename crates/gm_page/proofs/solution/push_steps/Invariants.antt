use Rattle.gm_page.proofs.Lower.{◌≡◌, true, ◌++◌, drop, AreBest, steps_text}
use Rattle.gm_page.proofs.solution.push_steps.Given as goal

abbrev pub invariant-loop-number : goal.invariant-loop-number
invariant-loop-number g l = record {
  legal : g.G.Game.rules.is_legal l.p ≡ true;
  best : AreBest g.G.Game.rules l.p (drop l.number-index l.moves);
  steps : l.text.items ++ steps_text g.G.Game.rules g.G.Shown.move_shown l.p (drop l.number-index l.moves) ≡ l.fn.text.items ++ steps_text g.G.Game.rules
      g.G.Shown.move_shown l.fn.start l.moves;
}
