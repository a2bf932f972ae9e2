use Rattle.gm_json.proofs.Lower.{◌≡◌, true, ◌++◌, drop, AreBest, line_of, step_tree, steps_from}
use Rattle.serde_json.specs.Data.{null}
use Rattle.gm_json.proofs.line.line_json.Given as goal

abbrev pub invariant-loop-number : goal.invariant-loop-number
invariant-loop-number g l = record {
  legal : g.G.Game.rules.is_legal l.p ≡ true;
  best : AreBest g.G.Game.rules l.p (drop l.number-index l.number-items);
  lines : l.lines.items ++ steps_from g.G.Game.rules g.G.Shown.shown g.G.Shown.move_shown l.p l.value (drop l.number-index l.number-items)
      ≡ line_of (step_tree g.G.Shown.shown null l.initial.p l.initial.value) ++ steps_from g.G.Game.rules g.G.Shown.shown g.G.Shown.move_shown l.initial.p
      l.initial.value l.number-items;
}
