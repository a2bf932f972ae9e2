use Rattle.gm_json.proofs.Lower.{◌≡◌, ℕ, List, Option, ◌+◌, ◌≤◌, drop, Consumes, IsAnswer, GoesOn, Midst}
use Rattle.gm_json.specs.Turns.{answers_after}
use Rattle.gm_json.proofs.ask.answer_block.Given as goal

abbrev pub invariant-loop-index : goal.invariant-loop-index
invariant-loop-index g l = record {
  from : l.from ≡ l.index;
  number : l.hand.number + l.fn.from ≤ l.fn.hand.number + l.index;
  goes : (r0 r1 r2 w0 : Option (List ℕ)) → GoesOn (answers_after l.course.turns l.course.before (IsAnswer g.G.Game.rules g.G.Shown.shown g.G.Shown.move_shown l.asked l.tiers)) l.fn.hand.number
      l.fn.hand.line.items r0 r1 w0 (g.W.Write.contents l.fn.output) → Consumes r1 r2 (drop l.fn.from l.block)
      → Midst (answers_after l.course.turns l.course.before (IsAnswer g.G.Game.rules g.G.Shown.shown g.G.Shown.move_shown l.asked l.tiers)) l.hand.number l.hand.line.items l.hand.answers.items
      (drop l.index l.block) r0 r2 w0 (g.W.Write.contents l.output);
}
