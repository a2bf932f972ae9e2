use Rattle.gm_frontier.proofs.Lower.{◌≡◌, ◌++◌, take, flat_map, AreRuns, joined}
use Rattle.gm_frontier.proofs.part.push_runs.Given as goal

abbrev pub invariant-loop-run : goal.invariant-loop-run
invariant-loop-run g l = record {
  notes : joined l.parts.items ≡ joined l.fn.parts.items ++ flat_map (λ run. run.notes) (take l.run-index l.runs);
  whole : AreRuns g.G.Game.rules (take l.run-index l.runs);
}
