use Rattle.gm_solver.proofs.Lower.{◌≡◌, ◌≤◌, length, pairs_into}
use Rattle.std.proofs.Common.{drop}
use Rattle.gm_solver.proofs.workplace.Workplace.walk.Given as goal

abbrev pub invariant-loop-note : goal.invariant-loop-note
invariant-loop-note g l = record {
  left : drop l.number (pairs_into g.G.Game.rules g.L.ShardLedger.spot g.L.LevelLedger.notes) ≡ l.note-iterator;
  within : l.number ≤ length (pairs_into g.G.Game.rules g.L.ShardLedger.spot g.L.LevelLedger.notes);
}
