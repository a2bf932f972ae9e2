use Rattle.std.proofs.Common.{rules}
use Rattle.gm_solver.proofs.Lower.{◌≡◌}
use Rattle.gm_solver.proofs.board.Board.deliver_at.Goals.{in-0, in-1, in-2, in_default}
use Rattle.gm_solver.proofs.board.Board.deliver_at.Goals as goal

pub returns-clause-refusals : goal.returns-clause-refusals
returns-clause-refusals g c = elim c.match-shard.branch [
  | in-0 w ↦ rw (w.in-0.is, w.result-is) w.deliver_at.ensures.refusals
  | in-1 w ↦ rw (w.in-1.is, w.result-is) w.deliver_at-in-1.ensures.refusals
  | in-2 w ↦ rw (w.in-2.is, w.result-is) w.deliver_at-in-2.ensures.refusals
  | in_default w ↦ (let last : c.args.shard ≡ 3 = search rules in rw (last, w.result-is) w.deliver_at-in_default.ensures.refusals)
]
