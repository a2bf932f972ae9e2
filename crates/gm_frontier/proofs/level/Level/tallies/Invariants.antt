use Rattle.gm_frontier.proofs.AllTallies.{AreFirst}
use Rattle.gm_frontier.proofs.level.Level.tallies.Given as goal

abbrev pub invariant-loop-piece : goal.invariant-loop-piece
invariant-loop-piece g l = AreFirst l.self l.n l.width l.piece l.tallies.items
