use Rattle.gm_pieces.proofs.Lower.{◌≤◌, move_rules}
use Rattle.std.specs.Prelude.{◌-◌}
use Rattle.gm_game.specs.Rules.{AreHoles}
use Rattle.gm_pieces.proofs.lists.MoveLists.first_board.Given as goal

abbrev pub invariant-loop-index : goal.invariant-loop-index
invariant-loop-index g l = record { low : l.fn.lo ≤ l.index; holes : AreHoles (move_rules g.Self.MoveRules.game) l.fn.tier l.fn.lo l.index }

abbrev pub decreases-loop-index : goal.decreases-loop-index
decreases-loop-index g l = l.end - l.index
