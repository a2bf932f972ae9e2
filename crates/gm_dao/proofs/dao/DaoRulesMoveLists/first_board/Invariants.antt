use Rattle.gm_dao.proofs.Lower.{◌-◌, ◌≤◌, dao_rules}
use Rattle.gm_pieces.specs.Common.{AreHoles}
use Rattle.gm_dao.proofs.dao.DaoRulesMoveLists.first_board.Given as goal

abbrev pub invariant-loop-index : goal.invariant-loop-index
invariant-loop-index l = record { low : l.fn.lo ≤ l.index; holes : AreHoles dao_rules l.fn.tier l.fn.lo l.index }

abbrev pub decreases-loop-index : goal.decreases-loop-index
decreases-loop-index l = l.end - l.index
