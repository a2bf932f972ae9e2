use Rattle.gm_dao.proofs.Lower.{◌≡◌, ◌+◌, ◌-◌, ◌/◌, ◌^◌, ◌≤◌, AreBeforesBelow}
use Rattle.std.specs.Prelude.{◌*◌}
use Rattle.gm_pieces.specs.Common.{board_of}
use Rattle.gm_dao.proofs.parents.put_befores.Given as goal

abbrev pub invariant-loop-rest : goal.invariant-loop-rest
invariant-loop-rest l = record {
  within : l.next ≤ 16;
  is_rest : l.rest ≡ l.came / 2 ^ l.next;
  below : AreBeforesBelow l.fn.tier (board_of 16 l.fn.board.mine l.fn.board.theirs) (16 * l.fn.to + l.next) l.list.items;
}

abbrev pub decreases-loop-rest : goal.decreases-loop-rest
decreases-loop-rest l = 16 - l.next
