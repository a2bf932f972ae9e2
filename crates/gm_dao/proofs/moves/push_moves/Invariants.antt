use Rattle.gm_dao.proofs.Lower.{◌≡◌, ◌+◌, ◌-◌, ◌/◌, ◌^◌, ◌≤◌, AreMovesBelow}
use Rattle.std.specs.Prelude.{◌*◌}
use Rattle.gm_pieces.specs.Common.{board_of}
use Rattle.gm_dao.proofs.moves.push_moves.Given as goal

abbrev pub invariant-loop-rest : goal.invariant-loop-rest
invariant-loop-rest l = record {
  within : l.next ≤ 16;
  is_rest : l.rest ≡ l.reached / 2 ^ l.next;
  below : AreMovesBelow (board_of 16 l.fn.board.mine l.fn.board.theirs) (16 * l.fn.from + l.next) l.list.items;
}

abbrev pub decreases-loop-rest : goal.decreases-loop-rest
decreases-loop-rest l = 16 - l.next
