use Rattle.gm_dao.proofs.Lower.{◌≡◌, ◌-◌, ◌/◌, ◌^◌, ◌≤◌, can_move}
use Rattle.std.specs.Prelude.{◌*◌}
use Rattle.gm_pieces.specs.Common.{board_of, length, filter, range_with_len}
use Rattle.gm_dao.proofs.moves.count_moves.Given as goal

abbrev pub invariant-loop-rest : goal.invariant-loop-rest
invariant-loop-rest l = record {
  within : l.next ≤ 16;
  is_rest : l.rest ≡ l.fn.board.mine / 2 ^ l.next;
  counted : l.count ≡ length (filter (can_move (board_of 16 l.fn.board.mine l.fn.board.theirs)) (range_with_len 0 (16 * l.next)));
  few : l.count ≤ 16 * l.next;
}

abbrev pub decreases-loop-rest : goal.decreases-loop-rest
decreases-loop-rest l = 16 - l.next
