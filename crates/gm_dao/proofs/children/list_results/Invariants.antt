use Rattle.gm_dao.proofs.Lower.{◌≡◌, dao}
use Rattle.gm_pieces.specs.Common.{map, take, board_of, position_after}
use Rattle.gm_dao.proofs.children.list_results.Given as goal

abbrev pub invariant-loop-m : goal.invariant-loop-m
invariant-loop-m l = l.list.items ≡ map (position_after dao (board_of 16 l.fn.board.mine l.fn.board.theirs)) (take l.m-index l.m-items)
