use Rattle.gm_pieces.proofs.Lower.{◌≡◌, [], map, range_with_len, put_all, least_index, board_game, edge}
use Rattle.std.specs.List.{filter_map}
use Rattle.gm_pieces.specs.MoveGames.{before_at}
use Rattle.gm_pieces.proofs.moves.put_befores.Given as goal

abbrev pub invariant-loop-place : goal.invariant-loop-place
invariant-loop-place g l =
    let r = g.T.MoveRules.game in
    l.list.items ≡ put_all [] (map (least_index (board_game r)) (filter_map
    (before_at r l.tier (g.T.MoveRules.cells l.board)) (range_with_len 0 (edge l.candidates (r.move_number_bound l.tier) l.place))))
