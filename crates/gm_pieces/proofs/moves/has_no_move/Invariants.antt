use Rattle.gm_pieces.proofs.Lower.{◌≡◌, [], filter, range_with_len, edge}
use Rattle.gm_pieces.proofs.moves.has_no_move.Given as goal

abbrev pub invariant-loop-place : goal.invariant-loop-place
invariant-loop-place g l =
    let r = g.T.MoveRules.game in
    let b = g.T.MoveRules.cells l.board in
    filter (r.can_move b) (range_with_len 0 (edge l.candidates (r.move_number_bound (r.tier b)) l.place)) ≡ []
