use Rattle.gm_pieces.proofs.Lower.{◌≡◌, map, take, position_after}
use Rattle.gm_pieces.proofs.moves.list_results.Given as goal

abbrev pub invariant-loop-m : goal.invariant-loop-m
invariant-loop-m g l = l.list.items ≡ map (position_after g.T.MoveRules.game (g.T.MoveRules.cells l.board)) (take l.m-index l.moves)
