use Rattle.gamesman.proofs.Lower.{◌≡◌, take, flat_map, game_spec, board_row}
use Rattle.gamesman.proofs.found.board_rows.Given as goal

abbrev pub invariant-loop-x : goal.invariant-loop-x
invariant-loop-x g l =
    l.rows.items ≡ flat_map (board_row (game_spec g.G.Game.rules g.G.Shown.shown g.G.Shown.move_shown g.G.Pictured.picture)) (take l.x-index l.found)
