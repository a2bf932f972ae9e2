use Rattle.gm_pieces.proofs.Lower.{◌≡◌, ◌≤◌, ◌+◌, ℕ, [], length, map, board_game, least_index, put_all}
use Rattle.std.specs.List.{Contains}
use Rattle.gm_game.specs.Rules.{IsAscending}
use Rattle.gm_pieces.specs.MoveGames.{befores}
use Rattle.gm_pieces.specs.inner.Marking.{IsLed, marked, index_before}
use Rattle.gm_squares.proofs.befores.put_befores_from_end.Given as goal

abbrev pub invariant-loop-number : goal.invariant-loop-number
invariant-loop-number g l =
    let r = g.T.MoveRules.game in
    let d = g.T.MoveRules.cells l.fn.board in
    record {
      led : (m : ℕ) → Contains (marked l.marks) m → IsLed r l.fn.tier d m;
      up : IsAscending l.list.items;
      room : length l.list.items + length (marked l.marks) ≤ 128;
      same : put_all l.list.items (map (index_before r l.fn.tier d) (marked l.marks)) ≡ put_all [] (map (least_index (board_game r)) (befores r l.fn.tier d));
    }

abbrev pub decreases-loop-number : goal.decreases-loop-number
decreases-loop-number g l = length (marked l.marks)
