use Rattle.gm_pieces.proofs.Lower.{◌≤◌, ◌+◌, ◌++◌, ℕ, length, map, HasSame, next_images, board_game, position_after}
use Rattle.std.specs.List.{Contains}
use Rattle.gm_pieces.specs.MoveGames.{IsMove}
use Rattle.gm_pieces.specs.inner.Marking.{marked}
use Rattle.gm_pieces.proofs.marked.list_marked_results.Given as goal

abbrev pub invariant-loop-number : goal.invariant-loop-number
invariant-loop-number g l =
    let r = g.T.MoveRules.game in
    let b = g.T.MoveRules.cells l.fn.board in
    record {
      moves : (m : ℕ) → Contains (marked l.marks) m → IsMove r b m;
      room : length l.list.items + length (marked l.marks) ≤ 128;
      same : HasSame (next_images (board_game r) b) (l.list.items ++ map (position_after r b) (marked l.marks));
    }

abbrev pub decreases-loop-number : goal.decreases-loop-number
decreases-loop-number g l = length (marked l.marks)
