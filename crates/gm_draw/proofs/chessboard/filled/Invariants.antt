use Rattle.gm_draw.proofs.Lower.{◌≡◌, ◌+◌, ◌≤◌, ◌++◌, drop, length, spread}
use Rattle.gm_draw.specs.Chessboards.{chess_byte}
use Rattle.std.proofs.Common.{◌*◌}
use Rattle.gm_draw.proofs.chessboard.filled.Given as goal

abbrev pub invariant-loop-byte : goal.invariant-loop-byte
invariant-loop-byte l = record {
  done : l.drawing.items ++ spread (chess_byte l.text) l.x l.y (drop l.byte-index l.board) ≡ spread (chess_byte l.text) 40 40 l.board;
  many : length l.drawing.items ≡ l.byte-index;
  right : 40 ≤ l.x;
  near : l.x ≤ 40 + 20 * l.byte-index;
  down : l.y ≤ 40 + 40 * l.byte-index;
}
