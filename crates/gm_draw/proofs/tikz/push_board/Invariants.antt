use Rattle.gm_draw.proofs.Lower.{◌≡◌, ◌+◌, ◌≤◌, ◌++◌, drop, spread}
use Rattle.gm_draw.specs.Tikz.{tikz_part}
use Rattle.std.proofs.Common.{◌*◌}
use Rattle.gm_draw.proofs.tikz.push_board.Given as goal

abbrev pub invariant-loop-byte : goal.invariant-loop-byte
invariant-loop-byte l = record {
  done : l.text.items ++ spread (tikz_part l.style l.men) l.x l.y (drop l.byte-index l.board) ≡ l.initial.text.items ++ spread (tikz_part l.style l.men) 40 40 l.board;
  right : 40 ≤ l.x;
  near : l.x ≤ 40 + 20 * l.byte-index;
  down : 40 ≤ l.y;
  close : l.y ≤ 40 + 40 * l.byte-index;
}
