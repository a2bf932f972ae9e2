use Rattle.gm_draw.proofs.Lower.{List, ℕ, ◌++◌, ap, sym, ◌∙◌, arith, spread}
use Rattle.gm_draw.specs.Chessboards.{chess_byte}
use Rattle.gm_draw.proofs.Spreading.{spread_next, spread_all}
use Rattle.gm_draw.proofs.chessboard.filled.Goals as goal

pub loop-byte-preserved : goal.loop-byte-preserved
loop-byte-preserved c = record {
  done = spread_next (chess_byte c.args.text.now) c.args.board.now c.loop-byte.byte-index c.loop-byte.x c.loop-byte.y c.next_x-x.result
      c.next_y-y.result c.loop-byte.drawing.items c.push.new.self.items (spread (chess_byte c.args.text.now) 40 40 c.args.board.now) c.loop-byte-test.true
      c.loop-byte.invariant.done
      (c.push.ensures.items ∙ ap (λ (t : List ℕ). c.loop-byte.drawing.items ++ t) (sym c.byte_for.ensures)) c.next_x-x.ensures.value c.next_y-y.ensures.value;
  many = omega (arith, c.push.ensures.len, c.loop-byte.invariant.many);
  right = omega arith;
  near = omega arith;
  down = omega arith;
}

pub returns : goal.returns
returns c =
    spread_all (chess_byte c.args.text.now) c.args.board.now c.loop-byte.byte-index c.loop-byte.x c.loop-byte.y c.loop-byte.drawing.items
    (spread (chess_byte c.args.text.now) 40 40 c.args.board.now) c.loop-byte-test.false c.loop-byte.invariant.done
