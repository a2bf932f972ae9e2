use Rattle.gm_draw.proofs.Lower.{◌++◌, arith, spread}
use Rattle.gm_draw.specs.Tikz.{tikz_part}
use Rattle.gm_draw.proofs.Spreading.{spread_next, spread_all}
use Rattle.gm_draw.proofs.tikz.push_board.Goals as goal

pub loop-byte-preserved : goal.loop-byte-preserved
loop-byte-preserved c = record {
  done = spread_next (tikz_part c.args.style c.args.men) c.args.board.now c.loop-byte.byte-index c.loop-byte.x c.loop-byte.y c.next_x-x.result c.next_y-y.result
      c.loop-byte.text.items c.push_part.new.text.items
      (c.args.text.now.items ++ spread (tikz_part c.args.style c.args.men) 40 40 c.args.board.now) c.loop-byte-test.true c.loop-byte.invariant.done
      c.in_ok-push_part.ensures c.next_x-x.ensures.value c.next_y-y.ensures.value;
  right = omega arith;
  near = omega arith;
  down = omega arith;
  close = omega arith;
}

pub returns : goal.returns
returns c =
    spread_all (tikz_part c.args.style c.args.men) c.args.board.now c.loop-byte.byte-index c.loop-byte.x c.loop-byte.y c.loop-byte.text.items
    (c.args.text.now.items ++ spread (tikz_part c.args.style c.args.men) 40 40 c.args.board.now)
    c.loop-byte-test.false c.loop-byte.invariant.done
