use Rattle.gm_pieces.proofs.Lower.{arith}
use Rattle.gm_pieces.specs.laws.MoveLaws.{holes_further}
use Rattle.gm_pieces.proofs.lists.MoveLists.first_board.Goals as goal

pub loop-index-preserved-then-next-index : goal.loop-index-preserved-then-next-index
loop-index-preserved-then-next-index g c =
    let before = c.loop-index.invariant.low in
    let after = c.skip_holes-next.ensures.low in
    record {
      low = omega arith;
      holes = holes_further g.Self.MoveRules.game c.args.tier c.args.lo c.loop-index.index c.skip_holes-next.result c.loop-index.invariant.holes
          c.skip_holes-next.ensures.holes;
    }
