use Rattle.gm_pieces.specs.Common.{arith}
use Rattle.gm_dao.proofs.LesserSteps.{lesser_holes}
use Rattle.gm_dao.proofs.dao.DaoRulesMoveLists.first_board.Goals as goal

pub loop-index-preserved-then-next-index : goal.loop-index-preserved-then-next-index
loop-index-preserved-then-next-index c =
    let size = c.tier_size.ensures in
    let end = c.min-end.ensures in
    let below = c.loop-index-test.true in
    let before = c.loop-index.invariant.low in
    let after = c.skip_lesser-next.ensures.low in
    record {
      low = omega arith;
      holes = lesser_holes c.args.tier c.args.lo c.loop-index.index c.skip_lesser-next.result (omega arith) c.skip_lesser-next.ensures.high
          c.skip_lesser-next.ensures.lesser c.loop-index.invariant.holes;
    }
