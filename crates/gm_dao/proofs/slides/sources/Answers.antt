use Rattle.gm_pieces.specs.Common.{arith, bit_weight}
use Rattle.gm_dao.proofs.Lower.{came_by_masks}
use Rattle.gm_dao.proofs.LoopSteps.{passed_more}
use Rattle.gm_dao.proofs.slides.sources.Goals as goal

pub loop-from-preserved : goal.loop-from-preserved
loop-from-preserved c =
    passed_more (came_by_masks c.args.free c.args.taken c.args.to) c.loop-from.from c.loop-from.sources c.from.result c.can_have_slid.result
    c.loop-from-test.true c.loop-from.invariant c.can_have_slid.ensures (grind (arith, bit_weight, c.from.ensures))
