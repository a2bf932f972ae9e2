use Rattle.gm_pieces.specs.Common.{arith, bit_weight}
use Rattle.gm_dao.proofs.Lower.{slides_by_masks}
use Rattle.gm_dao.proofs.LoopSteps.{passed_more}
use Rattle.gm_dao.proofs.slides.goals.Goals as goal

pub loop-to-preserved : goal.loop-to-preserved
loop-to-preserved c =
    passed_more (slides_by_masks c.args.free c.args.taken c.args.from) c.loop-to.to c.loop-to.goals c.from.result c.can_slide.result c.loop-to-test.true
    c.loop-to.invariant c.can_slide.ensures (grind (arith, bit_weight, c.from.ensures))
