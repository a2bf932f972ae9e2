use Rattle.std.proofs.Common.{arith}
use Rattle.gm_caption.proofs.Parts.{allowed_all}
use Rattle.gm_caption.proofs.template.is_template.Goals as goal

pub returns : goal.returns
returns c =
    allowed_all c.args.text.now c.loop-at.at c.loop-at.skip (omega (arith, c.loop-at-test.false, c.loop-at.auto.at-end)) c.loop-at.invariant
