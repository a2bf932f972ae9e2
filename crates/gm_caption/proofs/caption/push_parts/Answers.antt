use Rattle.std.proofs.Common.{arith, ◌++◌}
use Rattle.gm_caption.specs.Captions.{texts_of, part_text, template_text}
use Rattle.gm_caption.proofs.Parts.{text_all}
use Rattle.gm_caption.proofs.caption.push_parts.Goals as goal

pub returns : goal.returns
returns c =
    let texts = texts_of c.args.labels in
    text_all (part_text texts) c.args.template.now c.loop-at.at c.loop-at.skip c.loop-at.item.items (c.args.item.now.items ++ template_text c.args.template.now texts)
    (omega (arith, c.loop-at-test.false, c.loop-at.auto.at-end)) c.loop-at.invariant
