use Rattle.gm_draw.proofs.Spreading.{escaped_all}
use Rattle.gm_draw.proofs.markup.push_escaped.Goals as goal

pub returns : goal.returns
returns c = escaped_all c.args.plain.now c.loop-byte.byte-index c.args.text.now.items c.loop-byte.text.items c.loop-byte-test.false c.loop-byte.invariant
