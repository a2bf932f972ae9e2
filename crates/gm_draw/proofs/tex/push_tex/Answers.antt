use Rattle.gm_draw.proofs.Spreading.{tex_all}
use Rattle.gm_draw.proofs.tex.push_tex.Goals as goal

pub returns : goal.returns
returns c = tex_all c.args.plain.now c.loop-byte.byte-index c.args.text.now.items c.loop-byte.text.items c.loop-byte-test.false c.loop-byte.invariant
