use Rattle.gm_draw.proofs.Lower.{◌≡◌, ◌++◌, take, flat_map}
use Rattle.gm_draw.specs.Tikz.{tex_byte}
use Rattle.gm_draw.proofs.tex.push_tex.Given as goal

abbrev pub invariant-loop-byte : goal.invariant-loop-byte
invariant-loop-byte l = l.text.items ≡ l.initial.text.items ++ flat_map tex_byte (take l.byte-index l.plain)
