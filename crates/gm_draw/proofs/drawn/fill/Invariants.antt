use Rattle.gm_draw.proofs.Lower.{◌≡◌, take}
use Rattle.std.proofs.Common.{map}
use Rattle.gm_draw.specs.Templates.{drawn_byte}
use Rattle.gm_draw.proofs.drawn.fill.Given as goal

abbrev pub invariant-loop-byte : goal.invariant-loop-byte
invariant-loop-byte l = l.drawing.items ≡ map (drawn_byte l.text) (take l.byte-index l.template)
