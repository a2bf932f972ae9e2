use Rattle.gm_board.proofs.Lower.{◌≡◌, take}
use Rattle.std.proofs.Common.{◌==◌, bit_and}
use Rattle.std.specs.List.{list_any}
use Rattle.gm_board.proofs.pattern.fills_some.Given as goal

abbrev pub invariant-loop-mask : goal.invariant-loop-mask
invariant-loop-mask l = l.found ≡ list_any (λ mask. bit_and l.cells mask == mask) (take l.mask-index l.masks)
