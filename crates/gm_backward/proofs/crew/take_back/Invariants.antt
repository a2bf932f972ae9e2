use Rattle.gm_backward.proofs.Lower.{◌≡◌, ◌+◌}
use Rattle.std.proofs.Common.{vec_len}
use Rattle.gm_backward.proofs.crew.take_back.Given as goal

abbrev pub invariant-loop-slot : goal.invariant-loop-slot
invariant-loop-slot g l = l.rest.parts + vec_len l.slots ≡ l.fn.rest.parts + vec_len l.fn.slots

abbrev pub decreases-loop-slot : goal.decreases-loop-slot
decreases-loop-slot g l = vec_len l.slots
