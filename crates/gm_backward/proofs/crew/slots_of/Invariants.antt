use Rattle.gm_backward.proofs.Lower.{◌≡◌, ◌+◌}
use Rattle.std.proofs.Common.{vec_len}
use Rattle.gm_backward.proofs.crew.slots_of.Given as goal

abbrev pub invariant-loop : goal.invariant-loop
invariant-loop g l = (l.rest.parts + l.counter ≡ l.fn.rest.parts) × (vec_len l.slots ≡ l.counter)
