use Rattle.gm_toys.proofs.Lower.{◌≡◌}
use Rattle.std.proofs.Common.{◌+◌}
use Rattle.std.specs.List.{range_with_len}
use Rattle.gm_toys.proofs.subtraction.numbers_above.Given as goal

abbrev pub invariant-loop-taken : goal.invariant-loop-taken
invariant-loop-taken l = l.list.items ≡ range_with_len (l.fn.index + 1) l.taken
