use Rattle.gm_toys.proofs.Lower.{◌≡◌}
use Rattle.std.specs.List.{range_with_len}
use Rattle.gm_toys.proofs.subtraction.moves_down.Given as goal

abbrev pub invariant-loop-taken : goal.invariant-loop-taken
invariant-loop-taken l = l.list.items ≡ range_with_len 1 l.taken
