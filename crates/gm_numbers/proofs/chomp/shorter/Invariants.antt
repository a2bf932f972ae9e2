use Rattle.std.proofs.Common.{◌≡◌}
use Rattle.std.specs.List.{range_with_len}
use Rattle.gm_numbers.proofs.chomp.shorter.Given as goal

abbrev pub invariant-loop-less : goal.invariant-loop-less
invariant-loop-less l = l.list.items ≡ range_with_len 0 l.less
