use Rattle.gm_table.proofs.Lower.{◌≡◌, map, take, unpacked}
use Rattle.gm_table.proofs.packed.Packed.of.Given as goal

abbrev pub invariant-loop-known : goal.invariant-loop-known
invariant-loop-known l = map unpacked l.numbers ≡ take l.known-index l.records
