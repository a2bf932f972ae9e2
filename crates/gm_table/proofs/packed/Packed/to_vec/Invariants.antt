use Rattle.gm_table.proofs.Lower.{◌≡◌, take}
use Rattle.gm_table.proofs.packed.Packed.to_vec.Given as goal

abbrev pub invariant-loop-index : goal.invariant-loop-index
invariant-loop-index l = l.records.items ≡ take l.index l.self
