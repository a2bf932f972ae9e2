use Rattle.gm_engine.proofs.Lower.{◌≡◌, ◌++◌, ℕ, List, map, take, record_with}
use Rattle.gm_engine.proofs.bytes.add_bytes.Given as goal

abbrev pub invariant-loop-index : goal.invariant-loop-index
invariant-loop-index g l = (more : List ℕ) × (l.bytes.items ≡ l.initial.bytes.items ++ more) × (map record_with more ≡ take l.index l.table.records)
