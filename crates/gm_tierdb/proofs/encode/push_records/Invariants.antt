use Rattle.gm_tierdb.proofs.Lower.{◌≡◌, ◌≤◌, ◌-◌, ◌++◌, length, take, flat_map, record_bytes}
use Rattle.gm_tierdb.proofs.encode.push_records.Given as goal

abbrev pub invariant-loop-index : goal.invariant-loop-index
invariant-loop-index g l = (l.index ≤ length l.table.records) × (l.file.items ≡ l.initial.file.items ++ flat_map (record_bytes l.version) (take l.index l.table.records))

abbrev pub decreases-loop-index : goal.decreases-loop-index
decreases-loop-index g l = length l.table.records - l.index
