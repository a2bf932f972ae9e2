use Rattle.gm_tierdb.proofs.Lower.{◌≡◌, ◌++◌, ◌-◌, All, length, flat_map, width, record_bytes, IsStorable}
use Rattle.std.proofs.Common.{◌*◌}
use Rattle.gm_tierdb.proofs.records.read_records.Given as goal

abbrev pub invariant-loop-index : goal.invariant-loop-index
invariant-loop-index l =
    (l.bytes ≡ flat_map (record_bytes l.version) l.records ++ l.rest) × All (IsStorable l.version) l.records × (length l.records ≡ l.index)
    × (length l.rest ≡ width l.version * (l.size - l.index))
