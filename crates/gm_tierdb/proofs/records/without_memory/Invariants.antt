use Rattle.gm_tierdb.proofs.Lower.{◌≡◌, ◌++◌, ◌-◌, All, length, List, Option, flat_map, Solved, width, record_bytes, IsStorable}
use Rattle.std.proofs.Common.{◌*◌}
use Rattle.gm_tierdb.proofs.records.without_memory.Given as goal

abbrev pub invariant-loop-index : goal.invariant-loop-index
invariant-loop-index l =
    (front : List (Option Solved)) × (l.bytes ≡ flat_map (record_bytes l.version) front ++ l.rest) × All (IsStorable l.version) front
    × (length front ≡ l.index) × (length l.rest ≡ width l.version * (l.size - l.index))
