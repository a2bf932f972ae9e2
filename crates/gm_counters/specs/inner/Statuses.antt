-- Statuses as numbers of 32 bits.
use Rattle.std.specs.Prelude.{ℕ, ◌==◌, if◌then◌else◌, None, Some}
use Rattle.gm_game.specs.Records.{from_end}
use Rattle.gm_counters.specs.declared.status.Start.{Start}
use Rattle.gm_counters.specs.declared.status.Start.TheVariants.{Ended, Inner, Hole as NoStart}
use Rattle.gm_table.specs.Packed.{unpacked}
use Rattle.gm_table.specs.RecordCodes.{record_number}
use Rattle.gm_table.specs.declared.version.Version.TheVariants.{Two}
use Rattle.gm_counters.specs.declared.status.Status.{Status}
use Rattle.gm_counters.specs.declared.status.Status.TheVariants.{Hole, Undecided, Settled}

-- the status with this number: 1 is that of an undecided index, and any other is that of its record
abbrev pub status_numbered : ℕ → Status
status_numbered number = if number == 1 then Undecided else elim (unpacked number) [ None ↦ Hole | Some x ↦ Settled x ]

-- the number of the status with which an index begins
abbrev pub first_number : Start → ℕ
first_number NoStart = 0
first_number (Ended e) = record_number Two (Some (from_end e))
first_number (Inner children) = 1
