-- Numbers of records and their short forms.
use Rattle.std.specs.Prelude.{ℕ, ◌+◌, ◌*◌, ◌/◌, ◌%◌, ◌<◌, List, map}
use Rattle.gm_table.specs.declared.number.TheConstants.{STEP}
use Rattle.gm_table.specs.declared.numbers.Stored.{Stored}
use Rattle.gm_table.specs.declared.numbers.Stored.TheVariants.{Short, Long}

-- the number with this short form: of eight bits the upper three are the code of the value, and the others the remoteness
abbrev pub wide : ℕ → ℕ
wide short = short / 32 * STEP + short % 32

-- the number has a short form
abbrev pub IsShort : ℕ → Type 0
IsShort number = (number / STEP < 8) × (number % STEP < 32)

-- the numbers that are stored
abbrev pub listed : Stored → List ℕ
listed (Short numbers) = map wide numbers.items
listed (Long numbers) = numbers.items
