-- The number that stands for a record, and its bytes, in each version of a tier file.
use Rattle.std.specs.Prelude.{◌≡◌, ℕ, ◌≤◌, ◌+◌, ◌*◌, List, Option, None, Some}
use Rattle.std.specs.Int.{Width, to_le_bytes, w16, w32}
use Rattle.gm_game.specs.declared.limits.TheConstants.{REMOTENESS}
use Rattle.gm_game.specs.declared.position.Value.{Value}
use Rattle.gm_game.specs.declared.position.Value.TheVariants.{Lose, Draw, Tie, Win}
use Rattle.gm_game.specs.declared.position.Solved.{Solved}
use Rattle.gm_table.specs.declared.number.TheConstants.{STEP}
use Rattle.gm_table.specs.declared.version.TheConstants.{REMOTENESS_1}
use Rattle.gm_table.specs.declared.version.Version.{Version}
use Rattle.gm_table.specs.declared.version.Version.TheVariants.{One, Two}

-- the word of a record
abbrev pub record_width : Version → Width
record_width One = w16
record_width Two = w32

-- how many bytes that word has
abbrev pub width : Version → ℕ
width One = 2
width Two = 4

-- how many numbers there are for each code
abbrev pub step : Version → ℕ
step One = 4096
step Two = STEP

-- the greatest remoteness of a record
abbrev pub most : Version → ℕ
most One = REMOTENESS_1
most Two = REMOTENESS

-- the code of a value
abbrev pub code : Value → ℕ
code Lose = 1
code Draw = 2
code Tie = 3
code Win = 4

-- a draw has remoteness 0, and any other value one within the limit
abbrev pub IsStorableSolved : Version → Value → ℕ → Type 0
IsStorableSolved v Lose n = n ≤ most v
IsStorableSolved v Draw n = n ≡ 0
IsStorableSolved v Tie n = n ≤ most v
IsStorableSolved v Win n = n ≤ most v

-- a record that a file can have
abbrev pub IsStorable : Version → Option Solved → Type 0
IsStorable v None = Unit {0}
IsStorable v (Some s) = IsStorableSolved v s.value s.remoteness

-- the number of a record: 0 if there is none
abbrev pub record_number : Version → Option Solved → ℕ
record_number v None = 0
record_number v (Some s) = code s.value * step v + s.remoteness

-- the bytes of a record, the lowest one first
abbrev pub record_bytes : Version → Option Solved → List ℕ
record_bytes v o = to_le_bytes (record_width v) (record_number v o)
