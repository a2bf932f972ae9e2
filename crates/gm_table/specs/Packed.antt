-- Records as numbers of 32 bits.
use Rattle.std.specs.Prelude.{◌≡◌, ℕ, ◌/◌, ◌%◌, ◌==◌, ◌≤◌, if◌then◌else◌, List, Option, None, Some, IfSome, slice_get}
use Rattle.gm_table.specs.declared.number.TheConstants.{STEP}
use Rattle.gm_game.specs.declared.position.Value.{Value}
use Rattle.gm_game.specs.declared.position.Value.TheVariants.{Lose, Draw, Tie, Win}
use Rattle.gm_game.specs.declared.position.Solved.{Solved}
use Rattle.gm_game.specs.declared.limits.TheConstants.{REMOTENESS}
use Rattle.gm_game.specs.Records.{solved}

-- the value with this code
abbrev pub value_of : ℕ → Value
value_of code = if code == 1 then Lose else if code == 2 then Draw else if code == 3 then Tie else Win

-- the record with this number, which is the code of its value times STEP plus its remoteness; numbers below STEP stand for no record
abbrev pub unpacked : ℕ → Option Solved
unpacked number = if number / STEP == 0 then None else Some (solved (value_of (number / STEP)) (number % STEP))

-- a record is within the greatest remoteness
abbrev pub IsInLimit : Option Solved → Type 0
IsInLimit o = IfSome o (λ s. s.remoteness ≤ REMOTENESS)

-- each record is within the greatest remoteness
abbrev pub AreInLimit : List (Option Solved) → Type 0
AreInLimit records = (i : ℕ) (o : Option Solved) → slice_get records i ≡ Some o → IsInLimit o
