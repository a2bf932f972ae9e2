-- The longest win of a table.
use Rattle.std.specs.Prelude.{◌≡◌, ℕ, ◌<◌, ◌≤◌, List, Option, None, Some, if◌then◌else◌, nat_le}
use Rattle.gm_game.specs.declared.position.Solved.{Solved}
use Rattle.gm_game.specs.declared.position.Value.TheVariants.{Win}
use Rattle.gm_table.specs.Tables.{record_at}
use Rattle.gm_analyse.specs.Numbers.{remoteness_in}

-- the index is below n and has a win of this remoteness
abbrev pub IsWinAt : List (Option Solved) → ℕ → ℕ → ℕ → Type 0
IsWinAt records n remoteness index = (index < n) × (remoteness_in Win (record_at records index) ≡ Some remoteness)

-- a win of the greatest remoteness, at the least index
pub record IsLongest (records : List (Option Solved)) (n remoteness index : ℕ) : Type 0 where
  pub there : IsWinAt records n remoteness index
  pub greatest : (m i : ℕ) → IsWinAt records n m i → m ≤ remoteness
  pub first : (i : ℕ) → IsWinAt records n remoteness i → index ≤ i

-- the greatest remoteness of a win among the first n indexes, with the least index that has it; none if there is no win
abbrev pub IsLongestWin : List (Option Solved) → ℕ → Option (ℕ × ℕ) → Type 0
IsLongestWin records n None = (m i : ℕ) → IsWinAt records n m i → ⊥
IsLongestWin records n (Some l) = IsLongest records n l.0 l.1

-- the longest win, after one more index is looked at, which may have a win
abbrev pub longer : Option (ℕ × ℕ) → Option ℕ → ℕ → Option (ℕ × ℕ)
longer o None index = o
longer None (Some m) index = Some (m, index)
longer (Some l) (Some m) index = if nat_le m l.0 then Some l else Some (m, index)
