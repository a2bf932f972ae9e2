-- The levels of the records of a table.
use Rattle.std.specs.Prelude.{◌≡◌, ℕ, suc, ◌≤◌, max, Bool, false, ◌==◌, List, [], ◌∷◌, Option, None, Some, slice_get, if◌then◌else◌}
use Rattle.gm_game.specs.declared.position.Value.TheVariants.{Lose, Draw, Tie, Win}
use Rattle.gm_game.specs.declared.position.Solved.{Solved}
use Rattle.gm_game.specs.declared.position.Phase.{Phase}
use Rattle.gm_game.specs.declared.position.Phase.TheVariants.{WinLose, Ties}

-- the level at which a record is in a phase: its remoteness, if its value is settled in that phase
abbrev pub level_in : Phase → Option Solved → Option ℕ
level_in phase None = None
level_in WinLose (Some s) = elim s.value [ Lose ↦ Some s.remoteness | Draw ↦ None | Tie ↦ None | Win ↦ Some s.remoteness ]
level_in Ties (Some s) = elim s.value [ Lose ↦ None | Draw ↦ None | Tie ↦ Some s.remoteness | Win ↦ None ]

-- some record is in the phase at this level
abbrev pub HasLevel : Phase → List (Option Solved) → ℕ → Type 0
HasLevel phase records n = (i : ℕ) × (o : Option Solved) × (slice_get records i ≡ Some o) × (level_in phase o ≡ Some n)

-- the greatest level of a record in the phase
pub record IsGreatestLevel (phase : Phase) (records : List (Option Solved)) (n : ℕ) : Type 0 where
  pub there : HasLevel phase records n
  pub greatest : (m : ℕ) → HasLevel phase records m → m ≤ n

-- this is the greatest level of a record in the phase, or the phase has no record
abbrev pub HasGreatest : Phase → List (Option Solved) → Option ℕ → Type 0
HasGreatest phase records None = (n : ℕ) → HasLevel phase records n → ⊥
HasGreatest phase records (Some n) = IsGreatestLevel phase records n

-- the later of two levels, if there are any
abbrev pub later : Option ℕ → Option ℕ → Option ℕ
later None n = n
later (Some m) None = Some m
later (Some m) (Some n) = Some (max m n)

-- the greatest level of a record in the phase, if there is one
abbrev pub greatest_of : Phase → List (Option Solved) → Option ℕ
greatest_of phase [] = None
greatest_of phase (o ∷ os) = later (level_in phase o) (greatest_of phase os)

-- whether a level is this one
abbrev pub is_level : ℕ → Option ℕ → Bool
is_level n None = false
is_level n (Some m) = m == n

-- the indexes of the records that are at a place, ascending, where the first record has index k
abbrev pub indexes_from : ℕ → Phase → ℕ → List (Option Solved) → List ℕ
indexes_from k phase n [] = []
indexes_from k phase n (o ∷ os) = if is_level n (level_in phase o) then k ∷ indexes_from (suc k) phase n os else indexes_from (suc k) phase n os

-- the indexes of the records that are at a place, ascending
abbrev pub indexes_at : Phase → ℕ → List (Option Solved) → List ℕ
indexes_at phase n records = indexes_from 0 phase n records
