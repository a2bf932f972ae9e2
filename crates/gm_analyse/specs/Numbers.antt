-- How many indexes of a table pass a test.
use Rattle.std.specs.Prelude.{ℕ, ◌+◌, ◌==◌, Bool, true, false, List, Option, None, Some, if◌then◌else◌, zero, suc}
use Rattle.gm_game.specs.declared.position.Value.{Value}
use Rattle.gm_game.specs.declared.position.Value.TheVariants.{Lose, Win, Draw, Tie}
use Rattle.gm_game.specs.declared.position.Solved.{Solved}
use Rattle.gm_game.specs.Rules.{Rules, at}
use Rattle.gm_table.specs.Tables.{record_at}
use Rattle.gm_table.specs.Levels.{is_level}

-- how many numbers below n pass the test
abbrev pub count_where : (ℕ → Bool) → ℕ → ℕ
count_where test zero = 0
count_where test (suc n) = if test n then count_where test n + 1 else count_where test n

-- the index of a tier is a legal position
abbrev pub is_legal_at : Rules → ℕ → ℕ → Bool
is_legal_at r tier index = r.is_legal (at tier index)

-- the index has a record
abbrev pub has_record : List (Option Solved) → ℕ → Bool
has_record records index = elim (record_at records index) [ None ↦ false | Some s ↦ true ]

-- the order of values
abbrev pub value_rank : Value → ℕ
value_rank Lose = 0
value_rank Draw = 1
value_rank Tie = 2
value_rank Win = 3

-- the remoteness of a record, if it has this value
abbrev pub remoteness_in : Value → Option Solved → Option ℕ
remoteness_in value None = None
remoteness_in value (Some s) = if value_rank s.value == value_rank value then Some s.remoteness else None

-- the index has a record of this value and remoteness
abbrev pub is_solved : List (Option Solved) → Value → ℕ → ℕ → Bool
is_solved records value remoteness index = is_level remoteness (remoteness_in value (record_at records index))

-- how many indexes below n have a record of this value and remoteness
abbrev pub number_in : List (Option Solved) → ℕ → Value → ℕ → ℕ
number_in records n value remoteness = count_where (is_solved records value remoteness) n
