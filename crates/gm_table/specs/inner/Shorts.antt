-- Summaries of records, their short forms of a byte, and those that are not draws.
use Rattle.std.specs.Prelude.{◌≡◌, ℕ, ◌/◌, ◌%◌, ◌==◌, if◌then◌else◌, Bool, true, false, List, Option, None, Some}
use Rattle.gm_game.specs.declared.position.Value.TheVariants.{Lose, Draw, Tie, Win}
use Rattle.gm_game.specs.declared.position.Solved.{Solved}
use Rattle.gm_game.specs.Records.{solved, least_of, all_won, lost_in, tied_in}
use Rattle.gm_table.specs.Packed.{value_of}
use Rattle.gm_table.specs.declared.summary.Summary.{Summary}

-- the summary of these records
pub record IsSummary (os : List (Option Solved)) (seen : Summary) : Type 0 where
  pub lost : seen.lost ≡ least_of lost_in os
  pub won : seen.won ≡ all_won os
  pub tied : seen.tied ≡ least_of tied_in os

-- the record with this short form, which is the code of its value times 32 plus its remoteness; short forms below 32 stand for no record
abbrev pub record_of_short : ℕ → Option Solved
record_of_short short = if short / 32 == 0 then None else Some (solved (value_of (short / 32)) (short % 32))

-- whether a record is there and no draw
abbrev pub is_decided : Option Solved → Bool
is_decided None = false
is_decided (Some s) = elim s.value [ Lose ↦ true | Draw ↦ false | Tie ↦ true | Win ↦ true ]

-- a remoteness, or none if the mark is 32
abbrev pub marked_short : ℕ → Option ℕ
marked_short mark = if mark == 32 then None else Some mark
