-- The indexes of a table, laid out by place.
use Rattle.std.specs.Prelude.{◌≡◌, ℕ, List, [], map, slice_index_or, Option, Vec}
use Rattle.std.specs.declared.alloc.Global.{Global}
use Rattle.gm_game.specs.declared.position.Solved.{Solved}
use Rattle.gm_game.specs.declared.position.Phase.{Phase}
use Rattle.gm_game.specs.declared.position.Phase.TheVariants.{WinLose, Ties}
use Rattle.gm_table.specs.declared.runs.Runs.{Runs}
use Rattle.gm_table.specs.Levels.{indexes_at}

-- the run at a level: empty past the last level
abbrev pub run_at : Vec (Vec ℕ Global) Global → ℕ → List ℕ
run_at runs n = slice_index_or (map (λ run. run.items) runs.items) n []

-- the run at a place
abbrev pub run_in : Runs → Phase → ℕ → List ℕ
run_in runs WinLose n = run_at runs.win_lose n
run_in runs Ties n = run_at runs.ties n

-- each run has the indexes of the records that are at its place
abbrev pub AreRunsOf : List (Option Solved) → Runs → Type 0
AreRunsOf records runs = (phase : Phase) (n : ℕ) → run_in runs phase n ≡ indexes_at phase n records
