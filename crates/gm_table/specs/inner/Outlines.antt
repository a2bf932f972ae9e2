-- What records are found to have by going over them.
use Rattle.std.specs.Prelude.{◌≡◌, List, Option, IfSome}
use Rattle.gm_game.specs.declared.position.Solved.{Solved}
use Rattle.gm_game.specs.declared.position.Phase.TheVariants.{WinLose, Ties}
use Rattle.gm_table.specs.declared.outline.Outline.{Outline}
use Rattle.gm_table.specs.Levels.{greatest_of}
use Rattle.gm_table.specs.inner.Runs.{AreRunsOf}

-- the greatest level of each phase, and the runs if they are laid out
pub record IsOutlineOf (records : List (Option Solved)) (outline : Outline) : Type 0 where
  pub greatest_win_lose : outline.greatest_win_lose ≡ greatest_of WinLose records
  pub greatest_tie : outline.greatest_tie ≡ greatest_of Ties records
  pub runs : IfSome outline.runs (AreRunsOf records)
