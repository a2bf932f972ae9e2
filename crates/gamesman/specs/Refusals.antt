-- Why a command is refused.
use Rattle.std.specs.Prelude.{ℕ, Bool, true, List}
use Rattle.gm_game.specs.declared.position.Position.{Position}
use Rattle.gm_game.specs.Rules.{Rules}
use Rattle.gm_tiers.specs.Reach.{IsReachedFrom}
use Rattle.gm_build.specs.declared.build_error.BuildError.{BuildError}
use Rattle.gm_build.specs.declared.build_error.BuildError.TheVariants.{StoreFailed}
use Rattle.gm_build.specs.Outcomes.{IsBuildError}
use Rattle.gm_play.specs.PlayTexts.{IsReadAs, IsNoPosition}
use Rattle.gamesman.specs.declared.fault.Fault.{Fault}
use Rattle.gamesman.specs.declared.fault.Fault.TheVariants.{NoSuchPosition, OutOfMemory, NotBuilt, AnotherGames, OutputFailed, OutputClosed}

-- the fault for an error of a build: another game's file is in the way if the store has met one
abbrev pub reason_of : BuildError → Bool → Fault
reason_of (StoreFailed tier) true = AnotherGames tier
reason_of error met = NotBuilt error

-- the reason why the tiers that the first one reaches are not built
abbrev pub IsUnbuilt : Rules → ℕ → Fault → Type 0
IsUnbuilt r first (OutOfMemory error) = Unit {0}
IsUnbuilt r first (NotBuilt error) = IsBuildError r first error
IsUnbuilt r first (AnotherGames tier) = IsReachedFrom r first tier
IsUnbuilt r first _ = ⊥

module _ (r : Rules) (shown : Position → List ℕ) (move_shown : Position → ℕ → List ℕ) where
  -- the reason why a question about the position with this text is refused: no position has it, its tables are not built, or a write failed
  abbrev pub IsRefused : List ℕ → Fault → Type 0
  IsRefused text NoSuchPosition = IsNoPosition r shown move_shown text
  IsRefused text OutputFailed = Unit {0}
  IsRefused text OutputClosed = Unit {0}
  IsRefused text fault = (p : Position) × IsReadAs r shown move_shown text p × IsUnbuilt r p.tier fault
