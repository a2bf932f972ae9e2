-- What the solver answers of a tier.
use Rattle.std.specs.Prelude.{◌≡◌, ℕ}
use Rattle.gm_game.specs.Rules.{Rules}
use Rattle.gm_table.specs.Solving.{IsTooFar}
use Rattle.gm_backward.specs.declared.error.SolveError.{SolveError}
use Rattle.gm_backward.specs.declared.error.SolveError.TheVariants.{OutOfMemory, TooFar}

-- the tier can't be solved for this reason
abbrev pub IsError : Rules → ℕ → SolveError → Type 0
IsError r tier OutOfMemory = Unit {0}
IsError r tier (TooFar t) = (t ≡ tier) × IsTooFar r tier

-- the numbers of the errors
abbrev pub solve_error_number : SolveError → ℕ
solve_error_number OutOfMemory = 1
solve_error_number (TooFar t) = 2
