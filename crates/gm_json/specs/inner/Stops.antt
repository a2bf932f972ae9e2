-- Why a service stops in its midst.
use Rattle.std.specs.Prelude.{◌≡◌, ℕ, ◌+◌, List, Option}
use Rattle.std.specs.Io.KnownBytes.{Appends, prepend_known}
use Rattle.gm_json.specs.declared.turn.Stop.{Stop}
use Rattle.gm_json.specs.declared.turn.Stop.TheVariants.{Turn as Turns, Error}
use Rattle.gm_json.specs.declared.ask_error.AskError.{AskError}
use Rattle.gm_json.specs.Asking.{IsServiceBroken, IsLineBroken, IsAskOutputError, IsOfLine}
use Rattle.gm_json.specs.Turns.{IsTurnOf, IsTurnedTo}

-- it stops at a line that names a game
abbrev pub IfTurn : Stop → Type 0 → Type 0
IfTurn (Turns turn) P = P
IfTurn (Error e) P = Unit {0}

-- it stops by this error, if by one
abbrev pub IsErrorOf : Stop → AskError → Type 0
IsErrorOf (Turns turn) error = Unit {0}
IsErrorOf (Error e) error = error ≡ e

-- the output failed
abbrev pub IsOutputStop : Stop → Type 0
IsOutputStop (Turns turn) = ⊥
IsOutputStop (Error e) = IsAskOutputError e

-- the line was not answered: it could not be, or it names a game
abbrev pub IsLineStop : List ℕ → ℕ → Stop → Type 0
IsLineStop line n (Turns turn) = IsTurnOf line n turn
IsLineStop line n (Error e) = IsOfLine e

module _ (Says : List ℕ → ℕ → List ℕ → Type 0) (earlier : ℕ) where
  -- the service stopped at the line with this number, with these bytes that it has not taken
  abbrev pub IsStopped : Stop → ℕ → List ℕ → Option (List ℕ) → Option (List ℕ) → Option (List ℕ) → Option (List ℕ) → Type 0
  IsStopped (Turns turn) n ahead old new before after = IsTurnedTo Says earlier n turn old (prepend_known ahead new) before after
  IsStopped (Error e) n ahead old new before after = IsServiceBroken Says e old new before after

  -- it stopped at this line, after these answers
  abbrev pub IsLineStopped : Stop → List ℕ → ℕ → List ℕ → Option (List ℕ) → Option (List ℕ) → Type 0
  IsLineStopped (Turns turn) line n answers before after = IsTurnOf line (earlier + n) turn × Appends before after answers
  IsLineStopped (Error e) line n answers before after = IsLineBroken Says e line n answers before after
