-- The output of a command when it ends.
use Rattle.std.specs.Prelude.{◌≡◌, ℕ, List, ◌++◌, codes, Option, Result, Ok, Err}
use Rattle.std.specs.Io.KnownBytes.{Keeps, Appends}
use Rattle.gm_play.specs.Sessions.{AppendsPart}
use Rattle.gamesman.specs.declared.fault.Fault.{Fault}
use Rattle.gamesman.specs.declared.fault.Fault.TheVariants.{OutputFailed, OutputClosed}

-- a write failed
abbrev pub IsOutputFault : Fault → Type 0
IsOutputFault OutputFailed = Unit {0}
IsOutputFault OutputClosed = Unit {0}
IsOutputFault _ = ⊥

-- the output after a fault: a first part of such a text if a write failed, and otherwise nothing
abbrev pub IsCutOff : (List ℕ → Type 0) → Option (List ℕ) → Option (List ℕ) → Fault → Type 0
IsCutOff IsText before after OutputFailed = (text : List ℕ) × IsText text × AppendsPart before after text
IsCutOff IsText before after OutputClosed = (text : List ℕ) × IsText text × AppendsPart before after text
IsCutOff IsText before after _ = Keeps before after

-- the whole of such a text is written, and the status is that of success; or the output is that after a fault
abbrev pub IsWritten : (List ℕ → Type 0) → Option (List ℕ) → Option (List ℕ) → Result ℕ Fault → Type 0
IsWritten IsText before after (Ok status) = (status ≡ 0) × ((text : List ℕ) × IsText text × Appends before after text)
IsWritten IsText before after (Err fault) = IsCutOff IsText before after fault

-- a line: such a text and its end
abbrev pub IsTextLine : (List ℕ → Type 0) → List ℕ → Type 0
IsTextLine IsText line = (text : List ℕ) × IsText text × (line ≡ text ++ codes "\n")
