-- The request that words make.
use Rattle.std.specs.Prelude.{◌≡◌, ◌⊎◌, ℕ, List, [], Option, Some, None, Result, Ok, Err, IfOk}
use Rattle.clap.specs.Words.{FailsBy, IsAmong, Kinds, fault_of, subcommand_of, subcommand_rows_of}
use Rattle.clap.specs.declared.error.Error.{Error}
use Rattle.clap.specs.declared.error.kind.ErrorKind.{ErrorKind}
use Rattle.clap.specs.declared.error.kind.ErrorKind.TheVariants as error
use Rattle.clap.specs.declared.parser.matches.ArgMatches.{ArgMatches}
use Rattle.gm_command.specs.declared.reading.ReadError.{ReadError}
use Rattle.gm_command.specs.declared.reading.ReadError.TheVariants.{BadLine, OutOfMemory}
use Rattle.gm_command.specs.declared.requests.Reading.{Reading}
use Rattle.gm_command.specs.declared.requests.Reading.TheVariants.{Request as ARequest, Help}
use Rattle.gm_command.specs.Parsers.{command_line}
use Rattle.gm_command.specs.Contents.{Content, content_of}
use Rattle.gm_command.specs.Reading.{request_of}

-- the faults that clap finds in the words; none in those of a command that it knows
abbrev pub faults_in : List (List ℕ) → Kinds
faults_in words = fault_of command_line words

-- what words without a fault say; nothing if they are no request
abbrev pub content_in : List (List ℕ) → Option Content
content_in words = request_of (subcommand_of command_line words)

-- clap's answer to the words
pub record IsOutcome (words : List (List ℕ)) (result : Result ArgMatches Error) : Type 0 where
  pub fails : FailsBy (faults_in words) result
  pub finds : IfOk result (λ m. subcommand_rows_of m ≡ subcommand_of command_line words)

-- why there is no request for a fault of this kind; nothing if it asks for help or for the version
abbrev pub why_not : ErrorKind → Option ReadError
why_not error.DisplayHelp = None
why_not error.DisplayVersion = None
why_not error.OutOfMemory = Some OutOfMemory
why_not _ = Some BadLine

-- the words have no fault and say this; nothing if they are no request
pub record Say (words : List (List ℕ)) (content : Option Content) : Type 0 where
  pub faultless : faults_in words ≡ []
  pub content_is : content_in words ≡ content

-- clap finds a fault for which this is the reason
pub record IsFaultFor (words : List (List ℕ)) (why : Option ReadError) : Type 0 where
  pub kind : ErrorKind
  pub among : IsAmong kind (faults_in words)
  pub why_is : why_not kind ≡ why

-- the words ask for help or for the version
abbrev pub AsksForHelp : List (List ℕ) → Type 0
AsksForHelp words = IsFaultFor words None

-- the words are no request, or clap finds a fault
abbrev pub IsBadLine : List (List ℕ) → Type 0
IsBadLine words = Say words None ⊎ IsFaultFor words (Some BadLine)

-- a request says what the words say, help is asked for, and a bad line is one; memory may run out
abbrev pub IsReadingOf : List (List ℕ) → Result Reading ReadError → Type 0
IsReadingOf words (Ok (ARequest request)) = Say words (Some (content_of request))
IsReadingOf words (Ok (Help help)) = AsksForHelp words
IsReadingOf words (Err BadLine) = IsBadLine words
IsReadingOf words (Err OutOfMemory) = Unit {0}
