-- The output of the service that answers positions, from game to game, when it ends.
use Rattle.std.specs.Prelude.{◌≡◌, ℕ, ◌+◌, ◌⊎◌, Bool, true, false, List, [], ◌∷◌, codes, Option, Some, None, Result, Ok, Err, string_bytes}
use Rattle.std.specs.Global.{Vec}
use Rattle.std.specs.Io.KnownBytes.{Appends, Keeps}
use Rattle.gm_tiers.specs.Orders.{IsTierOrder}
use Rattle.gm_play.specs.Sessions.{AppendsPart}
use Rattle.gm_json.specs.declared.ask_error.AskError.{AskError}
use Rattle.gm_json.specs.Answers.{IsAnswer}
use Rattle.gm_json.specs.Asking.{IsServed, IsServiceBroken}
use Rattle.gm_json.specs.inner.Feeds.{ahead}
use Rattle.gm_json.specs.Turns.{IsTurnedTo, answers_after}
use Rattle.gm_json.specs.declared.turn.Turn.{Turn}
use Rattle.gm_command.specs.Names.{game_of_name}
use Rattle.gm_command.specs.declared.requests.AskRequest.{AskRequest}
use Rattle.gm_json.specs.declared.ask_error.AskError.TheVariants.{OutOfMemory as NoMemory, NotHeld, ReadFailed, WriteFailed, OutputClosed as Closed}
use Rattle.gamesman.specs.declared.service.Ended.{Ended}
use Rattle.gamesman.specs.declared.service.Ended.TheVariants.{Done, Game}
use Rattle.gamesman.specs.declared.service.Service.{Service}
use Rattle.gamesman.specs.declared.fault.Fault.{Fault}
use Rattle.gamesman.specs.declared.fault.Fault.TheVariants.{NoSuchPosition, OutOfMemory, InputFailed, OutputFailed, OutputClosed}
use Rattle.gamesman.specs.Games.{GameSpec, spec_of}
use Rattle.gamesman.specs.Outputs.{IsOutputFault}
use Rattle.gamesman.specs.Searches.{IsUnsearched}

-- the line that reports that the tables are ready, if it is requested
abbrev pub ready_text : Bool → List ℕ
ready_text true = codes "{\"ready\":true}\n"
ready_text false = []

-- the fault for an error of the service
abbrev pub IsFaultOf : AskError → Fault → Type 0
IsFaultOf NoMemory (OutOfMemory error) = Unit {0}
IsFaultOf NotHeld NoSuchPosition = Unit {0}
IsFaultOf ReadFailed InputFailed = Unit {0}
IsFaultOf WriteFailed OutputFailed = Unit {0}
IsFaultOf Closed OutputClosed = Unit {0}
IsFaultOf _ _ = ⊥

-- what is written once the tables of a game are there: the answer to the line that names it, and at first the line that reports that
abbrev pub front_text : Bool → Option (Vec ℕ) → List ℕ
front_text ready None = ready_text ready
front_text ready (Some line) = line.items

-- the game with which a service goes on at a line that names one, and the answer to that line: if no game has the name, it is the game before and an error
abbrev pub game_after : GameSpec → Turn → GameSpec
game_after g turn = elim (game_of_name (string_bytes turn.name)) [ None ↦ g | Some game ↦ spec_of game ]

abbrev pub turn_answer : Turn → List ℕ
turn_answer turn = elim (game_of_name (string_bytes turn.name)) [ None ↦ turn.unknown.items | Some game ↦ turn.there.items ]

-- the part of a service that is about one game, where so many lines came before it, and this is written once the tables are there
module _ (asked : AskRequest) (g : GameSpec) (earlier : ℕ) (front : List ℕ) where
  -- what a line may be answered, if it names no game
  abbrev pub Says : List ℕ → List ℕ → ℕ → List ℕ → Type 0
  Says tiers = answers_after true earlier (IsAnswer g.rules g.shown g.move_shown asked.answer tiers)

  -- all lines of the input are answered
  pub record IsAsked (input before after : Option (List ℕ)) : Type 0 where
    pub left : Option (List ℕ)
    pub between : Option (List ℕ)
    pub tiers : List ℕ
    pub order : IsTierOrder g.rules tiers
    pub ready : Appends before between front
    pub served : IsServed (Says tiers) input left between after

  -- the service ended by this error
  pub record IsAskBroken (error : AskError) (input before after : Option (List ℕ)) : Type 0 where
    pub left : Option (List ℕ)
    pub between : Option (List ℕ)
    pub tiers : List ℕ
    pub order : IsTierOrder g.rules tiers
    pub ready : Appends before between front
    pub broken : IsServiceBroken (Says tiers) error input left between after

  -- all lines up to one that names a game are answered, and that is line n of the part
  pub record IsAskedUntil (turn : Turn) (n : ℕ) (input left before after : Option (List ℕ)) : Type 0 where
    pub between : Option (List ℕ)
    pub tiers : List ℕ
    pub order : IsTierOrder g.rules tiers
    pub ready : Appends before between front
    pub turned : IsTurnedTo (Says tiers) earlier n turn input left between after

  -- the part is the last: the service answered all lines, or ended earlier: before it began, in its first line, or by an error
  abbrev pub IsLastAsked : Option (List ℕ) → Option (List ℕ) → Option (List ℕ) → Result ℕ Fault → Type 0
  IsLastAsked input before after (Ok status) = (status ≡ 0) × IsAsked input before after
  IsLastAsked input before after (Err fault) =
      (IsUnsearched g.rules None fault × Keeps before after)
      ⊎ ((IsOutputFault fault × AppendsPart before after front)
      ⊎ ((error : AskError) × IsFaultOf error fault × IsAskBroken error input before after))

-- the parts of a service, each up to a line that names a game
abbrev pub AreGameParts : AskRequest → List Turn → GameSpec → ℕ → List ℕ → Option (List ℕ) → Option (List ℕ) → Option (List ℕ) → Result ℕ Fault → Type 0
AreGameParts asked [] g earlier front input before after result = IsLastAsked asked g earlier front input before after result
AreGameParts asked (turn ∷ turns) g earlier front input before after result =
    (n : ℕ) × (left : Option (List ℕ)) × (between : Option (List ℕ)) × IsAskedUntil asked g earlier front turn n input left before between
    × AreGameParts asked turns (game_after g turn) (earlier + n) (turn_answer turn) left between after result

-- a service that begins with this game, where so many lines came before and this is written first, has these parts
abbrev pub IsAskedFrom : AskRequest → GameSpec → ℕ → List ℕ → Option (List ℕ) → Option (List ℕ) → Option (List ℕ) → Result ℕ Fault → Type 0
IsAskedFrom asked g earlier front input before after result = (turns : List Turn) × AreGameParts asked turns g earlier front input before after result

-- the same of a service that has this at hand
abbrev pub IsAskedWith : AskRequest → GameSpec → Service → Option (List ℕ) → Option (List ℕ) → Option (List ℕ) → Result ℕ Fault → Type 0
IsAskedWith asked g s input before after result =
    IsAskedFrom asked g s.feed.lines (front_text asked.ready s.front) (ahead s.feed input) before after result

-- a service that has this at hand is about one game, ends or comes to another game, and has that at hand then: however it goes on there, that is how it goes on
abbrev pub IsAskedIn : AskRequest → GameSpec → Service → Service → Option (List ℕ) → Option (List ℕ) → Option (List ℕ) → Option (List ℕ) → Result Ended Fault → Type 0
IsAskedIn asked g old new input left before after (Ok (Done status)) = IsAskedWith asked g old input before after (Ok status)
IsAskedIn asked g old new input left before after (Ok (Game game)) = (end : Option (List ℕ)) (result : Result ℕ Fault)
    → IsAskedWith asked (spec_of game) new left after end result → IsAskedWith asked g old input before end result
IsAskedIn asked g old new input left before after (Err fault) = IsAskedWith asked g old input before after (Err fault)
