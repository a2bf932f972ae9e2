-- The input that a session of play has read and its output, when it ends.
use Rattle.std.specs.Prelude.{◌≡◌, ℕ, ◌⊎◌, Bool, true, false, List, [], ◌++◌, codes, Option, None, Some, Result, Ok, Err, if◌then◌else◌}
use Rattle.std.specs.Borrow.{Bor}
use Rattle.std.specs.Str.{bytes_eq}
use Rattle.std.specs.Io.KnownBytes.{Appends, Keeps}
use Rattle.gm_game.specs.declared.position.Position.{Position}
use Rattle.gm_game.specs.Rules.{Rules}
use Rattle.gm_play.specs.declared.sides.Side.{Side}
use Rattle.gm_play.specs.declared.sides.Side.TheVariants.{You, Computer}
use Rattle.gm_play.specs.Sides.{IsWonIn, IsEven}
use Rattle.gm_play.specs.declared.session_error.SessionError.{SessionError}
use Rattle.gm_play.specs.Dialogue.{Advice, IsRightAdvice, unseen}
use Rattle.gm_play.specs.LastLines.{EndsWon, EndsUnlost, WritesOne}
use Rattle.gm_play.specs.PlayTexts.{IsReadAs, IsNoPosition}
use Rattle.gm_play.specs.Sessions.{IsSession, IsBroken, AppendsPart}
use Rattle.gm_page.specs.Sights.{sight}
use Rattle.gm_command.specs.declared.requests.PlayRequest.{PlayRequest}
use Rattle.gm_draw.specs.Pictures.{PictureSpec}
use Rattle.gm_play.specs.declared.view.Question.{Question}
use Rattle.gm_play.specs.declared.session_error.SessionError.TheVariants.{ReadFailed, WriteFailed, TooMuchInput as TooMuch, OutputClosed as Closed}
use Rattle.gamesman.specs.declared.fault.Fault.{Fault}
use Rattle.gamesman.specs.declared.fault.Fault.TheVariants.{NoSuchPosition, InputFailed, OutputFailed, OutputClosed, TooMuchInput}
use Rattle.gamesman.specs.Outputs.{IsOutputFault}
use Rattle.gamesman.specs.Refusals.{IsUnbuilt}

-- the fault for an error of a session
abbrev pub IsSessionFault : SessionError → Fault → Type 0
IsSessionFault ReadFailed InputFailed = Unit {0}
IsSessionFault WriteFailed OutputFailed = Unit {0}
IsSessionFault TooMuch TooMuchInput = Unit {0}
IsSessionFault Closed OutputClosed = Unit {0}
IsSessionFault _ _ = ⊥

-- who moves first, if the sides have no names of their own
abbrev pub first_text : Side → List ℕ
first_text You = codes "you move first\n"
first_text Computer = codes "the computer moves first\n"

-- the words before the side's name
abbrev pub whose_text : Side → List ℕ
whose_text You = codes "you are the "
whose_text Computer = codes "the computer is the "

-- the line on who the person is, for a mover of this name and the side that moves first: the person is always `x` in a game of `x` and `o`
abbrev pub sides_text : List ℕ → Side → List ℕ
sides_text mover first =
    if bytes_eq mover (codes "x") then codes "you are x, the computer is o\n"
    else (if bytes_eq mover (codes "player") then first_text first
    else whose_text first ++ mover ++ codes "\n")

-- the opening before the dialogue: this line, if boards are drawn
abbrev pub opening : Bool → List ℕ → Side → List ℕ
opening true mover first = sides_text mover first
opening false mover first = []

module _ (r : Rules) (shown : Position → List ℕ) (move_shown : Position → ℕ → List ℕ) (picture : PictureSpec) where
  -- the text that the person sees before a question: the board, if boards are drawn
  abbrev pub seen_by : Bool → Question → Position → List ℕ
  seen_by true = sight r shown move_shown picture
  seen_by false = unseen

  module _ (asked : PlayRequest) (start : Position) where
    -- the opening is written and then a session held, by every look-up of true values and best moves, of which there is at least one. If the computer can
    -- win, it wins in the end unless the person leaves. If the start is even, it doesn't lose
    pub record IsSessionHeld (input before after : Option (List ℕ)) : Type 0 where
      pub left : Option (List ℕ)
      pub between : Option (List ℕ)
      pub opened : Appends before between (opening asked.drawn (picture.mover start) asked.first)
      pub session : (k : Advice) → IsRightAdvice r start.tier k
          → IsSession r shown move_shown k (seen_by asked.drawn) start asked.first input left between after
      pub won : (n : ℕ) → IsWonIn r start asked.first n → WritesOne EndsWon between after
      pub even : IsEven r start → WritesOne EndsUnlost between after
      pub known : (k : Advice) × IsRightAdvice r start.tier k

    -- the session ended by this error after the opening
    pub record IsCutShort (error : SessionError) (input before after : Option (List ℕ)) : Type 0 where
      pub left : Option (List ℕ)
      pub between : Option (List ℕ)
      pub opened : Appends before between (opening asked.drawn (picture.mover start) asked.first)
      pub broken : (k : Advice) → IsRightAdvice r start.tier k
          → IsBroken r shown move_shown k (seen_by asked.drawn) start asked.first error input left between after
      pub known : (k : Advice) × IsRightAdvice r start.tier k

    -- a session is held, or ends by a fault: in its opening, or later by an error
    abbrev pub IsSitting : Option (List ℕ) → Option (List ℕ) → Option (List ℕ) → Result ℕ Fault → Type 0
    IsSitting input before after (Ok status) = (status ≡ 0) × IsSessionHeld input before after
    IsSitting input before after (Err fault) =
        (IsOutputFault fault × AppendsPart before after (opening asked.drawn (picture.mover start) asked.first))
        ⊎ ((error : SessionError) × IsSessionFault error fault × IsCutShort error input before after)

    -- the tables are not built and nothing is written, or else a session is held
    abbrev pub IsPlayedFrom : Option (List ℕ) → Option (List ℕ) → Option (List ℕ) → Result ℕ Fault → Type 0
    IsPlayedFrom input before after result =
        ((fault : Fault) × (result ≡ Err fault) × IsUnbuilt r start.tier fault × Keeps before after)
        ⊎ IsSitting input before after result

  -- play starts here: at the game's start, or at the position with this text
  abbrev pub IsFrom : Option (Bor (List ℕ)) → Position → Type 0
  IsFrom None start = start ≡ r.initial
  IsFrom (Some text) start = IsReadAs r shown move_shown text.now start

  -- no position has the text
  abbrev pub IsFromNone : Option (Bor (List ℕ)) → Type 0
  IsFromNone None = ⊥
  IsFromNone (Some text) = IsNoPosition r shown move_shown text.now

  -- a session from the requested position, or nothing if there is no such position
  abbrev pub IsPlayed : PlayRequest → Option (List ℕ) → Option (List ℕ) → Option (List ℕ) → Result ℕ Fault → Type 0
  IsPlayed asked input before after result =
      (IsFromNone asked.position × (result ≡ Err NoSuchPosition) × Keeps before after)
      ⊎ ((start : Position) × IsFrom asked.position start × IsPlayedFrom asked start input before after result)
