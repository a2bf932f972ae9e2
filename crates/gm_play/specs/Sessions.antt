-- The input and the output of a session.
use Rattle.std.specs.Prelude.{◌≡◌, ℕ, ◌+◌, ◌≤◌, ◌⊎◌, List, [], ◌∷◌, ◌++◌, length, Option, None, Some, IfSome}
use Rattle.std.specs.Io.KnownBytes.{Keeps, Appends, Consumes, IsAtEnd}
use Rattle.gm_game.specs.declared.position.Position.{Position}
use Rattle.gm_game.specs.Rules.{Rules}
use Rattle.gm_play.specs.declared.sides.Side.{Side}
use Rattle.gm_play.specs.declared.session_error.SessionError.{SessionError}
use Rattle.gm_play.specs.declared.session_error.SessionError.TheVariants.{ReadFailed, WriteFailed, TooMuchInput, OutputClosed}
use Rattle.gm_play.specs.Dialogue.{Advice, Said, IsRightAdvice, dialogue, dialogue_so_far, used}
use Rattle.gm_play.specs.declared.view.Question.{Question}

-- the most bytes that one session reads
abbrev pub most_bytes : ℕ
most_bytes = 1000000

-- a read returned the next byte, or none at the end
abbrev pub ReadsByte : Option (List ℕ) → Option (List ℕ) → Option ℕ → Type 0
ReadsByte old new None = Keeps old new × IsAtEnd new
ReadsByte old new (Some b) = Consumes old new (b ∷ [])

-- a prefix of the text is written
abbrev pub AppendsPart : Option (List ℕ) → Option (List ℕ) → List ℕ → Type 0
AppendsPart old new text = (done rest : List ℕ) × (text ≡ done ++ rest) × Appends old new done

-- the position of a question, if one is asked
abbrev pub asked_at : {T : Type 0} → Option T → (T → Position) → Option Position
asked_at None f = None
asked_at (Some x) f = Some (f x)

-- this text and this question are a part of a dialogue, and the look-up holds from the question's position too
abbrev pub Speaks : Rules → Advice → Said → List ℕ → Option Position → Type 0
Speaks r k said text asked = (text ≡ said.text) × (asked ≡ said.asked) × IfSome asked (λ q. IsRightAdvice r q.tier k)

module _ (r : Rules) (shown : Position → List ℕ) (move_shown : Position → ℕ → List ℕ) (k : Advice) (seen : Question → Position → List ℕ) (start : Position)
    (first : Side) where
  -- these bytes were read: no more than one session reads, and none after the line that ends it
  pub record IsRead (old new : Option (List ℕ)) (bytes : List ℕ) : Type 0 where
    pub reads : Consumes old new bytes
    pub few : length bytes ≤ most_bytes
    pub all_used : used r shown move_shown k seen start first bytes ≡ length bytes

  -- a line ends the dialogue after these bytes: it reads no further ones
  abbrev pub IsEnded : List ℕ → Type 0
  IsEnded bytes = (more : List ℕ) → used r shown move_shown k seen start first (bytes ++ more) ≡ length bytes

  -- a session: the dialogue over the bytes that were read is written, and either a line or the end of the input ended it
  pub record IsSession (old new before after : Option (List ℕ)) : Type 0 where
    pub bytes : List ℕ
    pub is_read : IsRead old new bytes
    pub writes : Appends before after (dialogue r shown move_shown k seen start first bytes)
    pub end : IsEnded bytes ⊎ IsAtEnd new

  -- a session whose input failed: the answers to all earlier bytes are written
  pub record IsUnread (old new before after : Option (List ℕ)) : Type 0 where
    pub bytes : List ℕ
    pub is_read : IsRead old new bytes
    pub writes : Appends before after (dialogue_so_far r shown move_shown k seen start first bytes)

  -- a session whose output failed: a prefix of the dialogue is written
  pub record IsUnwritten (old new before after : Option (List ℕ)) : Type 0 where
    pub bytes : List ℕ
    pub is_read : IsRead old new bytes
    pub writes : AppendsPart before after (dialogue r shown move_shown k seen start first bytes)

  -- a session that received one byte more than it may read; that byte is not answered
  pub record IsTooLong (old new before after : Option (List ℕ)) : Type 0 where
    pub bytes : List ℕ
    pub last : ℕ
    pub reads : Consumes old new (bytes ++ last ∷ [])
    pub many : length bytes ≡ most_bytes
    pub all_used : used r shown move_shown k seen start first (bytes ++ last ∷ []) ≡ most_bytes + 1
    pub writes : Appends before after (dialogue_so_far r shown move_shown k seen start first bytes)

  -- a session that ended with an error
  abbrev pub IsBroken : SessionError → Option (List ℕ) → Option (List ℕ) → Option (List ℕ) → Option (List ℕ) → Type 0
  IsBroken ReadFailed old new before after = IsUnread old new before after
  IsBroken WriteFailed old new before after = IsUnwritten old new before after
  IsBroken TooMuchInput old new before after = IsTooLong old new before after
  IsBroken OutputClosed old new before after = IsUnwritten old new before after

-- the numbers of the errors
abbrev pub session_error_number : SessionError → ℕ
session_error_number ReadFailed = 1
session_error_number WriteFailed = 2
session_error_number TooMuchInput = 3
session_error_number OutputClosed = 4

-- an output that failed, or whose reader has closed it
abbrev pub IsOfOutput : SessionError → Type 0
IsOfOutput ReadFailed = ⊥
IsOfOutput WriteFailed = Unit {0}
IsOfOutput TooMuchInput = ⊥
IsOfOutput OutputClosed = Unit {0}
