-- The answers to the positions of the input, one in each line.
use Rattle.std.specs.Prelude.{◌≡◌, ℕ, ◌+◌, ◌-◌, ◌^◌, min, ◌⊎◌, List, [], ◌∷◌, ◌++◌, length, take, Option, Result, Ok, Err}
use Rattle.std.specs.Io.KnownBytes.{Appends, Consumes, Keeps, IsAtEnd}
use Rattle.gm_game.specs.declared.position.Position.{Position}
use Rattle.gm_game.specs.Rules.{Rules}
use Rattle.gm_tiers.specs.Reach.{IsReached}
use Rattle.gm_play.specs.Dialogue.{without_return}
use Rattle.gm_play.specs.PlayTexts.{IsReadAs}
use Rattle.gm_play.specs.Sessions.{AppendsPart}
use Rattle.gm_json.specs.Asking.{kept_bytes, lines_of, AreEnded}
use Rattle.gm_command.specs.declared.requests.Question.{Question}
use Rattle.gamesman.specs.declared.fault.Fault.{Fault}
use Rattle.gamesman.specs.declared.fault.Fault.TheVariants.{NoSuchPositionInLine, OutOfMemory, InputFailed, OutputFailed, OutputClosed}
use Rattle.gamesman.specs.Refusals.{IsUnbuilt}
use Rattle.gamesman.specs.Games.{GameSpec}
use Rattle.gamesman.specs.Texts.{IsTextFor}

-- the greatest number of a line
abbrev pub last_number : ℕ
last_number = 2 ^ 64 - 1

module _ (IsText : List ℕ → List ℕ → Type 0) where
  -- such texts of these lines, one after the other; the text of a line is that of its first `kept_bytes` bytes, without the carriage return at its end
  abbrev pub AreLineTexts : List (List ℕ) → List ℕ → Type 0
  AreLineTexts [] out = out ≡ []
  AreLineTexts (line ∷ lines) out = (text : List ℕ) × (rest : List ℕ) × IsText (without_return (take kept_bytes line)) text × (out ≡ text ++ rest) ×
      AreLineTexts lines rest

  -- these lines ended in the part of the input that was read, and such a text of each was written; for the line that has begun nothing was written
  pub record AreAnswered (lines : List (List ℕ)) (begun : List ℕ) (input left before after : Option (List ℕ)) : Type 0 where
    pub bytes : List ℕ
    pub text : List ℕ
    pub reads : Consumes input left bytes
    pub parts : AreEnded bytes lines begun
    pub answers : AreLineTexts lines text
    pub writes : Appends before after text

  -- this line came to its end, and such a text of each line before it was written
  pub record AreBefore (lines : List (List ℕ)) (line : List ℕ) (input before after : Option (List ℕ)) : Type 0 where
    pub left : Option (List ℕ)
    pub bytes : List ℕ
    pub text : List ℕ
    pub reads : Consumes input left bytes
    pub parts : lines_of bytes ≡ lines ++ line ∷ []
    pub answers : AreLineTexts lines text
    pub writes : Appends before after text

  -- the input was read to its end, and such a text of each of its lines was written
  pub record AreAllAnswered (input before after : Option (List ℕ)) : Type 0 where
    pub left : Option (List ℕ)
    pub bytes : List ℕ
    pub text : List ℕ
    pub reads : Consumes input left bytes
    pub end : IsAtEnd left
    pub answers : AreLineTexts (lines_of bytes) text
    pub writes : Appends before after text

  -- each line that came to its end was answered, and the input or the memory failed
  abbrev pub IsFilterStopped : Option (List ℕ) → Option (List ℕ) → Option (List ℕ) → Type 0
  IsFilterStopped input before after = (lines : List (List ℕ)) × (begun : List ℕ) × (left : Option (List ℕ)) × AreAnswered lines begun input left before after

  -- a first part of the text of one line was written
  abbrev pub IsCutLine : Option (List ℕ) → Option (List ℕ) → Option (List ℕ) → Type 0
  IsCutLine input before after = (lines : List (List ℕ)) × (line : List ℕ) × (between : Option (List ℕ)) × AreBefore lines line input before between ×
      ((out : List ℕ) × IsText (without_return (take kept_bytes line)) out × AppendsPart between after out)

  module _ (IsNone : List ℕ → Type 0) where
    -- nothing was written for the line with this number, which has no such text
    abbrev pub IsNoLine : ℕ → Option (List ℕ) → Option (List ℕ) → Option (List ℕ) → Type 0
    IsNoLine n input before after = (lines : List (List ℕ)) × (line : List ℕ) × AreBefore lines line input before after ×
        IsNone (without_return (take kept_bytes line)) × (n ≡ min (1 + length lines) last_number)

    -- the progress before this fault
    abbrev pub IsLeftOff : Option (List ℕ) → Option (List ℕ) → Option (List ℕ) → Fault → Type 0
    IsLeftOff input before after (NoSuchPositionInLine n) = IsNoLine n input before after
    IsLeftOff input before after (OutOfMemory error) = IsFilterStopped input before after
    IsLeftOff input before after InputFailed = IsFilterStopped input before after
    IsLeftOff input before after OutputFailed = IsCutLine input before after
    IsLeftOff input before after OutputClosed = IsCutLine input before after
    IsLeftOff input before after _ = ⊥

    -- the progress in the line with this number before this fault
    abbrev pub IsLineFault : List ℕ → ℕ → Option (List ℕ) → Option (List ℕ) → Fault → Type 0
    IsLineFault line number before after (NoSuchPositionInLine n) = (n ≡ number) × IsNone (without_return line) × Keeps before after
    IsLineFault line number before after (OutOfMemory error) = Keeps before after
    IsLineFault line number before after OutputFailed = (out : List ℕ) × IsText (without_return line) out × AppendsPart before after out
    IsLineFault line number before after OutputClosed = (out : List ℕ) × IsText (without_return line) out × AppendsPart before after out
    IsLineFault line number before after _ = ⊥

    -- all lines of the input are answered, or those before the fault
    abbrev pub AreLinesAnswered : Option (List ℕ) → Option (List ℕ) → Option (List ℕ) → Result ℕ Fault → Type 0
    AreLinesAnswered input before after (Ok status) = (status ≡ 0) × AreAllAnswered input before after
    AreLinesAnswered input before after (Err fault) = IsLeftOff input before after fault

-- no position in a tier of the game has this text
abbrev pub IsOfNone : Rules → (Position → List ℕ) → (Position → ℕ → List ℕ) → List ℕ → Type 0
IsOfNone r shown move_shown text = (p : Position) → IsReadAs r shown move_shown text p → IsReached r p.tier → ⊥

-- no table is built, and nothing is written
abbrev pub IsNotBegun : Rules → Option (List ℕ) → Option (List ℕ) → Result ℕ Fault → Type 0
IsNotBegun r before after (Ok status) = ⊥
IsNotBegun r before after (Err fault) = IsUnbuilt r r.initial.tier fault × Keeps before after

-- this question about each position of the input is answered, up to a fault
abbrev pub IsFiltered : GameSpec → Question → Option (List ℕ) → Option (List ℕ) → Option (List ℕ) → Result ℕ Fault → Type 0
IsFiltered g question input before after result =
    IsNotBegun g.rules before after result
    ⊎ AreLinesAnswered (IsTextFor g question) (IsOfNone g.rules g.shown g.move_shown) input before after result
