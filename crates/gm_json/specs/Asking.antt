-- A service that reads positions, one on each line, and answers each line with a line.
use Rattle.std.specs.Prelude.{◌≡◌, ℕ, ◌+◌, ◌≤◌, ◌==◌, ◌⊎◌, List, [], ◌∷◌, ◌++◌, length, take, codes, if◌then◌else◌, Option}
use Rattle.std.specs.Io.KnownBytes.{Appends, Consumes, Keeps, IsAtEnd}
use Rattle.gm_play.specs.Sessions.{AppendsPart}
use Rattle.gm_json.specs.declared.ask_error.AskError.{AskError}
use Rattle.gm_json.specs.declared.ask_error.AskError.TheVariants.{OutOfMemory, NotHeld, ReadFailed, WriteFailed, OutputClosed}

-- how much of a line is looked at: the longest object, its return, and a byte that marks a longer line, which is no object and the text of no position
abbrev pub kept_bytes : ℕ
kept_bytes = 65538

-- the most bytes that one read gives
abbrev pub block_bytes : ℕ
block_bytes = 65536

-- bytes as lines, of which these bytes of the first have come: a line ends before its byte 10, and the last one where the bytes do
unfoldable pub lines_from : List ℕ → List ℕ → List (List ℕ)
lines_from line [] = if length line == 0 then [] else line ∷ []
lines_from line (b ∷ bs) = if b == 10 then line ∷ lines_from [] bs else lines_from (line ++ b ∷ []) bs

abbrev pub lines_of : List ℕ → List (List ℕ)
lines_of bytes = lines_from [] bytes

-- these lines end in the bytes, and the rest is a line that has begun
abbrev pub AreEnded : List ℕ → List (List ℕ) → List ℕ → Type 0
AreEnded bytes lines begun = (more : List ℕ) → lines_of (bytes ++ more) ≡ lines ++ lines_from begun more

-- what a line with its number may be answered
module _ (Says : List ℕ → ℕ → List ℕ → Type 0) where
  -- the answers to these lines, of which the first has this number, each with its end
  abbrev pub AreAnswers : ℕ → List (List ℕ) → List ℕ → Type 0
  AreAnswers n [] text = text ≡ []
  AreAnswers n (line ∷ lines) text = (out : List ℕ) × (rest : List ℕ) × Says (take kept_bytes line) n out × (text ≡ (out ++ codes "\n") ++ rest) ×
      AreAnswers (n + 1) lines rest

  -- the input was read to its end, and each of its lines was answered in its order
  pub record IsServed (old new before after : Option (List ℕ)) : Type 0 where
    pub bytes : List ℕ
    pub text : List ℕ
    pub reads : Consumes old new bytes
    pub end : IsAtEnd new
    pub answers : AreAnswers 1 (lines_of bytes) text
    pub writes : Appends before after text

  -- the input failed: each line that ended in the bytes before was answered, and the one that had begun was not
  pub record IsServiceUnread (old new before after : Option (List ℕ)) : Type 0 where
    pub bytes : List ℕ
    pub lines : List (List ℕ)
    pub begun : List ℕ
    pub text : List ℕ
    pub reads : Consumes old new bytes
    pub parts : AreEnded bytes lines begun
    pub answers : AreAnswers 1 lines text
    pub writes : Appends before after text

  -- nothing was said of a line, nor of what the same read gave after it, and each line before it was answered
  pub record IsUnanswered (old new before after : Option (List ℕ)) : Type 0 where
    pub bytes : List ℕ
    pub lines : List (List ℕ)
    pub last : List ℕ
    pub ahead : List ℕ
    pub text : List ℕ
    pub reads : Consumes old new (bytes ++ ahead)
    pub few : length ahead ≤ block_bytes
    pub parts : lines_of bytes ≡ lines ++ last ∷ []
    pub answers : AreAnswers 1 lines text
    pub writes : Appends before after text

  -- the output failed: each line that ended before the last read was answered; of the answers to lines that ended in what it gave a first part was written
  pub record IsServiceUnwritten (old new before after : Option (List ℕ)) : Type 0 where
    -- before the last read
    pub bytes : List ℕ
    pub lines : List (List ℕ)
    pub begun : List ℕ
    pub text : List ℕ
    pub parts : AreEnded bytes lines begun
    pub answers : AreAnswers 1 lines text
    -- what it gave, as far as its lines had answers, and the rest
    pub block : List ℕ
    pub ahead : List ℕ
    pub few : length block + length ahead ≤ block_bytes
    pub reads : Consumes old new (bytes ++ (block ++ ahead))
    -- the lines up to there, but at most one that had no answer yet
    pub later : List (List ℕ)
    pub others : List (List ℕ)
    pub later_parts : lines_of (bytes ++ block) ≡ lines ++ (later ++ others)
    pub one : length others ≤ 1
    pub done : List ℕ
    pub rest : List ℕ
    pub later_answers : AreAnswers (1 + length lines) later (done ++ rest)
    pub writes : Appends before after (text ++ done)

  -- there was no memory to begin with
  abbrev pub IsUnbegun : Option (List ℕ) → Option (List ℕ) → Option (List ℕ) → Option (List ℕ) → Type 0
  IsUnbegun old new before after = Keeps old new × Keeps before after

  -- the service ended before its input did
  abbrev pub IsServiceBroken : AskError → Option (List ℕ) → Option (List ℕ) → Option (List ℕ) → Option (List ℕ) → Type 0
  IsServiceBroken OutOfMemory old new before after = IsUnbegun old new before after ⊎ IsUnanswered old new before after
  IsServiceBroken NotHeld old new before after = IsUnanswered old new before after
  IsServiceBroken ReadFailed old new before after = IsServiceUnread old new before after
  IsServiceBroken WriteFailed old new before after = IsServiceUnwritten old new before after
  IsServiceBroken OutputClosed old new before after = IsServiceUnwritten old new before after

  -- a line is answered after these answers: a first part of all that is written, and the rest is left
  abbrev pub IsLineDone : List ℕ → ℕ → List ℕ → List ℕ → Option (List ℕ) → Option (List ℕ) → Type 0
  IsLineDone line n answers left before after = (out : List ℕ) × (done : List ℕ) × Says line n out × (answers ++ (out ++ codes "\n") ≡ done ++ left) ×
      Appends before after done

  -- the output failed at these answers, or at them and that to the line
  abbrev pub IsCut : List ℕ → ℕ → List ℕ → Option (List ℕ) → Option (List ℕ) → Type 0
  IsCut line n answers before after = AppendsPart before after answers ⊎ ((out : List ℕ) × Says line n out × AppendsPart before after
      (answers ++ (out ++ codes "\n")))

  -- the answer to a line failed after these answers: they are written, or a first part of them
  abbrev pub IsLineBroken : AskError → List ℕ → ℕ → List ℕ → Option (List ℕ) → Option (List ℕ) → Type 0
  IsLineBroken OutOfMemory line n answers before after = Appends before after answers
  IsLineBroken NotHeld line n answers before after = Appends before after answers
  IsLineBroken ReadFailed line n answers before after = ⊥
  IsLineBroken WriteFailed line n answers before after = IsCut line n answers before after
  IsLineBroken OutputClosed line n answers before after = IsCut line n answers before after

-- the output failed
abbrev pub IsAskOutputError : AskError → Type 0
IsAskOutputError OutOfMemory = ⊥
IsAskOutputError NotHeld = ⊥
IsAskOutputError ReadFailed = ⊥
IsAskOutputError WriteFailed = Unit {0}
IsAskOutputError OutputClosed = Unit {0}

-- a line could not be answered
abbrev pub IsOfLine : AskError → Type 0
IsOfLine OutOfMemory = Unit {0}
IsOfLine NotHeld = Unit {0}
IsOfLine ReadFailed = ⊥
IsOfLine WriteFailed = ⊥
IsOfLine OutputClosed = ⊥

-- the numbers of the errors
abbrev pub ask_error_number : AskError → ℕ
ask_error_number OutOfMemory = 1
ask_error_number NotHeld = 2
ask_error_number ReadFailed = 3
ask_error_number WriteFailed = 4
ask_error_number OutputClosed = 5
