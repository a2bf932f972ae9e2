-- The run of a line of words.
use Rattle.std.specs.Prelude.{◌≡◌, ◌⊎◌, ℕ, ◌≤◌, List, [], ◌∷◌, Option, Some, codes, if◌then◌else◌}
use Rattle.std.specs.Str.{bytes_eq}
use Rattle.gm_command.specs.Contents.{content_of}
use Rattle.gm_command.specs.Readings.{AsksForHelp, IsBadLine, Say}
use Rattle.gm_command.specs.declared.requests.Request.{Request}
use Rattle.gamesman.specs.Answers.{IsRun}

-- the words of a line without `--explain`, which may be before the command
abbrev pub command_words : List (List ℕ) → List (List ℕ)
command_words [] = []
command_words (name ∷ []) = name ∷ []
command_words (name ∷ word ∷ words) = if bytes_eq word (codes "--explain") then name ∷ words else name ∷ word ∷ words

-- what is written to standard error for a bad line
abbrev pub bad_line : List ℕ
bad_line = codes "gamesman: bad line\n"

-- and if memory runs out before the line is read
abbrev pub no_memory_line : List ℕ
no_memory_line = codes "gamesman: out of memory\n"

-- the words make a request, and it is answered
pub record IsAnsweredLine (words : List (List ℕ)) (input before after : Option (List ℕ)) (status : ℕ) : Type 0 where
  pub request : Request
  pub said : Say words (Some (content_of request))
  pub run : IsRun request input before after status

-- a line of words is run: its request is answered; or it is a bad line, this is said on standard error, and nothing is written; or it asks for help, which is
-- written, or only a part of it; or memory runs out, which is said, and nothing is written
abbrev pub IsLineRun : (List ℕ → Type 0) → List (List ℕ) → Option (List ℕ) → Option (List ℕ) → Option (List ℕ) → ℕ → Type 0
IsLineRun IsSaid words input before after status =
    IsAnsweredLine words input before after status
    ⊎ ((IsBadLine words × (status ≡ 2) × (after ≡ before) × IsSaid bad_line)
    ⊎ ((AsksForHelp words × (status ≤ 1))
    ⊎ ((status ≡ 1) × (after ≡ before) × IsSaid no_memory_line)))

-- the same of the output and the status alone
abbrev pub IsOutputOf : List (List ℕ) → Option (List ℕ) → Option (List ℕ) → Option (List ℕ) → ℕ → Type 0
IsOutputOf = IsLineRun (λ _. Unit {0})
