-- Texts and values in JSON.
use Rattle.std.specs.Prelude.{ℕ, List, ◌++◌, codes, Option, None, Some}
use Rattle.std.specs.Str.Lossy.{utf8_lossy}
use Rattle.serde_json.specs.Data.{Data, null, string, number, unsigned}
use Rattle.serde_json.specs.Written.{compact_text}
use Rattle.gm_game.specs.declared.position.Position.{Position}

abbrev pub whole : ℕ → Data
whole n = number (unsigned n)

-- a text, in which bytes that aren't UTF-8 are replaced
abbrev pub text : List ℕ → Data
text bs = string (utf8_lossy bs)

-- a move of p, and null if there is none
abbrev pub move_or_null : (Position → ℕ → List ℕ) → Position → Option ℕ → Data
move_or_null move_shown p None = null
move_or_null move_shown p (Some m) = text (move_shown p m)

-- a tree as a line of compact text
abbrev pub line_of : Data → List ℕ
line_of d = compact_text d ++ codes "\n"
