-- Lines that name a game with which a service goes on.
use Rattle.std.specs.Prelude.{◌≡◌, ℕ, ◌+◌, ◌⊎◌, Bool, true, false, List, [], ◌∷◌, ◌++◌, length, take, codes, Option, Some, None, option_and_then, if◌then◌else◌, string_bytes}
use Rattle.std.specs.Io.KnownBytes.{Appends, Consumes, IsAtEnd}
use Rattle.serde_json.specs.Data.{Data, object, member, no_members}
use Rattle.serde_json.specs.Find.{get, as_str}
use Rattle.serde_json.specs.Written.{compact_text}
use Rattle.gm_play.specs.Dialogue.{without_return}
use Rattle.gm_json.specs.declared.turn.Turn.{Turn}
use Rattle.gm_json.specs.Words.{text}
use Rattle.gm_json.specs.Objects.{IsObject, is_named, id_in, with_id}
use Rattle.gm_json.specs.Answers.{read_bytes, unread_tree}
use Rattle.gm_json.specs.Asking.{kept_bytes, lines_of, AreEnded, AreAnswers}

-- the game that an object names, whatever its other members are but for an `id` that is none
abbrev pub game_of_object : Data → Option (List ℕ)
game_of_object d = if is_named d then option_and_then as_str (get (codes "game") d) else None

-- what is reported of a line that names a game, and of one that names none of the games
abbrev pub turn_tree : List ℕ → Data
turn_tree name = object (member (codes "game") (text name) no_members)

abbrev pub no_game_tree : ℕ → List ℕ → Data
no_game_tree n line = unread_tree (codes "no such game") n (take read_bytes line)

-- the object of the line with this number names the game of the turn, which has both answers
pub record IsTurnIn (d : Data) (line : List ℕ) (n : ℕ) (turn : Turn) : Type 0 where
  pub names : game_of_object d ≡ Some (string_bytes turn.name)
  pub there : turn.there.items ≡ with_id (id_in d) (compact_text (turn_tree (string_bytes turn.name))) ++ codes "\n"
  pub unknown : turn.unknown.items ≡ with_id (id_in d) (compact_text (no_game_tree n line)) ++ codes "\n"

-- the line with this number names the game of the turn
abbrev pub IsTurnOf : List ℕ → ℕ → Turn → Type 0
IsTurnOf line n turn = (d : Data) × IsObject (without_return line) d × IsTurnIn d (without_return line) n turn

-- the line names no game
abbrev pub IsNoTurn : List ℕ → Type 0
IsNoTurn line = (d : Data) → IsObject (without_return line) d → game_of_object d ≡ None

-- what a line may be answered after so many other lines; if the service ends where a line names a game, no such line is answered
abbrev pub answers_after : Bool → ℕ → (List ℕ → ℕ → List ℕ → Type 0) → List ℕ → ℕ → List ℕ → Type 0
answers_after false before Says = λ line n out. Says line (before + n) out
answers_after true before Says = λ line n out. IsNoTurn line × Says line (before + n) out

-- the lines up to one that names a game were answered in their order; no later byte was taken
pub record IsTurned (Says : List ℕ → ℕ → List ℕ → Type 0) (lines : List (List ℕ)) (last : List ℕ) (old new before after : Option (List ℕ)) : Type 0 where
  pub bytes : List ℕ
  pub text : List ℕ
  pub reads : Consumes old new bytes
  -- the line that names a game ended, or the input did
  pub parts : lines_of bytes ≡ lines ++ last ∷ []
  pub ends : AreEnded bytes (lines ++ last ∷ []) [] ⊎ IsAtEnd new
  pub answers : AreAnswers Says 1 lines text
  pub writes : Appends before after text

-- the turn is that of the line after those that were answered, where so many lines came before them
pub record IsTurnedTo (Says : List ℕ → ℕ → List ℕ → Type 0) (earlier n : ℕ) (turn : Turn) (old new before after : Option (List ℕ)) : Type 0 where
  pub lines : List (List ℕ)
  pub last : List ℕ
  pub number : n ≡ 1 + length lines
  pub turned : IsTurned Says lines last old new before after
  pub names : IsTurnOf (take kept_bytes last) (earlier + n) turn
