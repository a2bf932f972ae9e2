-- The dialogue of a session: the text that is written in answer to the input.
use Rattle.std.specs.Prelude.{ℕ, ◌+◌, ◌-◌, List, [], ◌∷◌, ◌++◌, length, take, codes, ◌==◌, if◌then◌else◌, Option, None, Some, drop}
use Rattle.gm_game.specs.declared.position.Position.{Position}
use Rattle.gm_game.specs.declared.position.Solved.{Solved}
use Rattle.gm_game.specs.declared.position.End.{End}
use Rattle.gm_game.specs.Rules.{Rules}
use Rattle.gm_game.specs.Texts.{text_of}
use Rattle.gm_game.specs.Values.{IsTrueValue}
use Rattle.std.specs.List.{find}
use Rattle.std.specs.Str.{bytes_eq}
use Rattle.gm_play.specs.declared.sides.Side.{Side}
use Rattle.gm_play.specs.declared.sides.Side.TheVariants.{You, Computer}
use Rattle.gm_play.specs.BestMoves.{IsBestMove}
use Rattle.gm_play.specs.Endings.{winner, over}
use Rattle.gm_play.specs.Reached.{IsReached}
use Rattle.gm_play.specs.declared.view.Question.{Question}
use Rattle.gm_play.specs.declared.view.Question.TheVariants.{First, Again}

-- a look-up of values and best moves
pub record Advice : Type 0 where
  pub value : Position → Solved
  pub best : Position → Option ℕ

-- the look-up has the true value and the best move of every legal position that is reached from this tier
abbrev pub IsRightAdvice : Rules → ℕ → Advice → Type 0
IsRightAdvice r tier k = (p : Position) → IsReached r tier p → IsTrueValue r p (k.value p) × IsBestMove r p (k.best p)

-- a part of a dialogue up to the next question: its text; the position of the question, or none if the session ends; the number of moves played; and the
-- winner, if the game ends
pub record Said : Type 0 where
  pub text : List ℕ
  pub asked : Option Position
  pub moves : ℕ
  pub ending : Option (Option Side)

-- the part of a dialogue, with a text before it
abbrev pub before : List ℕ → Said → Said
before text said = record { text = text ++ said.text; asked = said.asked; moves = said.moves; ending = said.ending }

-- the part of a dialogue, with one more move played before it
abbrev pub after_move : Said → Said
after_move said = record { text = said.text; asked = said.asked; moves = 1 + said.moves; ending = said.ending }

-- a part of a dialogue that ends the session
abbrev pub ends : List ℕ → Said
ends text = record { text = text; asked = None; moves = 0; ending = None }

-- a question
abbrev pub asks : List ℕ → Position → Said
asks text p = record { text = text; asked = Some p; moves = 0; ending = None }

abbrev pub game_over : Side → End → Said
game_over s e = record { text = over s e; asked = None; moves = 0; ending = Some (winner s e) }

-- a line without the carriage return at its end
abbrev pub without_return : List ℕ → List ℕ
without_return line = let n = length line - 1 in if bytes_eq (drop n line) (13 ∷ []) then take n line else line

-- the text after a question, if one was asked
abbrev pub text_after : (Position → List ℕ) → Option Position → List ℕ
text_after f None = []
text_after f (Some p) = f p

abbrev pub count_after : (Position → ℕ) → Option Position → ℕ
count_after f None = 0
count_after f (Some p) = f p

-- the number of moves played, and the winner, if the game has ended
pub record Course : Type 0 where
  pub moves : ℕ
  pub ending : Option (Option Side)

abbrev pub unmoved : Course
unmoved = record { moves = 0; ending = None }

-- the course of a part of a dialogue, and then that after its question
abbrev pub course_with : Said → Option Position → (Position → Course) → Course
course_with said None f = record { moves = said.moves; ending = said.ending }
course_with said (Some q) f = record { moves = said.moves + (f q).moves; ending = (f q).ending }

abbrev pub course_after : Said → (Position → Course) → Course
course_after said f = course_with said said.asked f

-- a view that adds nothing to the lines of the dialogue
abbrev pub unseen : Question → Position → List ℕ
unseen q p = []

-- nothing is written yet
abbrev pub waiting : Position → List ℕ → List ℕ
waiting p line = []

module _ (r : Rules) (shown : Position → List ℕ) (move_shown : Position → ℕ → List ℕ) where
  -- the move with this text, if there is one; no move has a text of more than 64 bytes
  abbrev pub move_read : Position → List ℕ → Option ℕ
  move_read p text = find (λ m. bytes_eq (move_shown p m) text) (r.moves p)

  module _ (k : Advice) (seen : Question → Position → List ℕ) where
    -- the view of the position, and the question, which is asked again after a line that is not a move
    abbrev pub question : Question → Position → List ℕ
    question q p = seen q p ++ codes "your move?\n"

    -- the line with a position and its value
    abbrev pub position_line : Position → List ℕ
    position_line p = shown p ++ codes " " ++ text_of (k.value p) ++ codes "\n"

    -- the part of the dialogue after the position if the person is to move
    abbrev pub asks_or_ends : Position → Option End → Said
    asks_or_ends p (Some e) = game_over You e
    asks_or_ends p None = asks (question First p) p

    abbrev pub persons_turn : Position → Said
    persons_turn p = before (position_line p) (asks_or_ends p (r.primitive p))

    -- the part of the dialogue after the position if the computer is to move, up to the person's turn
    abbrev pub moves_or_ends : Position → Option End → Option ℕ → Said
    moves_or_ends p (Some e) best = game_over Computer e
    moves_or_ends p None None = ends []
    moves_or_ends p None (Some m) = after_move (before (codes "computer" ++ codes ": " ++ move_shown p m ++ codes "\n") (persons_turn (r.play p m)))

    abbrev pub computers_turn : Position → Said
    computers_turn p = before (position_line p) (moves_or_ends p (r.primitive p) (k.best p))

    -- the part of the dialogue if this side is to move
    abbrev pub turn : Position → Side → Said
    turn p You = persons_turn p
    turn p Computer = computers_turn p

    -- the answer to a line
    abbrev pub answer_to : Position → Option ℕ → Said
    answer_to p None = asks (codes "not a move\n" ++ question Again p) p
    answer_to p (Some m) = after_move (computers_turn (r.play p m))

    abbrev pub reply : Position → List ℕ → Said
    reply p line = let text = without_return line in if bytes_eq text (codes "quit") then ends (codes "bye\n") else answer_to p (move_read p text)

    -- the text if the input ends after these bytes of a line
    abbrev pub closing : Position → List ℕ → List ℕ
    closing p line = if length line == 0 then codes "input ended\n" else (reply p line).text ++ text_after (λ q. codes "input ended\n") (reply p line).asked

    -- the person is asked at p and has given these bytes of a line; the text for further bytes, and then the text at their end
    unfoldable pub talk : (Position → List ℕ → List ℕ) → Position → List ℕ → List ℕ → List ℕ
    talk at_end p line [] = at_end p line
    talk at_end p line (b ∷ bs) = if b == 10 then (reply p line).text ++ text_after (λ q. talk at_end q [] bs) (reply p line).asked else talk at_end p
        (line ++ b ∷ []) bs

    -- the number of these bytes that are read
    unfoldable pub count : Position → List ℕ → List ℕ → ℕ
    count p line [] = 0
    count p line (b ∷ bs) = 1 + (if b == 10 then count_after (λ q. count q [] bs) (reply p line).asked else count p (line ++ b ∷ []) bs)

    -- the text of a session over these bytes, and then the text at their end
    abbrev pub spoken : (Position → List ℕ → List ℕ) → Position → Side → List ℕ → List ℕ
    spoken at_end start first bytes = (turn start first).text ++ text_after (λ p. talk at_end p [] bytes) (turn start first).asked

    -- the text of a session over these bytes, after which the input ends
    abbrev pub dialogue : Position → Side → List ℕ → List ℕ
    dialogue start first bytes = spoken closing start first bytes

    -- the text of a session over these bytes so far, which further bytes may follow
    abbrev pub dialogue_so_far : Position → Side → List ℕ → List ℕ
    dialogue_so_far start first bytes = spoken waiting start first bytes

    -- the number of bytes that a session reads: none after the line that ends it
    abbrev pub used : Position → Side → List ℕ → ℕ
    used start first bytes = count_after (λ p. count p [] bytes) (turn start first).asked

    -- the moves that are played and the winner of the game, if it ends
    unfoldable pub course_from : Position → List ℕ → List ℕ → Course
    course_from p line [] = if length line == 0 then unmoved else course_after (reply p line) (λ q. unmoved)
    course_from p line (b ∷ bs) = if b == 10 then course_after (reply p line) (λ q. course_from q [] bs) else course_from p (line ++ b ∷ []) bs

    -- the course of the game in the dialogue over these bytes
    abbrev pub course : Position → Side → List ℕ → Course
    course start first bytes = course_after (turn start first) (λ p. course_from p [] bytes)
