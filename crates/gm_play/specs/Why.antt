-- Why a position has its value: its moves, the best answer to each, and the result of the answer.
use Rattle.std.specs.Prelude.{◌≡◌, ℕ, true, List, [], ◌++◌, codes, map, Option, None, Some}
use Rattle.std.specs.List.{All, flat_map}
use Rattle.gm_game.specs.declared.position.Position.{Position}
use Rattle.gm_game.specs.declared.position.Solved.{Solved}
use Rattle.gm_game.specs.Rules.{Rules}
use Rattle.gm_game.specs.Texts.{text_of}
use Rattle.gm_game.specs.Values.{IsTrueValue}
use Rattle.gm_play.specs.BestMoves.{IsBestMove}
use Rattle.gm_play.specs.declared.move_values.MoveValue.{MoveValue}
use Rattle.gm_play.specs.declared.why.Exchange.{Exchange}
use Rattle.gm_play.specs.MoveValues.{AreMoveValues, BeginsBest}
use Rattle.gm_play.specs.PlayTexts.{row_of_three, IsReadAs, after_best}

abbrev pub made_of : Exchange → MoveValue
made_of x = x.made

-- the result of an answer; if there is no answer, the position itself
abbrev pub left_after : Rules → Position → Option ℕ → Position
left_after r q None = q
left_after r q (Some m) = r.play q m

-- the value of this result: after the best answer the opposite value, one move nearer the end
abbrev pub value_left : Solved → Option ℕ → Solved
value_left s None = s
value_left s (Some m) = after_best s

-- the best answer to the move, or `None` if the move has ended the game; the result, and its true value
pub record IsExchange (r : Rules) (x : Exchange) : Type 0 where
  pub legal : r.is_legal x.made.position ≡ true
  pub answer : IsBestMove r x.made.position x.answer
  pub left : x.left ≡ left_after r x.made.position x.answer
  pub left_legal : r.is_legal x.left ≡ true
  pub value : IsTrueValue r x.left x.value
  pub nearer : x.value ≡ value_left x.made.result x.answer

-- two fields that begin a line
abbrev pub two : List ℕ → List ℕ → List ℕ
two a b = (a ++ codes "\t") ++ (b ++ codes "\t")

-- five fields of a line
abbrev pub five : List ℕ → List ℕ → List ℕ → List ℕ → List ℕ → List ℕ
five a b c d e = two a b ++ row_of_three c d e

module _ (r : Rules) (shown : Position → List ℕ) (move_shown : Position → ℕ → List ℕ) where
  -- the text of an answer, which is empty if the game has ended
  abbrev pub answer_text : Position → Option ℕ → List ℕ
  answer_text q None = []
  answer_text q (Some m) = move_shown q m

  -- the row of a move of p: its text, its worth, the best answer, the result and its value
  abbrev pub exchange_row : Position → Exchange → List ℕ
  exchange_row p x = five (move_shown p x.made.number) (text_of x.made.worth) (answer_text x.made.position x.answer) (shown x.left) (text_of x.value)

  -- the rows of these moves of p, in their order
  pub record AreExchangeRows (p : Position) (moves : List MoveValue) (out : List ℕ) : Type 0 where
    pub exchanges : List Exchange
    pub made : map made_of exchanges ≡ moves
    pub each : All (IsExchange r) exchanges
    pub out_is : out ≡ flat_map (exchange_row p) exchanges

  -- the rows of the moves of the position with this text, the best first
  pub record IsWhyText (text : List ℕ) (out : List ℕ) : Type 0 where
    pub position : Position
    pub read : IsReadAs r shown move_shown text position
    pub moves : List MoveValue
    pub values : AreMoveValues r position moves
    pub best : BeginsBest r position moves
    pub rows : AreExchangeRows position moves out
