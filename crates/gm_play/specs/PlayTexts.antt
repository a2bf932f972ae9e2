-- The texts of answers: values, moves and lines of play.
use Rattle.std.specs.Prelude.{◌≡◌, ℕ, ◌-◌, Bool, true, List, [], ◌∷◌, ◌++◌, codes}
use Rattle.std.specs.Fmt.{decimal}
use Rattle.std.specs.List.{Contains, flat_map}
use Rattle.gm_game.specs.declared.position.Position.{Position}
use Rattle.gm_game.specs.declared.position.Solved.{Solved}
use Rattle.gm_game.specs.declared.position.Value.{Value}
use Rattle.gm_game.specs.declared.position.Value.TheVariants.{Lose, Draw, Tie, Win}
use Rattle.gm_game.specs.Records.{solved}
use Rattle.gm_game.specs.Rules.{Rules}
use Rattle.gm_game.specs.Texts.{text_of}
use Rattle.gm_game.specs.Values.{IsTrueValue}
use Rattle.gm_play.specs.declared.best_line.BestLine.{BestLine}
use Rattle.gm_play.specs.declared.best_line.LineEnd.{LineEnd}
use Rattle.gm_play.specs.declared.best_line.LineEnd.TheVariants.{Over, Again, Cut}
use Rattle.gm_play.specs.declared.move_values.MoveValue.{MoveValue}
use Rattle.gm_play.specs.BestMoves.{wanted_from}
use Rattle.gm_play.specs.BestLines.{IsBestLine, IsWhole}
use Rattle.gm_play.specs.Firsts.{chosen}
use Rattle.gm_play.specs.MoveValues.{AreMoveValues, BeginsBest}

-- the word of a value
abbrev pub value_word : Value → List ℕ
value_word Lose = codes "lose"
value_word Draw = codes "draw"
value_word Tie = codes "tie"
value_word Win = codes "win"

-- three fields of a line
abbrev pub row_of_three : List ℕ → List ℕ → List ℕ → List ℕ
row_of_three a b c = a ++ codes "\t" ++ b ++ codes "\t" ++ c ++ codes "\n"

-- the row that refers to the earlier row of the last position
abbrev pub end_row : LineEnd → List ℕ
end_row Over = []
end_row (Again k) = codes "again " ++ decimal k ++ codes "\n"
end_row Cut = []

-- the value of the result of the best move, by the value of the position before it
abbrev pub after_best : Solved → Solved
after_best s = solved (wanted_from s.value) (s.remoteness - 1)

-- a move of p with a legal result
abbrev pub IsMoveOf : Rules → Position → MoveValue → Type 0
IsMoveOf r p x = Contains (r.moves p) x.number × (r.is_legal x.position ≡ true)

-- the moves of p, the best first; if they are to be distinct, only the first of several moves to the same canonical position
pub record AreMovesOf (r : Rules) (distinct : Bool) (p : Position) (these : List MoveValue) : Type 0 where
  pub list : List MoveValue
  pub values : AreMoveValues r p list
  pub best : BeginsBest r p list
  pub are : these ≡ chosen r distinct list

module _ (r : Rules) (shown : Position → List ℕ) (move_shown : Position → ℕ → List ℕ) where
  -- the legal position with this text
  abbrev pub IsReadAs : List ℕ → Position → Type 0
  IsReadAs text p = (r.is_legal p ≡ true) × (shown p ≡ text)

  -- no legal position has this text
  abbrev pub IsNoPosition : List ℕ → Type 0
  IsNoPosition text = (p : Position) → IsReadAs text p → ⊥

  -- the text of the value of the position with this text
  abbrev pub IsAnswerText : List ℕ → List ℕ → Type 0
  IsAnswerText text out = (p : Position) × IsReadAs text p × (s : Solved) × IsTrueValue r p s × (out ≡ text_of s)

  -- the row of a move: its text, its worth, and its result
  abbrev pub move_row : Position → MoveValue → List ℕ
  move_row p x = row_of_three (move_shown p x.number) (text_of x.worth) (shown x.position)

  -- the rows of the moves of the position with this text, the best first; if they are to be distinct, only the first of several moves to the same canonical
  -- position
  abbrev pub AreMoveRows : Bool → List ℕ → List ℕ → Type 0
  AreMoveRows distinct text out = (p : Position) × IsReadAs text p × (list : List MoveValue) × AreMoveValues r p list × BeginsBest r p list ×
      (out ≡ flat_map (move_row p) (chosen r distinct list))

  -- the rows of a line: each move, its result, and the true value of the result
  abbrev pub AreLineRows : Position → List ℕ → List ℕ → Type 0
  AreLineRows p [] out = out ≡ []
  AreLineRows p (m ∷ ms) out = (s : Solved) × (rest : List ℕ) × IsTrueValue r (r.play p m) s × AreLineRows (r.play p m) ms rest ×
      (out ≡ row_of_three (move_shown p m) (shown (r.play p m)) (text_of s) ++ rest)

  -- the rows of best moves from a position of this value
  abbrev pub rows_from : Position → Solved → List ℕ → List ℕ
  rows_from p s [] = []
  rows_from p s (m ∷ ms) = row_of_three (move_shown p m) (shown (r.play p m)) (text_of (after_best s)) ++ rows_from (r.play p m) (after_best s) ms

  -- the rows of the line of best play from the position with this text
  pub record IsLineText (text : List ℕ) (limit : ℕ) (out : List ℕ) : Type 0 where
    pub start : Position
    pub read : IsReadAs text start
    pub value : Solved
    pub is_true : IsTrueValue r start value
    pub line : BestLine
    pub is_best : IsBestLine r start limit line
    pub whole : IsWhole r start limit line
    pub rows : List ℕ
    pub are_rows : AreLineRows start line.moves.items rows
    pub out_is : out ≡ row_of_three [] (shown start) (text_of value) ++ rows ++ end_row line.end
