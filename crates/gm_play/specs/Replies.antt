-- How hard each move is to answer: the replies to it.
use Rattle.std.specs.Prelude.{◌≡◌, ℕ, ◌-◌, Bool, true, false, List, [], ◌∷◌, ◌++◌, codes, count_by, length, slice_get, Option, None, Some, option_and_then}
use Rattle.std.specs.Fmt.{decimal}
use Rattle.gm_game.specs.declared.position.Position.{Position}
use Rattle.gm_game.specs.declared.position.Solved.{Solved}
use Rattle.gm_game.specs.declared.position.Value.{Value}
use Rattle.gm_game.specs.declared.position.Value.TheVariants.{Lose, Draw, Tie, Win}
use Rattle.gm_game.specs.Rules.{Rules}
use Rattle.gm_game.specs.Texts.{text_of}
use Rattle.gm_game.specs.Values.{IsTrueValue}
use Rattle.gm_play.specs.declared.move_values.MoveValue.{MoveValue}
use Rattle.gm_play.specs.declared.replies.Replies.{Replies}
use Rattle.gm_play.specs.MoveValues.{AreMoveValues, BeginsBest}
use Rattle.gm_play.specs.Firsts.{chosen}
use Rattle.gm_play.specs.PlayTexts.{IsReadAs}

abbrev pub same_value : Value → Value → Bool
same_value Lose Lose = true
same_value Draw Draw = true
same_value Tie Tie = true
same_value Win Win = true
same_value a b = false

-- a move is worth this value
abbrev pub keeps : Value → MoveValue → Bool
keeps v x = same_value x.worth.value v

-- in how many moves a move of this worth loses, if it loses
abbrev pub loss_in : Value → ℕ → Option ℕ
loss_in Lose n = Some n
loss_in v n = None

abbrev pub loss_of : MoveValue → Option ℕ
loss_of x = loss_in x.worth.value x.worth.remoteness

-- the number of moves of q, the number of those that keep its value, and in how many moves the worst of them, which is the last, loses, if it loses
pub record AreReplies (r : Rules) (q : Position) (s : Replies) : Type 0 where
  pub value : Solved
  pub is_true : IsTrueValue r q value
  pub moves : List MoveValue
  pub are : AreMoveValues r q moves
  pub all : s.all ≡ length moves
  pub kept : s.kept ≡ count_by (keeps value.value) moves
  pub soon : s.soon ≡ option_and_then loss_of (slice_get moves (length moves - 1))

-- a row or a line for each of these moves, in their order
abbrev pub AreInTurn : (MoveValue → List ℕ → Type 0) → List MoveValue → List ℕ → Type 0
AreInTurn IsRow [] out = out ≡ []
AreInTurn IsRow (x ∷ xs) out = (row : List ℕ) × (rest : List ℕ) × IsRow x row × AreInTurn IsRow xs rest × (out ≡ row ++ rest)

-- a number, or nothing
abbrev pub soon_text : Option ℕ → List ℕ
soon_text None = []
soon_text (Some n) = decimal n

abbrev pub field : List ℕ → List ℕ
field text = text ++ codes "\t"

module _ (shown : Position → List ℕ) (move_shown : Position → ℕ → List ℕ) where
  -- the row of a move of p: its text, its worth, its result, the numbers of replies that keep the result's value and of all replies, and how soon one loses
  abbrev pub replies_row : Position → MoveValue → Replies → List ℕ
  replies_row p x s =
      field (move_shown p x.number) ++ field (text_of x.worth) ++ field (shown x.position) ++ field (decimal s.kept) ++ field (decimal s.all)
      ++ (soon_text s.soon ++ codes "\n")

module _ (r : Rules) (shown : Position → List ℕ) (move_shown : Position → ℕ → List ℕ) where
  abbrev pub IsRepliesRow : Position → MoveValue → List ℕ → Type 0
  IsRepliesRow p x out = (s : Replies) × AreReplies r x.position s × (out ≡ replies_row shown move_shown p x s)

  -- the rows of the moves of the position with this text, as without replies
  pub record IsRepliesText (distinct : Bool) (text out : List ℕ) : Type 0 where
    pub position : Position
    pub read : IsReadAs r shown move_shown text position
    pub moves : List MoveValue
    pub values : AreMoveValues r position moves
    pub best : BeginsBest r position moves
    pub rows : AreInTurn (IsRepliesRow position) (chosen r distinct moves) out
