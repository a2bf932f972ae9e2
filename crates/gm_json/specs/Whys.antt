-- Why a position has its value, as JSON trees.
use Rattle.std.specs.Prelude.{◌≡◌, ℕ, true, List, [], ◌∷◌, ◌++◌, codes, Option}
use Rattle.serde_json.specs.Data.{Data, object, member, no_members}
use Rattle.gm_game.specs.declared.position.Position.{Position}
use Rattle.gm_game.specs.declared.position.Solved.{Solved}
use Rattle.gm_game.specs.Rules.{Rules}
use Rattle.gm_game.specs.Values.{IsTrueValue}
use Rattle.gm_play.specs.BestMoves.{IsBestMove}
use Rattle.gm_play.specs.declared.move_values.MoveValue.{MoveValue}
use Rattle.gm_play.specs.MoveValues.{AreMoveValues, BeginsBest}
use Rattle.gm_play.specs.PlayTexts.{IsReadAs}
use Rattle.gm_play.specs.Why.{left_after}
use Rattle.gm_json.specs.Words.{move_or_null, line_of}
use Rattle.gm_json.specs.Moves.{move_members, position_members}

module _ (r : Rules) (shown : Position → List ℕ) (move_shown : Position → ℕ → List ℕ) where
  -- a position with its value
  abbrev pub after_tree : Position → Solved → Data
  after_tree q s = object (position_members r shown move_shown q s no_members)

  -- a move of p, the best answer to it, and the position after that with its value
  abbrev pub reply_tree : Position → MoveValue → Option ℕ → Solved → Data
  reply_tree p x answer s = object (move_members r shown move_shown p x (member (codes "bestMove") (move_or_null move_shown x.position answer)
      (member (codes "after") (after_tree (left_after r x.position answer) s) no_members)))

  -- the line of a move of p: with the best answer, and the true value of the position after that
  pub record IsReplyLine (p : Position) (x : MoveValue) (out : List ℕ) : Type 0 where
    pub answer : Option ℕ
    pub best : IsBestMove r x.position answer
    pub value : Solved
    pub is_true : IsTrueValue r (left_after r x.position answer) value
    pub out_is : out ≡ line_of (reply_tree p x answer value)

  -- the lines of these moves of p, in their order
  abbrev pub AreReplyLines : Position → List MoveValue → List ℕ → Type 0
  AreReplyLines p [] out = out ≡ []
  AreReplyLines p (x ∷ xs) out = (line : List ℕ) × (rest : List ℕ) × IsReplyLine p x line × AreReplyLines p xs rest × (out ≡ line ++ rest)

  -- the lines of the moves of the position with this text, the best first
  pub record IsWhyJson (asked out : List ℕ) : Type 0 where
    pub position : Position
    pub read : IsReadAs r shown move_shown asked position
    pub moves : List MoveValue
    pub values : AreMoveValues r position moves
    pub best : BeginsBest r position moves
    pub lines : AreReplyLines position moves out
