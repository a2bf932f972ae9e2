-- How hard each move is to answer, as JSON trees.
use Rattle.std.specs.Prelude.{◌≡◌, ℕ, Bool, List, codes, Option, None, Some}
use Rattle.serde_json.specs.Data.{Data, object, member, no_members, null, string}
use Rattle.gm_game.specs.declared.position.Position.{Position}
use Rattle.gm_game.specs.Rules.{Rules}
use Rattle.gm_play.specs.declared.move_values.MoveValue.{MoveValue}
use Rattle.gm_play.specs.declared.replies.Replies.{Replies}
use Rattle.gm_play.specs.MoveValues.{AreMoveValues, BeginsBest}
use Rattle.gm_play.specs.Firsts.{chosen}
use Rattle.gm_play.specs.PlayTexts.{value_word, IsReadAs}
use Rattle.gm_play.specs.Replies.{AreReplies, AreInTurn}
use Rattle.gm_json.specs.Words.{whole, text, line_of}

-- a number, or null
abbrev pub or_null : Option ℕ → Data
or_null None = null
or_null (Some n) = whole n

module _ (shown : Position → List ℕ) (move_shown : Position → ℕ → List ℕ) where
  -- a move of p with the replies to it; the members in alphabetical order
  abbrev pub replies_tree : Position → MoveValue → Replies → Data
  replies_tree p x s = object
      (member (codes "keeping") (whole s.kept)
      (member (codes "losesIn") (or_null s.soon)
      (member (codes "move") (text (move_shown p x.number))
      (member (codes "moveRemoteness") (whole x.worth.remoteness)
      (member (codes "moveValue") (string (value_word x.worth.value))
      (member (codes "position") (text (shown x.position))
      (member (codes "replies") (whole s.all) no_members)))))))

module _ (r : Rules) (shown : Position → List ℕ) (move_shown : Position → ℕ → List ℕ) where
  abbrev pub IsRepliesLine : Position → MoveValue → List ℕ → Type 0
  IsRepliesLine p x out = (s : Replies) × AreReplies r x.position s × (out ≡ line_of (replies_tree shown move_shown p x s))

  -- the lines of the moves of the position with this text, the best first; if they are to be distinct, only the first of several moves to one canonical position
  pub record IsRepliesJson (distinct : Bool) (asked out : List ℕ) : Type 0 where
    pub position : Position
    pub read : IsReadAs r shown move_shown asked position
    pub moves : List MoveValue
    pub values : AreMoveValues r position moves
    pub best : BeginsBest r position moves
    pub lines : AreInTurn (IsRepliesLine position) (chosen r distinct moves) out
