-- What the moves of a position are worth, as a JSON tree.
use Rattle.std.specs.Prelude.{◌≡◌, ℕ, Bool, List, map, codes}
use Rattle.serde_json.specs.Data.{Data, string, array, object, Members, member, no_members}
use Rattle.serde_json.specs.View.{items_of}
use Rattle.serde_json.specs.Written.{compact_text}
use Rattle.gm_game.specs.declared.position.Position.{Position}
use Rattle.gm_game.specs.declared.position.Solved.{Solved}
use Rattle.gm_game.specs.Rules.{Rules}
use Rattle.gm_game.specs.Values.{IsTrueValue}
use Rattle.gm_play.specs.declared.move_values.MoveValue.{MoveValue}
use Rattle.gm_play.specs.Firsts.{chosen}
use Rattle.gm_play.specs.MoveValues.{AreMoveValues, BeginsBest}
use Rattle.gm_play.specs.PlayTexts.{value_word, IsReadAs}
use Rattle.gm_json.specs.Words.{whole, text}

module _ (r : Rules) (shown : Position → List ℕ) (move_shown : Position → ℕ → List ℕ) where
  -- a move, what it is worth to the side that makes it, its result, and the value and remoteness of that; last the remoteness counted from before the move, and
  -- then more
  abbrev pub move_members : Position → MoveValue → Members → Members
  move_members p x more =
      member (codes "move") (text (move_shown p x.number))
      (member (codes "moveValue") (string (value_word x.worth.value))
      (member (codes "position") (text (shown x.position))
      (member (codes "positionValue") (string (value_word x.result.value))
      (member (codes "remoteness") (whole x.result.remoteness)
      (member (codes "moveRemoteness") (whole x.worth.remoteness) more)))))

  abbrev pub move_tree : Position → MoveValue → Data
  move_tree p x = object (move_members p x no_members)

  abbrev pub move_trees : Position → List MoveValue → Data
  move_trees p xs = array (items_of (map (move_tree p) xs))

  -- a position, its value and its remoteness, and then more
  abbrev pub position_members : Position → Solved → Members → Members
  position_members p s more =
      member (codes "position") (text (shown p))
      (member (codes "positionValue") (string (value_word s.value))
      (member (codes "remoteness") (whole s.remoteness) more))

  -- a position with its moves, its value and its remoteness
  abbrev pub moves_tree : Position → Solved → List MoveValue → Data
  moves_tree p s xs = object (member (codes "moves") (move_trees p xs) (position_members p s no_members))

  -- the position with this text: its true value and its moves, the best first; where they are to be distinct, the first of those that lead to one canonical
  -- position
  pub record IsMovesJson (distinct : Bool) (asked out : List ℕ) : Type 0 where
    pub position : Position
    pub read : IsReadAs r shown move_shown asked position
    pub value : Solved
    pub is_true : IsTrueValue r position value
    pub list : List MoveValue
    pub values : AreMoveValues r position list
    pub best : BeginsBest r position list
    pub out_is : out ≡ compact_text (moves_tree position value (chosen r distinct list))
