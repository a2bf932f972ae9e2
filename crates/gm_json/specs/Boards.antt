-- A position with its board, as a JSON tree.
use Rattle.std.specs.Prelude.{◌≡◌, ℕ, List, codes}
use Rattle.serde_json.specs.Data.{Data, object, member, no_members}
use Rattle.serde_json.specs.Written.{compact_text}
use Rattle.gm_game.specs.declared.position.Position.{Position}
use Rattle.gm_game.specs.declared.position.Solved.{Solved}
use Rattle.gm_game.specs.Rules.{Rules}
use Rattle.gm_game.specs.Values.{IsTrueValue}
use Rattle.gm_json.specs.Words.{text}
use Rattle.gm_json.specs.Moves.{position_members}

module _ (r : Rules) (shown : Position → List ℕ) (move_shown : Position → ℕ → List ℕ) (p : Position) (board mover : List ℕ) where
  -- the position, its value, the drawing of its board and the name of the side to move
  abbrev pub board_tree : Solved → Data
  board_tree s = object (position_members r shown move_shown p s (member (codes "board") (text board) (member (codes "toMove") (text mover) no_members)))

  -- the same with its true value
  abbrev pub IsBoardJson : List ℕ → Type 0
  IsBoardJson out = (s : Solved) × IsTrueValue r p s × (out ≡ compact_text (board_tree s))
