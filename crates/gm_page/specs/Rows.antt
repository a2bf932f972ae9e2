-- Rows: the lines of a page that describe its positions.
use Rattle.std.specs.Prelude.{◌≡◌, ℕ, ◌<◌, List, [], ◌∷◌, ◌++◌, map, length, slice_get, IfSome, Option, None, Some}
use Rattle.std.specs.List.{All, flat_map}
use Rattle.serde_json.specs.Data.{Data, array}
use Rattle.serde_json.specs.View.{items_of}
use Rattle.gm_game.specs.declared.position.Position.{Position}
use Rattle.gm_game.specs.declared.position.Solved.{Solved}
use Rattle.gm_game.specs.Rules.{Rules}
use Rattle.gm_play.specs.declared.move_values.MoveValue.{MoveValue}
use Rattle.gm_play.specs.MoveValues.{AreMoveValues}
use Rattle.gm_json.specs.Words.{text, whole}
use Rattle.gm_game.specs.Texts.{text_of}
use Rattle.gm_game.specs.Values.{IsTrueValue}
use Rattle.gm_page.specs.Listings.{place_of}

-- ---- groups
-- moves of equal worth, and their worth
pub record Group : Type 0 where
  pub worth : Solved
  pub moves : List MoveValue

-- the longest run of moves of equal worth before the rest
pub record IsRunOfMoves (g : Group) (rest : List MoveValue) : Type 0 where
  pub some : 0 < length g.moves
  pub same : All (λ (x : MoveValue). x.worth ≡ g.worth) g.moves
  pub ends : IfSome (slice_get rest 0) (λ (x : MoveValue). x.worth ≡ g.worth → ⊥)

-- the moves in groups, in their order
abbrev pub AreGroups : List MoveValue → List Group → Type 0
AreGroups xs [] = xs ≡ []
AreGroups xs (g ∷ gs) = (rest : List MoveValue) × (xs ≡ g.moves ++ rest) × IsRunOfMoves g rest × AreGroups rest gs

-- ---- trees
-- the number of a row, if there is one
abbrev pub place_cells : Option ℕ → List Data
place_cells None = []
place_cells (Some k) = whole k ∷ []

module _ (shown : Position → List ℕ) (move_shown : Position → ℕ → List ℕ) (all : List Position) where
  -- the text of a move, and the number of its result's row if the page has it
  abbrev pub move_cells : Position → MoveValue → List Data
  move_cells p x = text (move_shown p x.number) ∷ place_cells (place_of all x.position)

  -- a group: the worth of its moves, counted from before the move, and then each of them
  abbrev pub group_cells : Position → Group → List Data
  group_cells p g = text (text_of g.worth) ∷ flat_map (move_cells p) g.moves

  abbrev pub group_tree : Position → Group → Data
  group_tree p g = array (items_of (group_cells p g))

  -- a position: its text, its value, and its moves in groups
  abbrev pub row_cells : Position → Solved → List Group → List Data
  row_cells p s gs = text (shown p) ∷ text (text_of s) ∷ map (group_tree p) gs

  abbrev pub row_tree : Position → Solved → List Group → Data
  row_tree p s gs = array (items_of (row_cells p s gs))

-- ---- rows
module _ (r : Rules) (shown : Position → List ℕ) (move_shown : Position → ℕ → List ℕ) (all : List Position) where
  -- the row of a position: its true value, and all of its moves, the best first
  pub record IsRow (p : Position) (tree : Data) : Type 0 where
    pub value : Solved
    pub is_true : IsTrueValue r p value
    pub list : List MoveValue
    pub values : AreMoveValues r p list
    pub groups : List Group
    pub grouped : AreGroups list groups
    pub tree_is : tree ≡ row_tree shown move_shown all p value groups

  -- the rows of these positions, in their order
  abbrev pub AreRows : List Position → List Data → Type 0
  AreRows [] [] = Unit {0}
  AreRows [] (d ∷ ds) = ⊥
  AreRows (p ∷ ps) [] = ⊥
  AreRows (p ∷ ps) (d ∷ ds) = IsRow p d × AreRows ps ds
