-- The text of a position for people, and its diagram.
use Rattle.std.specs.Prelude.{◌≡◌, ℕ, Bool, true, false, List, [], ◌∷◌, ◌++◌, codes, if◌then◌else◌, Option, None, Some}
use Rattle.gm_game.specs.declared.position.Position.{Position}
use Rattle.gm_game.specs.declared.position.Solved.{Solved}
use Rattle.gm_game.specs.Rules.{Rules}
use Rattle.gm_game.specs.Texts.{text_of}
use Rattle.gm_game.specs.Values.{IsTrueValue}
use Rattle.gm_play.specs.BestMoves.{IsBestMove}
use Rattle.gm_play.specs.PlayTexts.{IsReadAs}
use Rattle.gm_draw.specs.declared.look.Look.{Look}
use Rattle.gm_draw.specs.Diagrams.{diagram_of, diagram_with}
use Rattle.gm_draw.specs.Pictures.{PictureSpec, drawn}
use Rattle.gm_draw.specs.Tikz.{tikz_with}

module _ (r : Rules) (shown : Position → List ℕ) (move_shown : Position → ℕ → List ℕ) (picture : PictureSpec) where
  -- the drawing, and the side to move with the value
  abbrev pub board_text : Position → Solved → List ℕ
  board_text p s = drawn picture shown p ++ codes "\n" ++ picture.mover p ++ codes " to move: " ++ text_of s ++ codes "\n"

  -- the first of some moves
  abbrev pub first_move : Position → List ℕ → List ℕ
  first_move p [] = []
  first_move p (m ∷ ms) = codes "A move here: " ++ move_shown p m ++ codes "\n"

  -- the description of how cells, positions and moves are written, with this position and one of its moves
  abbrev pub naming_text : Position → List ℕ
  naming_text p = codes "\n" ++ picture.naming ++ codes "This position: " ++ shown p ++ codes "\n" ++ first_move p (r.moves p)

  abbrev pub explained_text : Bool → Position → List ℕ
  explained_text explained p = if explained then naming_text p else []

  -- the text for people of the position with this text
  abbrev pub IsShowText : Bool → List ℕ → List ℕ → Type 0
  IsShowText explained text out = (p : Position) × IsReadAs r shown move_shown text p × (s : Solved) × IsTrueValue r p s ×
      (out ≡ board_text p s ++ explained_text explained p)

  -- the diagram of the position with this text
  abbrev pub IsDiagram : Bool → List ℕ → List ℕ → Type 0
  IsDiagram valued text out = (p : Position) × IsReadAs r shown move_shown text p × (s : Solved) × IsTrueValue r p s ×
      (out ≡ diagram_of picture shown valued p s)

  -- the text of the best move, if it is to be marked; no text if there is none
  abbrev pub marked_text : Bool → Position → Option ℕ → List ℕ
  marked_text false p best = []
  marked_text true p None = []
  marked_text true p (Some m) = move_shown p m

  -- what these documents of moves, positions and values are for the position with this text: on request, its best move is marked
  abbrev pub IsMarked : (List ℕ → Position → Solved → List ℕ) → Bool → List ℕ → List ℕ → Type 0
  IsMarked document arrow text out = (p : Position) × IsReadAs r shown move_shown text p × (s : Solved) × IsTrueValue r p s ×
      (best : Option ℕ) × IsBestMove r p best × (out ≡ document (marked_text arrow p best) p s)

  -- the SVG document of the position with this text, and its TikZ picture
  abbrev pub IsSvg : Look → Bool → List ℕ → List ℕ → Type 0
  IsSvg look = IsMarked (diagram_with picture shown look)

  abbrev pub IsTikz : Look → Bool → List ℕ → List ℕ → Type 0
  IsTikz look = IsMarked (tikz_with picture shown look)
