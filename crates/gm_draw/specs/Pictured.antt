-- The laws of pictures.
use Rattle.std.specs.Prelude.{◌≡◌, ℕ, ◌+◌, ◌≤◌, ◌↔◌, Bool, true, not, ◌==◌, List, ◌∷◌, length, count_by}
use Rattle.std.specs.List.{Contains, list_all, range_with_len}
use Rattle.gm_game.specs.declared.position.Position.{Position}
use Rattle.gm_game.specs.Rules.{Rules}
use Rattle.gm_draw.specs.declared.drawn.TheConstants.{DRAWING}
use Rattle.gm_draw.specs.declared.pictured.Style.{Style}
use Rattle.gm_draw.specs.declared.pictured.Style.TheVariants.{Chess, Figures}
use Rattle.gm_draw.specs.declared.pictured.Layout.{Layout}
use Rattle.gm_draw.specs.declared.pictured.Layout.TheVariants.{Template, Rows, Squares}
use Rattle.gm_draw.specs.Templates.{is_slot}
use Rattle.gm_draw.specs.Pictures.{PictureSpec, layout_of, drawn}
use Rattle.gm_draw.specs.Drawn.{IsDrawn}
use Rattle.gm_draw.specs.Points.{is_name, are_apart, IsPointWord}
use Rattle.gm_draw.specs.Chessboards.{chess_board, chess_points}

-- whether the board has the slot of the byte k once
abbrev pub has_place_once : List ℕ → ℕ → Bool
has_place_once board k = count_by (λ b. b == 65 + k) board == 1

-- a board with n slots, each once; texts have a byte for each
pub record IsBoard (r : Rules) (shown : Position → List ℕ) (board : List ℕ) (n : ℕ) : Type 0 where
  pub long : (p : Position) → r.is_legal p ≡ true → n ≤ length (shown p)
  pub places : list_all (has_place_once board) (range_with_len 0 n) ≡ true
  pub no_more : count_by is_slot board ≡ n

-- a row without slots: its points are the positions
pub record IsRowOfPoints (r : Rules) (shown : Position → List ℕ) (board : List ℕ) (points : List (List ℕ)) : Type 0 where
  pub no_places : list_all (λ b. not (is_slot b)) board ≡ true
  pub positions : (text : List ℕ) → Contains points text ↔ ((p : Position) × (r.is_legal p ≡ true) × (shown p ≡ text))

-- the board of chess
pub record IsChessboard (board : List ℕ) (points : List (List ℕ)) : Type 0 where
  pub board_is : board ≡ chess_board
  pub points_are : points ≡ chess_points

-- the law of the board, by how positions are drawn on it
abbrev pub IsBoardOf : Layout → Rules → (Position → List ℕ) → List ℕ → List (List ℕ) → Type 0
IsBoardOf Template r shown board points = IsBoard r shown board (length points)
IsBoardOf Rows r shown board points = IsRowOfPoints r shown board points
IsBoardOf Squares r shown board points = IsChessboard board points

-- the most points of a board: the slots of a template are the capital letters, or the squares of a chess board
abbrev pub most_points : Layout → ℕ
most_points Squares = 64
most_points layout = 26

-- the text of a move names its points; in chess the man's letter comes before them
abbrev pub IsMoveWord : Style → List (List ℕ) → List ℕ → Type 0
IsMoveWord Chess points text = (man : ℕ) × (word : List ℕ) × (text ≡ man ∷ word) × IsPointWord points word
IsMoveWord Figures points text = (man : ℕ) × (word : List ℕ) × (text ≡ man ∷ word) × IsPointWord points word
IsMoveWord style points text = IsPointWord points text

-- drawings fit and distinguish positions; the board fits too; names of points are not empty and have no `-`, and no name occurs twice; the text of each move
-- is the name of a point, or two names with `-` between them, in chess after a letter
pub record IsPictured (r : Rules) (shown : Position → List ℕ) (move_shown : Position → ℕ → List ℕ) (picture : PictureSpec) : Type 0 where
  pub drawings : IsDrawn r (drawn picture shown) picture.mover
  pub fits : length picture.board ≤ DRAWING
  pub few : length picture.points ≤ most_points (layout_of picture.style)
  pub named : list_all is_name picture.points ≡ true
  pub apart : are_apart picture.points ≡ true
  pub words : (p : Position) (m : ℕ) → r.is_legal p ≡ true → Contains (r.moves p) m → IsMoveWord picture.style picture.points (move_shown p m)
  pub board_is : IsBoardOf (layout_of picture.style) r shown picture.board picture.points
