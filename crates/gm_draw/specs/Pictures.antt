-- Pictures: what a game looks like, and the drawings of its positions.
use Rattle.std.specs.Prelude.{◌≡◌, ℕ, ◌-◌, ◌==◌, List, [], map, length, slice_index, slice_index_or, codes, if◌then◌else◌}
use Rattle.std.specs.Borrow.{Bor}
use Rattle.gm_game.specs.declared.position.Position.{Position}
use Rattle.gm_draw.specs.declared.pictured.Style.{Style}
use Rattle.gm_draw.specs.declared.pictured.Style.TheVariants.{Row, Chess, Figures, Hounds}
use Rattle.gm_draw.specs.declared.pictured.Layout.{Layout}
use Rattle.gm_draw.specs.declared.pictured.Layout.TheVariants.{Template, Rows, Squares}
use Rattle.gm_draw.specs.declared.pictured.Mover.{Mover}
use Rattle.gm_draw.specs.declared.pictured.Mover.TheVariants.{Same, ByLast}
use Rattle.gm_draw.specs.declared.pictured.Picture.{Picture}
use Rattle.gm_draw.specs.Templates.{filled}
use Rattle.gm_draw.specs.Chessboards.{chess_drawing}

-- what a game looks like
pub record PictureSpec : Type 0 where
  -- the name of the game for a heading
  pub title : List ℕ
  -- the look of the men
  pub style : Style
  -- a template with a slot for each point, a row of numbers, or the board of chess
  pub board : List ℕ
  -- the drawing of each position on a row of numbers, by its index
  pub rows : List (List ℕ)
  -- the names of the points, in the order of the bytes of a position's text
  pub points : List (List ℕ)
  -- the name of the side to move
  pub mover : Position → List ℕ
  -- the description of how cells, positions and moves are written
  pub naming : List ℕ

-- the side to move, in games whose positions are seen from the side to move
abbrev pub x_moves : Position → List ℕ
x_moves p = codes "x"

-- the side to move, in games in which both sides have the same moves
abbrev pub player_moves : Position → List ℕ
player_moves p = codes "player"

-- how positions are drawn
abbrev pub layout_of : Style → Layout
layout_of Row = Rows
layout_of Chess = Squares
layout_of Figures = Squares
layout_of Hounds = Squares
layout_of style = Template

abbrev pub drawn_on : Layout → PictureSpec → List ℕ → ℕ → List ℕ
drawn_on Template picture text index = filled picture.board text
drawn_on Rows picture text index = slice_index_or picture.rows index []
drawn_on Squares picture text index = chess_drawing text

-- the drawing of a position, in a game with these texts of positions
abbrev pub drawn : PictureSpec → (Position → List ℕ) → Position → List ℕ
drawn picture shown p = drawn_on (layout_of picture.style) picture (shown p) p.index

-- ---- pictures in programs
abbrev pub texts : List (Bor (List ℕ)) → List (List ℕ)
texts borrowed = map (λ t. t.now) borrowed

-- one of two names, by the last byte of a text
abbrev pub by_last : List ℕ → ℕ → List ℕ → List ℕ → List ℕ
by_last text byte name other = if slice_index text (length text - 1) == byte then name else other

-- the name of the side to move in the position with this text
abbrev pub mover_of : Mover → List ℕ → List ℕ
mover_of (Same name) text = name.now
mover_of (ByLast byte name other) text = by_last text byte name.now other.now

-- a program's picture is this one
pub record IsPictureOf (is : Picture) (shown : Position → List ℕ) (picture : PictureSpec) : Type 0 where
  pub title : is.title.now ≡ picture.title
  pub style : is.style ≡ picture.style
  pub board : is.board.now ≡ picture.board
  pub rows : texts is.rows.now ≡ picture.rows
  pub points : texts is.points.now ≡ picture.points
  pub mover : (p : Position) → mover_of is.mover (shown p) ≡ picture.mover p
  pub naming : is.naming.now ≡ picture.naming
