-- Pages: the viewer with its lines of data, and the engine's text, between its parts.
use Rattle.std.specs.Prelude.{◌≡◌, ◌↔◌, ℕ, Bool, false, List, ◌++◌, IsTrue}
use Rattle.std.specs.List.{flat_map}
use Rattle.serde_json.specs.Data.{Data}
use Rattle.gm_game.specs.declared.position.Position.{Position}
use Rattle.gm_game.specs.Rules.{Rules}
use Rattle.gm_draw.specs.Pictures.{PictureSpec}
use Rattle.gm_play.specs.PlayTexts.{IsReadAs}
use Rattle.gm_page.specs.declared.front.TheConstants.{OPENING, STYLE, PARTS}
use Rattle.gm_page.specs.declared.engine.TheConstants.{BETWEEN}
use Rattle.gm_page.specs.declared.viewer_asking.TheConstants.{ASKING}
use Rattle.gm_page.specs.declared.viewer_boards.TheConstants.{BOARDS}
use Rattle.gm_page.specs.declared.viewer_playing.TheConstants.{PLAYING}
use Rattle.gm_page.specs.declared.viewer_choosing.TheConstants.{CHOOSING}
use Rattle.gm_page.specs.declared.viewer_drawing.TheConstants.{DRAWING}
use Rattle.gm_page.specs.Listings.{IsClosed, IsListing}
use Rattle.gm_page.specs.Heads.{head_tree}
use Rattle.gm_page.specs.Rows.{AreRows}
use Rattle.gm_page.specs.Scripts.{script_line}

-- the lines of a page
abbrev pub script_lines : Data → List Data → List ℕ
script_lines head rows = script_line head ++ flat_map script_line rows

-- the text before the lines of a page
unfoldable pub page_front : List ℕ
page_front = OPENING.now ++ (STYLE.now ++ PARTS.now)

-- the text after them: the element with the engine's digits, and the script
unfoldable pub page_back : List ℕ → List ℕ
page_back digits = BETWEEN.now ++ (digits ++ (ASKING.now ++ (BOARDS.now ++ (PLAYING.now ++ (CHOOSING.now ++ DRAWING.now)))))

-- the viewer around the lines of a page, with an engine of these digits
abbrev pub with_viewer : List ℕ → List ℕ → List ℕ
with_viewer lines digits = page_front ++ lines ++ page_back digits

-- the line of a game in the page of all games
abbrev pub game_tree : Rules → (Position → List ℕ) → PictureSpec → Data
game_tree r shown picture = head_tree r.name picture (shown r.initial) false

module _ (r : Rules) (shown : Position → List ℕ) (move_shown : Position → ℕ → List ℕ) (picture : PictureSpec) where
  -- the page of these positions with an engine of these digits, which may be none: a line that describes the game and the page, and then the rows of the
  -- positions
  pub record IsListedPage (start : List ℕ) (all : List Position) (digits out : List ℕ) : Type 0 where
    pub whole : Bool
    pub is_whole : IsTrue whole ↔ IsClosed r all
    pub rows : List Data
    pub are_rows : AreRows r shown move_shown all all rows
    pub out_is : out ≡ with_viewer (script_lines (head_tree r.name picture start whole) rows) digits

  -- the page of the position with this text, with an engine of these digits
  pub record IsPage (asked : List ℕ) (limit : ℕ) (digits out : List ℕ) : Type 0 where
    pub start : Position
    pub read : IsReadAs r shown move_shown asked start
    pub all : List Position
    pub listing : IsListing r start limit all
    pub lines : IsListedPage asked all digits out
