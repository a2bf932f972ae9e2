-- Sheets of listed positions: puzzles of one or more games, in the order of their list, and their solutions at the end.
use Rattle.std.specs.Prelude.{◌≡◌, ◌+◌, ◌^◌, ℕ, Bool, true, false, List, [], ◌∷◌, ◌++◌, codes, length, ◌==◌, if◌then◌else◌, IsPermutation}
use Rattle.std.specs.Ordering.{nat_cmp}
use Rattle.std.specs.List.{AllZip, flat_map}
use Rattle.std.specs.List.Sorted.{IsNonDecreasingBy, IsStableByKey}
use Rattle.std.specs.Str.{bytes_eq}
use Rattle.gm_game.specs.declared.position.Solved.{Solved}
use Rattle.gm_game.specs.declared.position.Value.{Value}
use Rattle.gm_game.specs.declared.position.Value.TheVariants.{Draw}
use Rattle.gm_game.specs.Rules.{Rules}
use Rattle.gm_table.specs.Tables.{TableData}
use Rattle.gm_play.specs.Reached.{AreAllHeld}
use Rattle.gm_find.specs.declared.found.Found.{Found}
use Rattle.gm_find.specs.declared.sought.Sought.{Sought}
use Rattle.gm_find.specs.declared.sought.Choice.{Choice}
use Rattle.gm_find.specs.Founds.{IsFound, AreChosen}
use Rattle.gm_draw.specs.declared.pictured.Style.{Style}
use Rattle.gm_draw.specs.declared.pictured.Style.TheVariants.{Row, Crosses, Counters, Stones, Discs, Letters, Chess, Figures, Hounds, Digits}
use Rattle.gm_draw.specs.Diagrams.{escaped}
use Rattle.gm_draw.specs.GameSpecs.{GameSpec}
use Rattle.gm_caption.specs.declared.caption.Caption.{Caption}
use Rattle.gm_caption.specs.declared.caption.Caption.TheVariants.{BothSides}
use Rattle.gm_caption.specs.Captions.{LabelTexts, line_under}
use Rattle.gm_page.specs.ShowTexts.{IsDiagram, IsSvg}
use Rattle.gm_page.specs.Solutions.{IsSolution}
use Rattle.gm_page.specs.declared.puzzles.Puzzle.{Puzzle}
use Rattle.gm_page.specs.declared.puzzles.SheetLook.{SheetLook}
use Rattle.gm_page.specs.declared.parts.TheConstants.{LIST_FRONT, LIST_LEGENDS, LIST_PUZZLES, LIST_SOLUTIONS, LIST_BACK}

-- ---- puzzles
-- a solution and a text to unfold
unfoldable pub unfolding_item : List ℕ → List ℕ → List ℕ
unfolding_item solution text =
    codes "<details><summary>Solution</summary><p>" ++ solution ++ codes "</p>\n<p><code>" ++ escaped text ++ codes "</code></p></details>"

-- the item of a puzzle: the title of its game, its diagram, the line under it, and its solution and its text to unfold
unfoldable pub puzzle_item : List ℕ → Caption → LabelTexts → List ℕ → List ℕ → List ℕ
puzzle_item diagram caption l solution text =
    codes "<li><h3>" ++ escaped l.game ++ codes "</h3>\n" ++ diagram ++ line_under caption l ++ unfolding_item solution text ++ codes "</li>\n"

-- a diagram beside a solution
unfoldable pub aside : List ℕ → List ℕ
aside first_move = codes "<div style=\"width:9rem\">" ++ first_move ++ codes "</div>"

-- the diagram beside a solution, if there is one
abbrev pub marked_item : List ℕ → List ℕ
marked_item first_move = if length first_move == 0 then [] else aside first_move

-- the item of its solution
unfoldable pub answer_item : List ℕ → List ℕ → List ℕ
answer_item first_move solution = codes "<li>" ++ marked_item first_move ++ solution ++ codes "</li>\n"

-- the diagram of the position with this text on which its best move is marked, without its value; nothing if it is not asked for
abbrev pub IsFirstMove : GameSpec → Bool → List ℕ → List ℕ → Type 0
IsFirstMove g false text out = out ≡ []
IsFirstMove g true text out = IsSvg g.rules g.shown g.move_shown g.picture (record { valued = false; figures = false }) true text out

-- the puzzle of the position with this text: its game, its side to move, its true value, its diagrams and its solution
pub record IsPuzzle (g : GameSpec) (look : SheetLook) (text : List ℕ) (puzzle : Puzzle) : Type 0 where
  pub found : Found
  pub is_found : IsFound g.rules found
  pub read : g.shown found.position ≡ text
  pub game : puzzle.game.now ≡ g.picture.title
  pub side : puzzle.side.now ≡ g.picture.mover found.position
  pub solved : puzzle.solved ≡ found.value
  pub diagram : IsDiagram g.rules g.shown g.move_shown g.picture look.valued text puzzle.diagram.items
  pub solution : IsSolution g.rules g.move_shown found puzzle.solution.items
  pub first_move : IsFirstMove g look.arrow text puzzle.first_move.items
  pub same_text : puzzle.text.items ≡ text

-- a found position whose tier has a table, as has each tier that is reached from it
abbrev pub IsKnownFound : Rules → List TableData → Found → Type 0
IsKnownFound r entries x = IsFound r x × AreAllHeld r entries x.position.tier

-- the puzzle of a found position, with its value and without a diagram beside its solution
abbrev pub IsPuzzleFor : GameSpec → Found → Puzzle → Type 0
IsPuzzleFor g x p = IsPuzzle g (record { valued = true; arrow = false }) (g.shown x.position) p

-- ---- who is who
-- whose the men of a look are
abbrev pub men_words : Style → List ℕ
men_words Row = codes "One of the numbers is the position."
men_words Counters = codes "The men belong to both sides."
men_words Crosses = codes "Crosses belong to the side to move, x; noughts to the other, o."
men_words Stones = codes "Black men belong to the side to move, x; white men, with a ring, to the other, o."
men_words Discs = codes "Black men belong to the side to move, x; white men, with a ring, to the other, o."
men_words Letters = codes "White men with a d are the hounds; the black man with an h is the hare."
men_words Chess = codes "White men with capitals belong to White; black men with small letters to Black."
men_words Figures = codes "White men with capitals belong to White; black men with small letters to Black."
men_words Hounds = codes "The white man with an f is the fox; black men with an h are the hounds."
men_words Digits = codes "Each digit is the number left in a heap or row."

-- the look whose words say that the men belong to both sides
abbrev pub shared : Style → Style
shared Row = Row
shared Digits = Digits
shared _ = Counters

-- the same where this side moves first: men of a side without a name of its own belong to both
abbrev pub sides_words : Style → List ℕ → List ℕ
sides_words style mover = men_words (if bytes_eq mover (codes "player") then shared style else style)

-- the line of a game: its title, and who is who
unfoldable pub legend : List ℕ → Style → List ℕ → List ℕ
legend title style mover = codes "<p><b>" ++ escaped title ++ codes "</b>: " ++ sides_words style mover ++ codes "</p>\n"

abbrev pub legend_of : GameSpec → List ℕ
legend_of g = legend g.picture.title g.picture.style (g.picture.mover g.rules.initial)

-- ---- the order of puzzles
-- a number of moves to the end; a number above all of these for a draw
abbrev pub moves_with : Value → ℕ → ℕ
moves_with Draw n = 2 ^ 32
moves_with _ n = n

-- the sort key of a value
abbrev pub moves_key : Solved → ℕ
moves_key s = moves_with s.value s.remoteness

-- qs are the ps in rising order; those with one key keep their order
pub record IsByMoves (ps qs : List Puzzle) : Type 0 where
  pub same : IsPermutation ps qs
  pub rising : IsNonDecreasingBy (λ p. moves_key p.solved) qs
  pub stable : IsStableByKey (λ p. moves_key p.solved) nat_cmp ps qs

-- qs are the ps, on request in rising order
abbrev pub IsSheetOrder : Bool → List Puzzle → List Puzzle → Type 0
IsSheetOrder false ps qs = qs ≡ ps
IsSheetOrder true ps qs = IsByMoves ps qs

-- ---- sheets
-- what a template can ask for of a puzzle with this number
abbrev pub labels_of : ℕ → Puzzle → LabelTexts
labels_of number p = record { game = p.game.now; side = p.side.now; solved = p.solved; number = number }

-- the item of a puzzle with this number
abbrev pub item_of : Caption → ℕ → Puzzle → List ℕ
item_of caption number p = puzzle_item p.diagram.items caption (labels_of number p) p.solution.items p.text.items

-- the items of puzzles before which there are so many others
abbrev pub items_of : Caption → ℕ → List Puzzle → List ℕ
items_of caption n [] = []
items_of caption n (p ∷ ps) = item_of caption (n + 1) p ++ items_of caption (n + 1) ps

abbrev pub answer_of : Puzzle → List ℕ
answer_of p = answer_item p.first_move.items p.solution.items

-- the text before the puzzles: the title, and who is who
unfoldable pub list_heading : List ℕ → List ℕ → List ℕ
list_heading title legends = LIST_FRONT.now ++ escaped title ++ LIST_LEGENDS.now ++ legends ++ LIST_PUZZLES.now

-- the puzzles, numbered from 1, and their solutions
unfoldable pub puzzle_lists : Caption → List Puzzle → List ℕ
puzzle_lists caption puzzles = items_of caption 0 puzzles ++ LIST_SOLUTIONS.now ++ flat_map answer_of puzzles ++ LIST_BACK.now

-- the sheet of these puzzles
abbrev pub listed_sheet : List ℕ → List ℕ → Caption → List Puzzle → List ℕ
listed_sheet title legends caption puzzles = list_heading title legends ++ puzzle_lists caption puzzles

-- the sheet of found positions of a game, under its title
pub record IsSheetOf (g : GameSpec) (found : List Found) (out : List ℕ) : Type 0 where
  pub puzzles : List Puzzle
  pub are_puzzles : AllZip (IsPuzzleFor g) found puzzles
  pub out_is : out ≡ listed_sheet g.picture.title (legend_of g) BothSides puzzles

-- the same of those positions of a search that a choice takes
pub record IsFoundSheet (g : GameSpec) (q : Sought) (reached : Bool) (choice : Choice) (tiers out : List ℕ) : Type 0 where
  pub found : List Found
  pub are_found : AreChosen g.rules q reached choice tiers found
  pub sheet : IsSheetOf g found out
