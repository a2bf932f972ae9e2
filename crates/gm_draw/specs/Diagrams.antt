-- Diagrams: SVG documents of positions, byte by byte.
use Rattle.std.specs.Prelude.{ℕ, ◌+◌, ◌-◌, ◌*◌, ◌/◌, max, Bool, true, false, ◌||◌, ◌&&◌, ◌==◌, List, [], ◌∷◌, ◌++◌, count_by, nat_lt, slice_index, codes, if◌then◌else◌, Option, None, Some}
use Rattle.std.specs.Borrow.{Bor}
use Rattle.std.specs.Char.{is_ascii_digit}
use Rattle.std.specs.Fmt.{decimal}
use Rattle.std.specs.List.{flat_map}
use Rattle.gm_game.specs.declared.position.Position.{Position}
use Rattle.gm_game.specs.declared.position.Solved.{Solved}
use Rattle.gm_game.specs.Texts.{text_of}
use Rattle.gm_draw.specs.declared.pictured.Style.{Style}
use Rattle.gm_draw.specs.declared.pictured.Style.TheVariants.{Row, Crosses, Counters, Stones, Discs, Letters, Chess, Figures, Hounds, Digits}
use Rattle.gm_draw.specs.declared.look.Look.{Look}
use Rattle.gm_draw.specs.declared.marks.Place.{Place}
use Rattle.gm_draw.specs.declared.marks.Mark.{Mark}
use Rattle.gm_draw.specs.declared.marks.Mark.TheVariants.{Nothing, Ring, Arrow}
use Rattle.gm_draw.specs.Templates.{is_slot, spread}
use Rattle.gm_draw.specs.Pictures.{PictureSpec, drawn}
use Rattle.gm_draw.specs.Chessboards.{is_dark, man_at}
use Rattle.gm_draw.specs.Figures.{has_figure, outline}
use Rattle.gm_draw.specs.Marks.{has_squares, mark_of}
use Rattle.gm_draw.specs.Looks.{style_by, plain_look}

-- ---- texts in XML
-- a byte of a text, with `<` and `&` replaced by their character references
abbrev pub escaped_byte : ℕ → List ℕ
escaped_byte b = if b == 60 then codes "&lt;" else if b == 38 then codes "&amp;" else b ∷ []

unfoldable pub escaped : List ℕ → List ℕ
escaped text = flat_map escaped_byte text

-- ---- elements at a point
-- the texts before, between and after two coordinates
abbrev pub at_point : List ℕ → ℕ → List ℕ → ℕ → List ℕ → List ℕ
at_point front x middle y back = front ++ decimal x ++ middle ++ decimal y ++ back

abbrev pub svg_path : ℕ → ℕ → List ℕ → List ℕ
svg_path x y back = at_point (codes "<path d=\"M") x (codes " ") y back

abbrev pub circle : ℕ → ℕ → List ℕ → List ℕ
circle x y back = at_point (codes "<circle cx=\"") x (codes "\" cy=\"") y back

-- words at a point, after the attributes of their look
abbrev pub words_at : ℕ → ℕ → List ℕ → List ℕ → List ℕ
words_at x y look plain = at_point (codes "<text x=\"") x (codes "\" y=\"") y look ++ escaped plain ++ codes "</text>\n"

-- ---- the drawing of a byte of the board, at its point
-- the strokes of the net; nothing for any other byte
unfoldable pub stroke_of : ℕ → ℕ → ℕ → List ℕ
stroke_of x y b =
    if b == 45 then svg_path (x - 20) y (codes "h40\"/>\n") else
    if b == 124 then svg_path x (y - 40) (codes "v80\"/>\n") else
    if b == 47 then svg_path (x - 40) (y + 40) (codes "l80-80\"/>\n") else
    if b == 92 then svg_path (x - 40) (y - 40) (codes "l80 80\"/>\n") else
    if b == 43 then svg_path (x - 20) y (codes "h40\"/>\n") ++ svg_path x (y - 40) (codes "v80\"/>\n") else
    []

-- whether a byte is a stroke of the net, a space or the end of a line
abbrev pub is_stroke : ℕ → Bool
is_stroke b = b == 45 || b == 124 || b == 47 || b == 92 || b == 43 || b == 32 || b == 10

-- whether men are in cells, which are drawn as squares
abbrev pub has_cells : Style → Bool
has_cells Row = false
has_cells Crosses = false
has_cells Counters = true
has_cells Stones = true
has_cells Discs = false
has_cells Letters = false
has_cells Chess = true
has_cells Figures = true
has_cells Hounds = true
has_cells Digits = false

-- whether men are on points
abbrev pub has_points : Style → Bool
has_points Row = false
has_points Crosses = false
has_points Counters = false
has_points Stones = false
has_points Discs = true
has_points Letters = true
has_points Chess = false
has_points Figures = false
has_points Hounds = false
has_points Digits = false

-- a square, filled if it is a dark square of a chess board
unfoldable pub square_of : Style → ℕ → ℕ → List ℕ
square_of style x y =
    svg_path (x - 20) (y - 20) (if has_squares style && is_dark x y then codes "h40v40h-40z\" fill=\"#ccc\"/>\n" else codes "h40v40h-40z\"/>\n")

-- the strokes and squares under the men
unfoldable pub under_at : Style → ℕ → ℕ → ℕ → List ℕ
under_at style x y b = if is_slot b then (if has_cells style then square_of style x y else []) else stroke_of x y b

-- a cross or a nought; nothing for any other byte
unfoldable pub cross_of : ℕ → ℕ → ℕ → List ℕ
cross_of x y b =
    if b == 120 then svg_path (x - 21) (y - 21) (codes "l42 42m-42 0l42-42\" stroke-width=\"6\"/>\n") else
    if b == 111 then circle x y (codes "\" r=\"21\" fill=\"none\" stroke-width=\"6\"/>\n") else
    []

-- a counter
unfoldable pub counter_of : ℕ → ℕ → ℕ → List ℕ
counter_of x y b = if b == 120 then circle x y (codes "\" r=\"14\" fill=\"#999\"/>\n") else []

-- a black or a white man on a cell
unfoldable pub stone_of : ℕ → ℕ → ℕ → List ℕ
stone_of x y b =
    if b == 120 then circle x y (codes "\" r=\"14\" fill=\"#000\"/>\n") else
    if b == 111 then circle x y (codes "\" r=\"14\" fill=\"#fff\"/>\n") ++ circle x y (codes "\" r=\"7\" fill=\"none\" stroke-width=\"1\"/>\n") else
    []

-- a black or a white man on a point
unfoldable pub disc_of : ℕ → ℕ → ℕ → List ℕ
disc_of x y b =
    if b == 120 then circle x y (codes "\" r=\"27\" fill=\"#000\"/>\n") else
    if b == 111 then circle x y (codes "\" r=\"27\" fill=\"#fff\"/>\n") ++ circle x y (codes "\" r=\"13\" fill=\"none\" stroke-width=\"1\"/>\n") else
    []

-- a man with a letter
unfoldable pub letter_of : ℕ → ℕ → ℕ → List ℕ
letter_of x y b =
    if b == 104 then circle x y (codes "\" r=\"27\" fill=\"#000\"/>\n") ++ words_at x (y + 7) (codes "\" font-size=\"20\" stroke=\"none\" fill=\"#fff\">")
    (codes "h") else
    if b == 100 then circle x y (codes "\" r=\"27\" fill=\"#fff\"/>\n") ++ words_at x (y + 7) (codes "\" font-size=\"20\" stroke=\"none\" fill=\"#000\">")
    (codes "d") else
    []

-- whether a letter is of the first side: a capital in chess, the fox in Fox and Hounds
abbrev pub is_first : Style → ℕ → Bool
is_first Hounds b = b == 102
is_first style b = is_slot b

-- a man with its letter on a square of a chess board: black on white for the first side, white on black for the other
abbrev pub letter_on : ℕ → ℕ → ℕ → Bool → List ℕ
letter_on x y b first =
    if first then circle x y (codes "\" r=\"16\" fill=\"#fff\"/>\n") ++ words_at x (y + 7) (codes "\" stroke=\"none\" fill=\"#000\">") (b ∷ [])
    else circle x y (codes "\" r=\"16\" fill=\"#000\"/>\n") ++ words_at x (y + 7) (codes "\" stroke=\"none\" fill=\"#fff\">") (b ∷ [])

-- a man of chess or of Fox and Hounds; nothing on an empty square
unfoldable pub chessman_of : Style → ℕ → ℕ → ℕ → List ℕ
chessman_of style x y b = if b == 0 then [] else letter_on x y b (is_first style b)

-- the end of a figure: white for capitals, black for small letters
abbrev pub figure_fill : ℕ → List ℕ
figure_fill b = if is_slot b then codes "\" fill=\"#fff\"/>\n" else codes "\" fill=\"#000\"/>\n"

-- the figure of a chess man
unfoldable pub figure_of : ℕ → ℕ → ℕ → List ℕ
figure_of x y b = svg_path (x - 11) (y + 14) (outline b) ++ figure_fill b

-- a digit; nothing for any other byte
unfoldable pub digit_of : ℕ → ℕ → ℕ → List ℕ
digit_of x y b = if is_ascii_digit b then words_at x (y + 6) (codes "\" font-weight=\"bold\" stroke=\"none\">") (b ∷ []) else []

-- the man or the digit of a byte of the position's text; nothing if the byte is neither
abbrev pub man_of : Style → ℕ → ℕ → ℕ → List ℕ
man_of Row x y b = []
man_of Crosses x y b = cross_of x y b
man_of Counters x y b = counter_of x y b
man_of Stones x y b = stone_of x y b
man_of Discs x y b = disc_of x y b
man_of Letters x y b = letter_of x y b
man_of Chess x y b = chessman_of Chess x y b
man_of Figures x y b = if has_figure b then figure_of x y b else chessman_of Figures x y b
man_of Hounds x y b = chessman_of Hounds x y b
man_of Digits x y b = digit_of x y b

-- a point of the net, under its man
abbrev pub point_of : Style → ℕ → ℕ → List ℕ
point_of style x y = if has_points style then circle x y (codes "\" r=\"5\" fill=\"#fff\"/>\n") else []

-- the point of the name of a row or a column: next to cells the names of rows are nearer to the board, and over men on points the names of columns are
-- farther from it
abbrev pub label_x : Style → ℕ → ℕ
label_x style x = if has_cells style then (if x == 40 then 70 else x) else x

abbrev pub label_y : Style → ℕ → ℕ
label_y style y = if has_points style then (if y == 40 then 38 else y + 6) else y + 6

-- the name of a row or a column
abbrev pub label_of : Style → ℕ → ℕ → ℕ → List ℕ
label_of style x y b = words_at (label_x style x) (label_y style y) (codes "\" stroke=\"none\">") (b ∷ [])

-- the byte of the man in a slot: the letter of the square at this point, or the byte of the position's text for which the slot stands
abbrev pub slot_byte : Style → List ℕ → ℕ → ℕ → ℕ → ℕ
slot_byte style text x y b = if has_squares style then man_at text x y else slice_index text (b - 65)

-- the men in their places, over strokes and squares, and the names of rows and columns
unfoldable pub over_at : Style → List ℕ → ℕ → ℕ → ℕ → List ℕ
over_at style text x y b = if is_slot b then point_of style x y ++ man_of style x y (slot_byte style text x y b) else if is_stroke b then [] else label_of
    style x y b

-- the part of a byte of the board: under the men, or over it for the men of a text
abbrev pub part_at : Style → Option (Bor (List ℕ)) → ℕ → ℕ → ℕ → List ℕ
part_at style None = under_at style
part_at style (Some men) = over_at style men.now

-- ---- a board
-- the length of a line so far, after this byte
abbrev pub next_length : ℕ → ℕ → ℕ
next_length n b = if b == 10 then 0 else n + 1

-- the length of the longest line, if n bytes of the current line have been read, and the longest so far has this length
unfoldable pub widest : ℕ → ℕ → List ℕ → ℕ
widest n longest [] = longest
widest n longest (b ∷ bs) = widest (next_length n b) (max longest (next_length n b)) bs

-- the right edge of a board, by the length of its longest line: a letter of a row is 11 wide
abbrev pub end_by : Style → ℕ → ℕ
end_by Row longest = 11 * longest + 30
end_by style longest = 20 * longest + 60

abbrev pub end_of : Style → List ℕ → ℕ
end_of style drawing = end_by style (widest 0 0 drawing)

-- the left edge of a board
abbrev pub left_edge_of : Style → ℕ
left_edge_of style = if has_cells style then 40 else 0

-- the middle of a board from left to right
abbrev pub middle_of : Style → List ℕ → ℕ
middle_of style drawing = (end_of style drawing + left_edge_of style) / 2

-- the width of a diagram, which has room for its caption, and the width that is added before the board
abbrev pub width_of : Style → List ℕ → ℕ
width_of style drawing = max (end_of style drawing) 300 - left_edge_of style

abbrev pub margin_of : Style → List ℕ → ℕ
margin_of style drawing = (max (end_of style drawing) 300 - end_of style drawing) / 2

abbrev pub height_of : List ℕ → ℕ
height_of drawing = 40 * count_by (λ b. b == 10) drawing + 130

-- ---- documents
-- the left edge of the paper: the left edge of the board minus the margin, which may be negative
abbrev pub start_of : ℕ → ℕ → List ℕ
start_of left margin = if nat_lt left margin then 45 ∷ decimal (margin - left) else decimal (left - margin)

-- the beginning of the document's element, with its view box
unfoldable pub svg_box : ℕ → ℕ → ℕ → ℕ → List ℕ
svg_box left margin width height =
    codes "<svg xmlns=\"http://www.w3.org/2000/svg\" viewBox=\"" ++ start_of left margin ++ at_point (codes " 0 ") width (codes " ") height []

-- the size of the document, and the style of its lines and letters
unfoldable pub svg_size : ℕ → ℕ → List ℕ
svg_size width height =
    at_point (codes "\" width=\"") width (codes "\" height=\"") height
    (codes "\" role=\"img\" font-family=\"sans-serif\" font-size=\"18\" text-anchor=\"middle\" stroke-linecap=\"round\">\n")

-- the opening tag of the document
abbrev pub svg_open : ℕ → ℕ → ℕ → ℕ → List ℕ
svg_open left margin width height = svg_box left margin width height ++ svg_size width height

-- the title: the game, the position's text and the caption
unfoldable pub svg_title : List ℕ → List ℕ → List ℕ → List ℕ
svg_title title text caption = codes "<title>" ++ escaped title ++ codes " " ++ escaped text ++ codes " " ++ escaped caption ++ codes "</title>\n"

-- the paper
unfoldable pub svg_paper : ℕ → ℕ → ℕ → ℕ → List ℕ
svg_paper left margin width height =
    codes "<rect x=\"" ++ start_of left margin ++ at_point (codes "\" width=\"") width (codes "\" height=\"") height (codes "\" fill=\"#fff\"/>\n")

-- the row of numbers, in the middle
abbrev pub row_words : ℕ → List ℕ → List ℕ
row_words middle drawing = words_at middle 45 (codes "\" font-family=\"monospace\" stroke=\"none\" xml:space=\"preserve\">") drawing

abbrev pub over_all : Style → List ℕ → List ℕ → List ℕ → ℕ → List ℕ
over_all Row board text drawing middle = row_words middle drawing
over_all style board text drawing middle = spread (over_at style text) 40 40 board

abbrev pub under_all : Style → List ℕ → List ℕ
under_all Row board = []
under_all style board = spread (under_at style) 40 40 board

abbrev pub caption_words : ℕ → ℕ → List ℕ → List ℕ
caption_words middle height caption = words_at middle (height - 14) (codes "\" stroke=\"none\">") caption

-- the parts of a document: up to the paper, the strokes and squares under the men, and the men with the caption
unfoldable pub svg_front : ℕ → ℕ → ℕ → ℕ → List ℕ → List ℕ → List ℕ → List ℕ
svg_front left margin width height title text caption = svg_open left margin width height ++ svg_title title text caption ++ svg_paper left margin width height

unfoldable pub svg_net : Style → List ℕ → List ℕ
svg_net style board = codes "<g fill=\"none\" stroke=\"#777\" stroke-width=\"2\">\n" ++ under_all style board ++ codes "</g>\n"

unfoldable pub svg_men : Style → List ℕ → List ℕ → List ℕ → ℕ → List ℕ
svg_men style board text drawing middle = codes "<g stroke=\"#000\" stroke-width=\"2\">\n" ++ over_all style board text drawing middle

-- the radius of a ring round a point, and what follows it
abbrev pub ring_back : Style → List ℕ
ring_back style = if has_cells style then codes "\" r=\"18\" fill=\"none\" stroke=\"#c00\" stroke-width=\"4\"/>\n" else codes "\" r=\"31\" fill=\"none\" stroke=\"#c00\" stroke-width=\"4\"/>\n"

-- the head of an arrow
abbrev pub svg_head : List ℕ
svg_head =
    codes "<defs><marker id=\"head\" viewBox=\"0 0 6 6\" refX=\"4\" refY=\"3\" markerWidth=\"4\" markerHeight=\"4\" orient=\"auto\"><path d=\"M0 0l6 3-6 3z\" fill=\"#c00\" stroke=\"none\"/></marker></defs>\n"

-- an arrow from a place to another
unfoldable pub svg_arrow : Place → Place → List ℕ
svg_arrow p q =
    svg_head ++ svg_path p.x p.y (codes "L") ++ at_point [] q.x (codes " ") q.y (codes "\" fill=\"none\" stroke=\"#c00\" stroke-width=\"4\" marker-end=\"url(#head)\"/>\n")

-- the mark of a move, over the men
unfoldable pub svg_mark : Style → Mark → List ℕ
svg_mark style Nothing = []
svg_mark style (Ring p) = circle p.x p.y (ring_back style)
svg_mark style (Arrow p q) = svg_arrow p q

unfoldable pub svg_back : ℕ → ℕ → List ℕ → List ℕ
svg_back middle height caption = caption_words middle height caption ++ codes "</g>\n</svg>\n"

-- the SVG document of a position with this text and this drawing, and the mark of a move
unfoldable pub svg_of : Style → List ℕ → List ℕ → List ℕ → List ℕ → Mark → List ℕ → List ℕ
svg_of style title board text drawing mark caption =
    svg_front (left_edge_of style) (margin_of style drawing) (width_of style drawing) (height_of drawing) title text caption
    ++ svg_net style board ++ svg_men style board text drawing (middle_of style drawing) ++ svg_mark style mark ++ svg_back (middle_of style drawing) (height_of drawing) caption

-- the caption under a board: the side to move, and its value if it is to be shown
abbrev pub caption_of : List ℕ → Solved → Bool → List ℕ
caption_of mover s valued = mover ++ codes " to move" ++ (if valued then codes ": " ++ text_of s else [])

-- the diagram of a position with this value, and with the mark of the move with this text
abbrev pub diagram_with : PictureSpec → (Position → List ℕ) → Look → List ℕ → Position → Solved → List ℕ
diagram_with picture shown look move p s =
    svg_of (style_by look.figures picture.style) picture.title picture.board (shown p) (drawn picture shown p)
    (mark_of picture.style picture.points picture.board move) (caption_of (picture.mover p) s look.valued)

-- the diagram of a position with this value
abbrev pub diagram_of : PictureSpec → (Position → List ℕ) → Bool → Position → Solved → List ℕ
diagram_of picture shown valued p s = diagram_with picture shown (plain_look valued) [] p s
