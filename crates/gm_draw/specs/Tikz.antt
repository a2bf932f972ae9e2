-- Diagrams as pictures of TikZ, byte by byte. Their points are those of the SVG documents; the y axis points down.
use Rattle.std.specs.Prelude.{ℕ, ◌+◌, ◌-◌, Bool, ◌||◌, ◌&&◌, ◌==◌, List, [], ◌∷◌, ◌++◌, codes, if◌then◌else◌, Option, None, Some}
use Rattle.std.specs.Borrow.{Bor}
use Rattle.std.specs.Char.{is_ascii_digit}
use Rattle.std.specs.List.{flat_map}
use Rattle.gm_game.specs.declared.position.Position.{Position}
use Rattle.gm_game.specs.declared.position.Solved.{Solved}
use Rattle.gm_draw.specs.declared.pictured.Style.{Style}
use Rattle.gm_draw.specs.declared.pictured.Style.TheVariants.{Row, Crosses, Counters, Stones, Discs, Letters, Chess, Figures, Hounds, Digits}
use Rattle.gm_draw.specs.declared.look.Look.{Look}
use Rattle.gm_draw.specs.declared.marks.Place.{Place}
use Rattle.gm_draw.specs.declared.marks.Mark.{Mark}
use Rattle.gm_draw.specs.declared.marks.Mark.TheVariants.{Nothing, Ring, Arrow}
use Rattle.gm_draw.specs.Templates.{is_slot, spread}
use Rattle.gm_draw.specs.Pictures.{PictureSpec, drawn}
use Rattle.gm_draw.specs.Chessboards.{is_dark}
use Rattle.gm_draw.specs.Figures.{has_figure, outline_tikz}
use Rattle.gm_draw.specs.Marks.{has_squares, mark_of}
use Rattle.gm_draw.specs.Looks.{style_by}
use Rattle.gm_draw.specs.Diagrams.{at_point, is_stroke, has_cells, has_points, is_first, label_x, label_y, slot_byte, middle_of, height_of, caption_of}

-- ---- texts in TeX
-- whether TeX takes a byte as itself after a `\`
abbrev pub is_special : ℕ → Bool
is_special b = b == 35 || b == 36 || b == 37 || b == 38 || b == 95 || b == 123 || b == 125

-- a byte of a text, in TeX; spaces are kept
abbrev pub tex_byte : ℕ → List ℕ
tex_byte b =
    if is_special b then 92 ∷ b ∷ [] else
    if b == 32 then codes "~" else
    if b == 92 then codes "\\textbackslash{}" else
    if b == 94 then codes "\\^{}" else
    if b == 126 then codes "\\~{}" else
    if b == 60 then codes "\\textless{}" else
    if b == 62 then codes "\\textgreater{}" else
    if b == 124 then codes "\\textbar{}" else
    b ∷ []

unfoldable pub tex : List ℕ → List ℕ
tex text = flat_map tex_byte text

-- ---- elements at a point
abbrev pub tikz_at : List ℕ → ℕ → ℕ → List ℕ → List ℕ
tikz_at front x y back = at_point front x (codes ",") y back

-- a gray stroke
abbrev pub gray : ℕ → ℕ → List ℕ → List ℕ
gray x y back = tikz_at (codes "\\draw[gray] (") x y back

-- words at a point, after their look
abbrev pub node : List ℕ → ℕ → ℕ → List ℕ → List ℕ
node look x y plain = tikz_at look x y (codes ") {") ++ tex plain ++ codes "};\n"

-- ---- the drawing of a byte of the board, at its point
unfoldable pub stroke : ℕ → ℕ → ℕ → List ℕ
stroke x y b =
    if b == 45 then gray (x - 20) y (codes ")--++(40,0);\n") else
    if b == 124 then gray x (y - 40) (codes ")--++(0,80);\n") else
    if b == 47 then gray (x - 40) (y + 40) (codes ")--++(80,-80);\n") else
    if b == 92 then gray (x - 40) (y - 40) (codes ")--++(80,80);\n") else
    if b == 43 then gray (x - 20) y (codes ")--++(40,0);\n") ++ gray x (y - 40) (codes ")--++(0,80);\n") else
    []

-- the strokes and squares under the men
unfoldable pub under : Style → ℕ → ℕ → ℕ → List ℕ
under style x y b =
    if is_slot b then (if has_cells style then tikz_at (if has_squares style && is_dark x y then codes "\\filldraw[draw=gray,fill=black!20] (" else codes "\\draw[gray] (")
    (x - 20) (y - 20) (codes ")rectangle++(40,40);\n") else []) else stroke x y b

-- a cross or a nought
unfoldable pub cross : ℕ → ℕ → ℕ → List ℕ
cross x y b =
    if b == 120 then tikz_at (codes "\\draw[line width=4.5pt] (") (x - 21) (y - 21) (codes ")--++(42,42)++(-42,0)--++(42,-42);\n") else
    if b == 111 then tikz_at (codes "\\draw[line width=4.5pt] (") x y (codes ")circle[radius=21];\n") else
    []

-- a counter
unfoldable pub counter : ℕ → ℕ → ℕ → List ℕ
counter x y b = if b == 120 then tikz_at (codes "\\filldraw[fill=black!40] (") x y (codes ")circle[radius=14];\n") else []

-- a white man with this outline, and a ring in it
abbrev pub ringed : ℕ → ℕ → List ℕ → List ℕ → List ℕ
ringed x y disc ring = tikz_at (codes "\\filldraw[fill=white] (") x y disc ++ tikz_at (codes "\\draw[line width=.75pt] (") x y ring

-- a black or a white man with this outline; the white one has an inner ring
unfoldable pub man_by : ℕ → ℕ → ℕ → List ℕ → List ℕ → List ℕ
man_by x y b disc ring =
    if b == 120 then tikz_at (codes "\\filldraw[fill=black] (") x y disc else
    if b == 111 then ringed x y disc ring else
    []

-- a man with his letter: black on white for the first side, white on black for the other
abbrev pub lettered : ℕ → ℕ → ℕ → Bool → List ℕ → List ℕ
lettered x y b first disc =
    if first then tikz_at (codes "\\filldraw[fill=white] (") x y disc ++ node (codes "\\node at (") x (y + 7) (b ∷ [])
    else tikz_at (codes "\\filldraw[fill=black] (") x y disc ++ node (codes "\\node[text=white] at (") x (y + 7) (b ∷ [])

unfoldable pub tikz_letter : ℕ → ℕ → ℕ → List ℕ
tikz_letter x y b = if b == 100 || b == 104 then lettered x y b (b == 100) (codes ")circle[radius=27];\n") else []

unfoldable pub chessman : Style → ℕ → ℕ → ℕ → List ℕ
chessman style x y b = if b == 0 then [] else lettered x y b (is_first style b) (codes ")circle[radius=16];\n")

-- the figure of a chess man
unfoldable pub figure : ℕ → ℕ → ℕ → List ℕ
figure x y b = tikz_at (if is_slot b then codes "\\filldraw[fill=white] (" else codes "\\filldraw[fill=black] (") (x - 11) (y + 14) (outline_tikz b)

unfoldable pub tikz_digit : ℕ → ℕ → ℕ → List ℕ
tikz_digit x y b = if is_ascii_digit b then node (codes "\\node[font=\\sffamily\\bfseries\\large] at (") x (y + 6) (b ∷ []) else []

-- the man or the digit of a byte of the position's text
abbrev pub tikz_man : Style → ℕ → ℕ → ℕ → List ℕ
tikz_man Row x y b = []
tikz_man Crosses x y b = cross x y b
tikz_man Counters x y b = counter x y b
tikz_man Stones x y b = man_by x y b (codes ")circle[radius=14];\n") (codes ")circle[radius=7];\n")
tikz_man Discs x y b = man_by x y b (codes ")circle[radius=27];\n") (codes ")circle[radius=13];\n")
tikz_man Letters x y b = tikz_letter x y b
tikz_man Chess x y b = chessman Chess x y b
tikz_man Figures x y b = if has_figure b then figure x y b else chessman Figures x y b
tikz_man Hounds x y b = chessman Hounds x y b
tikz_man Digits x y b = tikz_digit x y b

-- a point of the net, under its man
abbrev pub point : Style → ℕ → ℕ → List ℕ
point style x y = if has_points style then tikz_at (codes "\\filldraw[fill=white] (") x y (codes ")circle[radius=5];\n") else []

-- the men in their places, over strokes and squares, and the names of rows and columns
unfoldable pub over : Style → List ℕ → ℕ → ℕ → ℕ → List ℕ
over style text x y b =
    if is_slot b then point style x y ++ tikz_man style x y (slot_byte style text x y b) else
    if is_stroke b then [] else
    node (codes "\\node at (") (label_x style x) (label_y style y) (b ∷ [])

abbrev pub tikz_part : Style → Option (Bor (List ℕ)) → ℕ → ℕ → ℕ → List ℕ
tikz_part style None = under style
tikz_part style (Some men) = over style men.now

-- ---- pictures
unfoldable pub tikz_under_all : Style → List ℕ → List ℕ
tikz_under_all Row board = []
tikz_under_all style board = spread (under style) 40 40 board

-- the row of numbers, in the middle
unfoldable pub tikz_over_all : Style → List ℕ → List ℕ → List ℕ → ℕ → List ℕ
tikz_over_all Row board text drawing middle = node (codes "\\node[font=\\ttfamily\\large] at (") middle 45 drawing
tikz_over_all style board text drawing middle = spread (over style text) 40 40 board

-- an arrow from a place to another
abbrev pub tikz_arrow : Place → Place → List ℕ
tikz_arrow p q = tikz_at (codes "\\draw[red!80!black,line width=3pt,->] (") p.x p.y (codes ")") ++ tikz_at (codes "--(") q.x q.y (codes ");\n")

-- the mark of a move
unfoldable pub tikz_mark : Style → Mark → List ℕ
tikz_mark style Nothing = []
tikz_mark style (Ring p) = tikz_at (codes "\\draw[red!80!black,line width=3pt] (") p.x p.y (if has_cells style then codes ")circle[radius=18];\n" else codes ")circle[radius=31];\n")
tikz_mark style (Arrow p q) = tikz_arrow p q

abbrev pub tikz_open : List ℕ
tikz_open = codes "\\begin{tikzpicture}[x=.75pt,y=-.75pt,line width=1.5pt,line cap=round,line join=round,every node/.style={anchor=base,inner sep=0pt,font=\\sffamily\\large}]\n"

-- the parts of a picture: up to the men, and from the caption on
unfoldable pub tikz_front : Style → List ℕ → List ℕ
tikz_front style board = tikz_open ++ tikz_under_all style board

unfoldable pub tikz_back : ℕ → ℕ → List ℕ → List ℕ
tikz_back middle height caption = node (codes "\\node at (") middle (height - 14) caption ++ codes "\\end{tikzpicture}\n"

-- the picture of a position with this text and this drawing, and the mark of a move
unfoldable pub tikz_of : Style → List ℕ → List ℕ → List ℕ → Mark → List ℕ → List ℕ
tikz_of style board text drawing mark caption =
    tikz_front style board ++ tikz_over_all style board text drawing (middle_of style drawing) ++ tikz_mark style mark
    ++ tikz_back (middle_of style drawing) (height_of drawing) caption

-- the picture of a position with this value, and with the mark of the move with this text
abbrev pub tikz_with : PictureSpec → (Position → List ℕ) → Look → List ℕ → Position → Solved → List ℕ
tikz_with picture shown look move p s =
    tikz_of (style_by look.figures picture.style) picture.board (shown p) (drawn picture shown p)
    (mark_of picture.style picture.points picture.board move) (caption_of (picture.mover p) s look.valued)
