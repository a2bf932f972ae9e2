-- Captions: the lines under diagrams.
use Rattle.std.specs.Prelude.{ℕ, ◌+◌, ◌/◌, Bool, true, false, List, [], ◌∷◌, ◌++◌, codes, Option, Some, None}
use Rattle.std.specs.Borrow.{Bor}
use Rattle.std.specs.Fmt.{decimal}
use Rattle.std.specs.List.{flat_map}
use Rattle.gm_game.specs.declared.position.Solved.{Solved}
use Rattle.gm_game.specs.declared.position.Value.{Value}
use Rattle.gm_game.specs.declared.position.Value.TheVariants.{Lose, Draw, Tie, Win}
use Rattle.gm_draw.specs.Diagrams.{escaped}
use Rattle.gm_caption.specs.declared.template.Field.{Field}
use Rattle.gm_caption.specs.declared.template.Field.TheVariants as field
use Rattle.gm_caption.specs.declared.template.Part.{Part}
use Rattle.gm_caption.specs.declared.template.Part.TheVariants as part
use Rattle.gm_caption.specs.declared.caption.Caption.{Caption}
use Rattle.gm_caption.specs.declared.caption.Caption.TheVariants.{Plain, BothSides, OwnMoves, Template}
use Rattle.gm_caption.specs.declared.caption.Labels.{Labels}
use Rattle.gm_caption.specs.Templates.{parts_of}

-- what a template can ask for: the title of the game, the side to move, the value, and the number of the puzzle on the sheet
pub record LabelTexts : Type 0 where
  pub game : List ℕ
  pub side : List ℕ
  pub solved : Solved
  pub number : ℕ

abbrev pub texts_of : Labels → LabelTexts
texts_of l = record { game = l.game.now; side = l.side.now; solved = l.solved; number = l.number }

-- ---- captions
-- the caption that is asked for
abbrev pub caption_for : Option (Bor (List ℕ)) → Bool → Bool → Caption
caption_for (Some template) valued own = Template template
caption_for None false own = Plain
caption_for None true false = BothSides
caption_for None true true = OwnMoves

-- the value is in the diagram
abbrev pub is_valued : Caption → Bool
is_valued BothSides = true
is_valued _ = false

-- ---- values
-- the moves of the side to move among this many moves of both sides, of which it makes the first
abbrev pub own_moves : ℕ → ℕ
own_moves n = (n + 1) / 2

-- what the side to move reaches by a value, in this many moves
abbrev pub outcome : Value → ℕ → List ℕ
outcome Win n = codes " wins in " ++ decimal n
outcome Tie n = codes " ties in " ++ decimal n
outcome Lose n = codes " loses in " ++ decimal n
outcome Draw n = codes " draws"

-- the line that counts the moves of the side to move
unfoldable pub own_line : List ℕ → Solved → List ℕ
own_line mover s = codes "<p>" ++ escaped mover ++ outcome s.value (own_moves s.remoteness) ++ codes "</p>"

-- ---- templates
-- what the side to move reaches, as a verb
abbrev pub verb : Value → List ℕ
verb Win = codes "wins"
verb Tie = codes "ties"
verb Lose = codes "loses"
verb Draw = codes "draws"

-- a number of moves; a dash for a draw
abbrev pub counted : Value → ℕ → List ℕ
counted Draw n = codes "-"
counted _ n = decimal n

-- what a field asks for
abbrev pub field_text : LabelTexts → Field → List ℕ
field_text l field.Side = escaped l.side
field_text l field.Value = verb l.solved.value
field_text l field.Moves = counted l.solved.value (own_moves l.solved.remoteness)
field_text l field.Plies = counted l.solved.value l.solved.remoteness
field_text l field.Number = decimal l.number
field_text l field.Game = escaped l.game

abbrev pub part_text : LabelTexts → Part → List ℕ
part_text l (part.Byte b) = escaped (b ∷ [])
part_text l (part.Field f) = field_text l f

-- the parts of a template, one after the other
abbrev pub template_text : List ℕ → LabelTexts → List ℕ
template_text template l = flat_map (part_text l) (parts_of template)

unfoldable pub template_line : List ℕ → LabelTexts → List ℕ
template_line template l = codes "<p>" ++ template_text template l ++ codes "</p>"

-- ---- lines
-- the line under a diagram; none if the value is in the diagram or left out
abbrev pub line_under : Caption → LabelTexts → List ℕ
line_under OwnMoves l = own_line l.side l.solved
line_under (Template template) l = template_line template.now l
line_under _ l = []
