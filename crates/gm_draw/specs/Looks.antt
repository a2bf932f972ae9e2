-- What a diagram shows besides the board and the side to move.
use Rattle.std.specs.Prelude.{Bool, true, false}
use Rattle.gm_draw.specs.declared.pictured.Style.{Style}
use Rattle.gm_draw.specs.declared.pictured.Style.TheVariants.{Chess, Figures}
use Rattle.gm_draw.specs.declared.look.Look.{Look}

-- the look of the men in a diagram: figures, if they are wanted, in place of the letters of chess men
abbrev pub style_by : Bool → Style → Style
style_by true Chess = Figures
style_by true style = style
style_by false style = style

-- a diagram with letters
abbrev pub plain_look : Bool → Look
plain_look valued = record { valued = valued; figures = false }
