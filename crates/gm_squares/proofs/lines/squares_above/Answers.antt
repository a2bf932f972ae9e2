use Rattle.std.specs.Prelude.{◌||◌}
use Rattle.gm_pieces.specs.Common.{Bool, ap₂, ◌∙◌, has_or}
use Rattle.gm_squares.proofs.lines.squares_above.Goals as goal

pub returns : goal.returns
returns c k l = has_or _ _ k ∙ ap₂ (λ (x y : Bool). x || y) (c.square_mask.ensures k l) (c.square_mask-2.ensures k l)
