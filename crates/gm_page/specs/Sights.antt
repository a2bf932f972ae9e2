-- The text before a question to the person.
use Rattle.std.specs.Prelude.{ℕ, List, ◌++◌, codes}
use Rattle.std.specs.List.{flat_map}
use Rattle.gm_game.specs.declared.position.Position.{Position}
use Rattle.gm_game.specs.Rules.{Rules}
use Rattle.gm_play.specs.declared.view.Question.{Question}
use Rattle.gm_play.specs.declared.view.Question.TheVariants.{First, Again}
use Rattle.gm_draw.specs.Pictures.{PictureSpec, drawn}

-- a line of these moves
abbrev pub move_line : (Position → ℕ → List ℕ) → Position → List ℕ → List ℕ
move_line shown p moves = codes "moves:" ++ flat_map (λ m. codes " " ++ shown p m) moves ++ codes "\n"

-- the board, after the line of the moves if the person is asked again
abbrev pub sight : Rules → (Position → List ℕ) → (Position → ℕ → List ℕ) → PictureSpec → Question → Position → List ℕ
sight r shown move_shown picture First p = drawn picture shown p ++ codes "\n"
sight r shown move_shown picture Again p = move_line move_shown p (r.moves p) ++ drawn picture shown p ++ codes "\n"
