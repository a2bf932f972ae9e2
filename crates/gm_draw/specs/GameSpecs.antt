-- What is known of a game by its name.
use Rattle.std.specs.Prelude.{ℕ, List}
use Rattle.gm_game.specs.declared.position.Position.{Position}
use Rattle.gm_game.specs.Rules.{Rules}
use Rattle.gm_draw.specs.Pictures.{PictureSpec}

-- a game: its rules, the texts of its positions and of their moves, and how they are drawn
pub record GameSpec : Type 0 where
  pub rules : Rules
  pub shown : Position → List ℕ
  pub move_shown : Position → ℕ → List ℕ
  pub picture : PictureSpec

abbrev pub game_spec : Rules → (Position → List ℕ) → (Position → ℕ → List ℕ) → PictureSpec → GameSpec
game_spec rules shown move_shown picture = record {
  rules = rules;
  shown = shown;
  move_shown = move_shown;
  picture = picture;
}
