-- The laws of drawings.
use Rattle.std.specs.Prelude.{◌≡◌, ℕ, ◌≤◌, true, List, length}
use Rattle.gm_game.specs.declared.position.Position.{Position}
use Rattle.gm_game.specs.Rules.{Rules}
use Rattle.gm_draw.specs.declared.drawn.TheConstants.{DRAWING}

-- drawings fit, and different legal positions differ in their drawing or in the side to move
pub record IsDrawn (r : Rules) (drawn mover : Position → List ℕ) : Type 0 where
  pub drawn_fits : (p : Position) → r.is_legal p ≡ true → length (drawn p) ≤ DRAWING
  pub drawn_once : (p q : Position) → r.is_legal p ≡ true → r.is_legal q ≡ true → drawn p ≡ drawn q → mover p ≡ mover q → p ≡ q
