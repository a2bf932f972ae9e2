-- The boards after a board, one for each move.
use Rattle.std.specs.Prelude.{◌≡◌, ◌+◌, ◌<◌, ◌∷◌, ◌++◌}
use Rattle.std.proofs.Common.{ℕ, List, [], map, length, get_or, take, Option, None, Some, refl, sym, ap, ap₂, ◌∙◌, subst}
use Rattle.std.specs.List.{Contains}
use Rattle.std.proofs.lemmas.List.Elements.{Contains-get_or}
use Rattle.std.proofs.lemmas.List.{map_more}
use Rattle.gm_game.specs.declared.position.Position.{Position}
use Rattle.gm_game.specs.declared.position.End.{End}
use Rattle.gm_pieces.specs.MoveGames.{MoveGame, board_game, moves_by, IsMove}
use Rattle.gm_pieces.specs.inner.MoveChildren.{position_after}
use Rattle.gm_pieces.specs.laws.MoveLaws.{move_in}

module _ {B S : Type 0} (g : MoveGame B S) (b : B) where
  -- a move of the same board is one
  pub move_at : (a : B) (m : ℕ) → a ≡ b → Contains ((board_game g).moves b) m → IsMove g a m
  move_at a m e c = subst (λ (x : B). IsMove g x m) (sym e) (move_in g b m c)

  -- each of the listed moves is one
  pub listed_move : (ms : List ℕ) (i : ℕ) → ms ≡ (board_game g).moves b → i < length ms → IsMove g b (get_or ms i 0)
  listed_move ms i e l = move_in g b (get_or ms i 0) (subst (λ (xs : List ℕ). Contains xs (get_or ms i 0)) e (Contains-get_or ms i 0 l))

  -- one more position after a listed move
  pub one_listed : (ms : List ℕ) (i : ℕ) (p : Position) (list more : List Position) → i < length ms → p ≡ position_after g b (get_or ms i 0)
      → more ≡ list ++ p ∷ [] → list ≡ map (position_after g b) (take i ms) → more ≡ map (position_after g b) (take (i + 1) ms)
  one_listed ms i p list more l e m h =
      m ∙ ap₂ (λ (xs : List Position) (q : Position). xs ++ q ∷ []) h e ∙ sym (map_more (position_after g b) ms i 0 l)

-- if the last move has not ended the game each number that can be played is a move's
pub all_are_moves : (o : Option End) (ms : List ℕ) → o ≡ None → moves_by o ms ≡ ms
all_are_moves o ms e = ap (λ (x : Option End). moves_by x ms) e

-- and if there is none
pub none_are_moves : (o : Option End) (ms : List ℕ) → ms ≡ [] → moves_by o ms ≡ ms
none_are_moves None ms e = refl
none_are_moves (Some x) ms e = sym e
