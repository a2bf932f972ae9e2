-- What the marks of moves say of the moves and of the boards before a board.
use Rattle.std.specs.Prelude.{◌≡◌, ◌≢◌, ◌↔◌, ◌+◌, ◌^◌, ◌<◌, ◌≤◌, ◌∷◌, ◌&&◌}
use Rattle.std.proofs.Common.{ℕ, Bool, true, false, List, [], map, length, Option, None, Some, refl, sym, ap, ◌∙◌, subst, arith, inl, inr}
use Rattle.std.proofs.lemmas.Bool.{cases_Bool, cond-true, cond-false}
use Rattle.gm_board.specs.laws.Lists.{and_left, contains_range, range_below, contains_map, filter_map_from, filter_map_to, contains_unmap}
use Rattle.std.specs.List.{Contains, range_with_len}
use Rattle.gm_board.specs.laws.Filters.{filter_few}
use Rattle.gm_game.specs.Ascending.{put_all}
use Rattle.gm_game.specs.declared.position.End.{End}
use Rattle.gm_game.specs.Children.{HasSame}
use Rattle.gm_game.specs.Boards.{next_images, least_index}
use Rattle.gm_game.proofs.Lists.{contains_none, contains_first, contains_later}
use Rattle.gm_pieces.specs.laws.Listed.{put_all_same}
use Rattle.gm_pieces.specs.laws.MoveLaws.{step_in, step_from}
use Rattle.gm_pieces.specs.declared.marks.Marks.{Marks}
use Rattle.gm_pieces.specs.MoveGames.{MoveGame, board_game, goes_on, before_at, moves_by, IsMove, IsMoveGame}
unfoldable use Rattle.gm_pieces.specs.MoveGames.{steps, befores, before_at}
use Rattle.gm_pieces.specs.inner.MoveChildren.{position_after}
use Rattle.gm_pieces.specs.inner.Marking.{marked, AreMarks, IsLed, leads_here, index_before}

-- ---- the first of the marked numbers, and the others
pub first_in : (n : ℕ) (ns rest : List ℕ) → ns ≡ n ∷ rest → Contains ns n
first_in n ns rest e = subst (λ (xs : List ℕ). Contains xs n) (sym e) (contains_first n rest)

pub later_in : (n m : ℕ) (ns rest : List ℕ) → ns ≡ n ∷ rest → Contains rest m → Contains ns m
later_in n m ns rest e i = subst (λ (xs : List ℕ). Contains xs m) (sym e) (contains_later n m rest i)

pub one_less : (n : ℕ) (ns rest : List ℕ) → ns ≡ n ∷ rest → length ns ≡ length rest + 1
one_less n ns rest e = let l = ap (λ (xs : List ℕ). length xs) e in omega (arith, l)

-- after the last move of a game there is none
pub over_none : (o : Option End) (ms : List ℕ) → o ≢ None → moves_by o ms ≡ []
over_none None ms h = absurd (h refl)
over_none (Some e) ms h = refl

module _ {B S : Type 0} (g : MoveGame B S) where
  -- ---- moves
  -- as many moves as marks
  pub steps_counted : (b : B) (c : Marks) → AreMarks (g.can_move b) (g.move_number_bound (g.tier b)) c → length (marked c) ≡ length (steps g b)
  unfolding steps
  steps_counted b c h = h.once

  -- a marked number is a move's
  pub marked_move : (b : B) (c : Marks) → AreMarks (g.can_move b) (g.move_number_bound (g.tier b)) c → g.end_by_last_move b ≡ None
      → (m : ℕ) → Contains (marked c) m → IsMove g b m
  marked_move b c h o m i = let x = (h.exact m).0 i in record { below = x.0; not_over = o; can = x.1 }

  -- and it fits
  pub move_fits : IsMoveGame g → (b : B) (m : ℕ) → IsMove g b m → m < 2 ^ 32
  move_fits r b m i = let x = i.below in let y = r.numbers_fit (g.tier b) in omega (arith, x, y)

  pub led_fits : IsMoveGame g → (t : ℕ) (d : B) (m : ℕ) → IsLed g t d m → m < 2 ^ 32
  led_fits r t d m i = let x = i.below in let y = r.numbers_fit t in omega (arith, x, y)

  -- ---- the boards before
  -- a marked number led to the board
  pub marked_led : (t : ℕ) (d : B) (c : Marks) → AreMarks (leads_here g t d) (g.move_number_bound t) c → (m : ℕ) → Contains (marked c) m → IsLed g t d m
  marked_led t d c h m i = let x = (h.exact m).0 i in record { below = x.0; led = x.1 }

  -- there is room for all of them
  pub befores_room : IsMoveGame g → (t : ℕ) (d : B) (c : Marks) → g.legal d ≡ true → AreMarks (leads_here g t d) (g.move_number_bound t) c → length (marked c) ≤ 128
  befores_room r t d c l h =
      let x = h.once in
      let y = r.befores_few t d l in
      let few = filter_few (leads_here g t d) (g.can_have_led_here t d) (λ m e. and_left _ _ e) (range_with_len 0 (g.move_number_bound t)) in
      omega (arith, x, y, few)

  before_led : (t : ℕ) (d : B) (m : ℕ) → leads_here g t d m ≡ true → before_at g t d m ≡ Some (g.undo t d m)
  unfolding before_at
  before_led t d m e = cond-true _ _ _ e

  led_before : (t : ℕ) (d : B) (m : ℕ) (b : B) → before_at g t d m ≡ Some b → (leads_here g t d m ≡ true) × (g.undo t d m ≡ b)
  unfolding before_at
  led_before t d m b e = elim (cases_Bool (leads_here g t d m)) [
    | inl f ↦ (f, (let h : Some (g.undo t d m) ≡ Some b = sym (cond-true _ _ _ f) ∙ e in let z : g.undo t d m ≡ b = cc in z))
    | inr f ↦ absurd (let h : None ≡ Some b = sym (cond-false _ _ _ f) ∙ e in let z : ⊥ = cc in z)
  ]

  -- the boards before are those to which the marked numbers lead back
  pub befores_marked : (t : ℕ) (d : B) (c : Marks) → AreMarks (leads_here g t d) (g.move_number_bound t) c
      → put_all [] (map (index_before g t d) (marked c)) ≡ put_all [] (map (least_index (board_game g)) (befores g t d))
  unfolding befores
  befores_marked t d c h =
      let bound = g.move_number_bound t in
      let f = index_before g t d in
      put_all_same (map f (marked c)) (map (least_index (board_game g)) (befores g t d))
      (λ i v.
      let (m, j, e) = contains_unmap f (marked c) i v in
      let x = (h.exact m).0 j in
      subst (Contains (map (least_index (board_game g)) (befores g t d))) e
      (contains_map (least_index (board_game g)) _ (g.undo t d m)
      (filter_map_to (before_at g t d) (range_with_len 0 bound) m (g.undo t d m) (contains_range bound m x.0) (before_led t d m x.1))))
      (λ i v.
      let (b, j, e) = contains_unmap (least_index (board_game g)) (befores g t d) i v in
      let (m, k, s) = filter_map_from (before_at g t d) (range_with_len 0 bound) b j in
      let x = led_before t d m b s in
      subst (Contains (map f (marked c))) (ap (least_index (board_game g)) x.1 ∙ e)
      (contains_map f (marked c) m ((h.exact m).1 (range_below bound m k, x.0))))

  -- ---- the boards after
  -- the marked moves lead to the boards after a board
  pub results_marked : (b : B) (c : Marks) → AreMarks (g.can_move b) (g.move_number_bound (g.tier b)) c → g.end_by_last_move b ≡ None
      → HasSame (next_images (board_game g) b) (map (position_after g b) (marked c))
  results_marked b c h o =
      let all : (board_game g).moves b ≡ steps g b = ap (λ (e : Option End). moves_by e (steps g b)) o in
      let after = position_after g b in λ p. (
        λ v.
            (let (m, j, e) = contains_unmap after (marked c) p v in
            let x = (h.exact m).0 j in
            subst (λ (ms : List ℕ). Contains (map after ms) p) (sym all)
            (subst (Contains (map after (steps g b))) e (contains_map after (steps g b) m (step_from g b m x.0 x.1)))),
        λ v.
            (let (m, j, e) = contains_unmap after (steps g b) p (subst (λ (ms : List ℕ). Contains (map after ms) p) all v) in
            subst (Contains (map after (marked c))) e (contains_map after (marked c) m ((h.exact m).1 (step_in g b m j)))),
      )

  -- if the game is over there is none
  pub results_over : (b : B) → g.end_by_last_move b ≢ None → HasSame (next_images (board_game g) b) []
  results_over b o p =
      let none : (board_game g).moves b ≡ [] = over_none (g.end_by_last_move b) (steps g b) o in
      (λ v. absurd (contains_none p v), λ v. absurd (contains_none p (subst (λ (ms : List ℕ). Contains (map (position_after g b) ms) p) none v)))
