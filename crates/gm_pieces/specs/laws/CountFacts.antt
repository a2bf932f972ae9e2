-- If different moves lead to different least images, there are as many of these as moves.
use Rattle.std.specs.Prelude.{◌≡◌, ◌≢◌, ◌<◌, ◌∷◌}
use Rattle.std.proofs.Common.{ℕ, true, List, [], map, length, Option, None, Some, sym, ap, ◌∙◌, subst, arith, inl, inr}
use Rattle.std.proofs.lemmas.List.{length-map}
use Rattle.std.specs.List.{Contains}
use Rattle.gm_game.specs.Rules.{IsAscending}
use Rattle.gm_game.specs.declared.position.End.{End}
use Rattle.gm_game.specs.declared.position.Position.{Position}
use Rattle.gm_game.specs.Boards.{least_image, next_images}
use Rattle.gm_game.specs.Children.{set_of}
use Rattle.gm_game.proofs.ChildrenLemmas.{length_set}
use Rattle.gm_game.proofs.Counts.{HasNoRepeats}
use Rattle.gm_game.proofs.Lists.{contains_none, contains_first, contains_later, map_in}
use Rattle.gm_pieces.specs.MoveGames.{MoveGame, board_game, moves_by, steps, IsMove, IsMoveGame}
use Rattle.gm_pieces.specs.laws.Listed.{ascending_above}
use Rattle.gm_pieces.specs.laws.MoveLaws.{move_in, move_game_lawful}

-- a function that differs where its argument does repeats nothing
pub no_repeats_map : {X Y : Type 0} (f : X → Y) (xs : List X) → ((x y : X) → Contains xs x → Contains xs y → f x ≡ f y → x ≡ y) → HasNoRepeats xs → HasNoRepeats
    (map f xs)
no_repeats_map f [] i n = tt
no_repeats_map {X} f (x ∷ xs) i n = (
  λ h. (let (y, l, e) = map_in f xs (f x) h in n.0 (subst (λ (z : X). Contains xs z) (i y x (contains_later x y xs l) (contains_first x xs) e) l)),
  no_repeats_map f xs (λ y z a b. i y z (contains_later x y xs a) (contains_later x z xs b)) n.1,
)

pub no_repeats_ascending : (xs : List ℕ) → IsAscending xs → HasNoRepeats xs
no_repeats_ascending [] up = tt
no_repeats_ascending (x ∷ []) up = ((λ h. contains_none x h), tt)
no_repeats_ascending (x ∷ y ∷ ys) up = ((λ h. (let a = ascending_above x (y ∷ ys) up x h in omega arith)), no_repeats_ascending (y ∷ ys) up.1)

module _ {B S : Type 0} (g : MoveGame B S) (r : IsMoveGame g) (b : B) (l : g.legal b ≡ true) where
  -- two moves that lead to one least image are one
  abbrev pub HasApartResults : Type 0
  HasApartResults = (m n : ℕ) → IsMove g b m → IsMove g b n → least_image (board_game g) (g.moved b m) ≡ least_image (board_game g) (g.moved b n) → m ≡ n

  pub results_counted : HasApartResults → g.end_by_last_move b ≡ None → length (steps g b) ≡ length (set_of (next_images (board_game g) b))
  results_counted apart none =
      let f : ℕ → Position = λ m. least_image (board_game g) (g.moved b m) in
      let ms = (board_game g).moves b in
      let up = (move_game_lawful g r).moves_ascending b l in
      let all : ms ≡ steps g b = ap (λ (o : Option End). moves_by o (steps g b)) none in
      let once = no_repeats_map f ms (λ x y u v e. apart x y (move_in g b x u) (move_in g b y v) e) (no_repeats_ascending ms up) in
      ap (λ (xs : List ℕ). length xs) (sym all) ∙ sym (length-map ms f) ∙ sym (length_set (map f ms) once)
