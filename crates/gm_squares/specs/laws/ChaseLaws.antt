-- Fox and Hounds has the laws of a game.
use Rattle.std.specs.Prelude.{◌≡◌, ◌<◌, ◌&&◌}
use Rattle.gm_pieces.specs.Common.{ℕ, Bool, true, not, [], refl, sym, subst, arith, inl, and_left, and_right, and_both, contains_head, IsMoveGame, IsMoveSymmetric, steps}
use Rattle.std.specs.Int.Count.{ones}
use Rattle.gm_pieces.specs.laws.TriedFacts.{all_below, tried_few}
use Rattle.gm_squares.specs.Squares.{goes_on_board}
use Rattle.gm_squares.specs.declared.chase.Chase.{Chase}
use Rattle.gm_squares.specs.FoxHounds.{fox_and_hounds, legal, dark, from_square, to_square, way, leads, can_go, gone, can_move, moved, can_have_led_here, undo}
use Rattle.gm_squares.specs.laws.DarkFacts.{step}
use Rattle.gm_squares.specs.laws.ChaseFacts.{IsGone, goes, legal_in, legal_from, not_not}

-- ---- moves, made and taken back
pub on_board : (b : Chase) (m : ℕ) → can_move b m ≡ true → goes_on_board (way m) (dark (from_square m)) ≡ true
unfolding can_move
on_board b m e = and_left _ _ (and_left _ _ e)

pub was_on_board : (d : Chase) (m : ℕ) → can_have_led_here d m ≡ true → goes_on_board (way m) (dark (from_square m)) ≡ true
unfolding can_have_led_here
was_on_board d m e = and_left _ _ (and_left _ _ e)

move_goes : (b : Chase) (m : ℕ) → legal b ≡ true → m < 128 → can_move b m ≡ true → IsGone b.hounds_move b (from_square m) (to_square m)
unfolding can_move
move_goes b m l k e =
    let s = step m k (on_board b m e) in goes b.hounds_move b (from_square m) (to_square m) (legal_in b l) s.from_below s.to_below (and_right _ _ e)

undone : (b : Chase) (m : ℕ) → legal b ≡ true → m < 128 → can_move b m ≡ true → (can_have_led_here (moved b m) m ≡ true) × (undo (moved b m) m ≡ b)
unfolding can_move moved can_have_led_here undo
undone b m l k e =
    let g = move_goes b m l k e in
    let a = from_square m in
    let c = to_square m in
    let same = sym (not_not b.hounds_move) in (
      subst (λ (t : Bool). (leads t m && can_go t (gone b.hounds_move b a c) c a) ≡ true) same (and_both _ _ (and_left _ _ e) g.can),
      subst (λ (t : Bool). gone t (gone b.hounds_move b a c) c a ≡ b) same g.back,
    )

redone : (d : Chase) (m : ℕ) → legal d ≡ true → m < 128 → can_have_led_here d m ≡ true → moved (undo d m) m ≡ d
unfolding moved can_have_led_here undo
redone d m l k e =
    let s = step m k (was_on_board d m e) in
    (goes (not d.hounds_move) d (to_square m) (from_square m) (legal_in d l) s.to_below s.from_below (and_right _ _ e)).back

-- ---- the laws
pub lawful : IsMoveGame fox_and_hounds
unfolding steps moved legal ones
lawful = record {
  name_length = refl;
  name_text = refl;
  start_legal = refl;
  numbers_fit = λ t. omega arith;
  moved_legal = λ b m l h. legal_from _ (move_goes b m l h.below h.can).legal;
  moved_tier = λ b m l h. inl refl;
  child_rank = λ t u c. absurd (omega (arith, c.1));
  child_tiers_ascending = λ t. tt;
  undone = λ b m l h. undone b m l h.below h.can;
  redone = λ t d m l w k e h. redone d m l h.below w;
  moves_few = λ b l. tried_few (can_move b) 128 _ (all_below (can_move b) 128 (omega arith));
  befores_few = λ t d l. tried_few (can_have_led_here d) 128 _ (all_below (can_have_led_here d) 128 (omega arith));
  child_tiers_few = λ t. omega arith;
}

-- the one symmetry changes nothing
pub symmetric : IsMoveSymmetric fox_and_hounds
symmetric = record {
  group = record {
    identity = (0, contains_head 0 [], λ b l. refl);
    closed = λ x y c d. (0, contains_head 0 [], λ b l. refl);
    inverse = λ x c. (0, contains_head 0 [], λ b l. refl);
  };
  keeps_legal = λ x b c l. l;
  keeps_over = λ x b c l. refl;
  keeps_stuck = λ x b c l. refl;
  keeps_tier = λ x b c l. refl;
  keeps_move = λ x b m c l k. (m, k, refl);
}
