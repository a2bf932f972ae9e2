-- Different moves lead to different boards, so that a board has as many children as moves.
use Rattle.std.specs.Prelude.{◌≡◌, ◌≢◌, ◌<◌, ◌++◌, ◌∷◌}
use Rattle.gm_pieces.specs.Common.{ℕ, Bool, true, false, eqb-true, List, length, map, set_of, next_images, sym, ap, ap₂, ◌∙◌, subst, arith, inl, inr, None, Position, bit_at, and_left, and_right, cases_Bool, cases_eq, not-true, board_game, least_image, steps}
use Rattle.std.proofs.lemmas.Nat.Bits.{bit_at-lt}
use Rattle.gm_board.specs.laws.MaskChanges.{no_bit}
use Rattle.gm_pieces.specs.laws.CountFacts.{HasApartResults, results_counted}
use Rattle.gm_pieces.specs.laws.MarkedFacts.{over_none}
use Rattle.gm_squares.specs.Squares.{square_text}
use Rattle.gm_squares.specs.declared.chase.Chase.{Chase}
use Rattle.gm_squares.specs.FoxHounds.{fox_and_hounds, has_man, dark, to_square, from_square, step_text, legal, index, board, can_go, gone, can_move, moved, toggled}
use Rattle.gm_squares.specs.laws.DarkFacts.{IsStep, step, step_told}
use Rattle.gm_squares.specs.laws.ChaseLaws.{lawful, on_board}
use Rattle.gm_squares.specs.laws.ChaseNumbering.{numbered}
use Rattle.gm_squares.specs.laws.MaskFacts.{toggled_here, toggled_other}

-- a move is determined by its squares
same_step : (m n : ℕ) → IsStep m → IsStep n → from_square m ≡ from_square n → to_square m ≡ to_square n → m ≡ n
unfolding step_text
same_step m n s t e f =
    sym s.text_told ∙ ap step_told (ap₂ (λ (a c : ℕ). square_text (dark a) ++ 45 ∷ square_text (dark c)) e f) ∙ t.text_told

-- a hound's squares are those at which the masks differ
module _ (h a c x y : ℕ) (ha : bit_at h a ≡ 1) (hc : bit_at h c ≡ 0) (hx : bit_at h x ≡ 1) (hy : bit_at h y ≡ 0) (e : toggled (toggled h a) c ≡ toggled (toggled h x) y) where
  differ : (i j : ℕ) → bit_at h i ≡ 1 → bit_at h j ≡ 0 → i ≢ j
  differ i j u v w = let z = ap (bit_at h) w in omega (arith, u, v, z)

  same_from : a ≡ x
  same_from = elim (cases_eq a x) [
    | inl f ↦ f
    | inr n ↦ absurd (
        let left = toggled_other (toggled h a) c a (differ a c ha hc) in
        let gone_here = toggled_here h a in
        let right = toggled_other (toggled h x) y a (differ a y ha hy) ∙ toggled_other h x a n in
        let same = ap (λ (v : ℕ). bit_at v a) e in
        omega (arith, left, gone_here, right, same, ha))
  ]

  same_to : c ≡ y
  same_to = elim (cases_eq c y) [
    | inl f ↦ f
    | inr n ↦ absurd (
        let here = toggled_here (toggled h a) c in
        let before = toggled_other h a c (λ w. differ a c ha hc (sym w)) in
        let right = toggled_other (toggled h x) y c n ∙ toggled_other h x c (λ w. differ x c hx hc (sym w)) in
        let same = ap (λ (v : ℕ). bit_at v c) e in
        omega (arith, here, before, right, same, hc))
  ]

module _ (b : Chase) (l : legal b ≡ true) where
  -- the squares of a move of the side to move
  record HasSquares (m : ℕ) : Type 0 where
    steps_on : IsStep m
    fox : b.hounds_move ≡ false → from_square m ≡ b.fox
    from : b.hounds_move ≡ true → bit_at b.hounds (from_square m) ≡ 1
    to : bit_at b.hounds (to_square m) ≡ 0

  squares : (m : ℕ) → m < 128 → can_move b m ≡ true → HasSquares m
  unfolding can_move can_go
  squares m k e =
      let can = and_right _ _ e in
      let free = and_right _ _ can in
      record {
        steps_on = step m k (on_board b m e);
        fox = λ t. eqb-true (from_square m) b.fox (sym (ap (λ (s : Bool). has_man s b (from_square m)) t) ∙ and_left _ _ can);
        from = λ t. eqb-true (bit_at b.hounds (from_square m)) 1 (sym (ap (λ (s : Bool). has_man s b (from_square m)) t) ∙ and_left _ _ can);
        to = no_bit (bit_at b.hounds (to_square m)) (bit_at-lt b.hounds (to_square m)) (not-true _ (and_left _ _ free));
      }

  same_moved : (m n : ℕ) → HasSquares m → HasSquares n → moved b m ≡ moved b n → m ≡ n
  unfolding moved
  same_moved m n s t e = elim (cases_Bool b.hounds_move) [
    | inr f ↦ (
        let side : gone false b (from_square m) (to_square m) ≡ gone false b (from_square n) (to_square n) =
        subst (λ (h : Bool). gone h b (from_square m) (to_square m) ≡ gone h b (from_square n) (to_square n)) f e in
        same_step m n s.steps_on t.steps_on (s.fox f ∙ sym (t.fox f)) (ap (λ (d : Chase). d.fox) side))
    | inl f ↦ (
        let side : gone true b (from_square m) (to_square m) ≡ gone true b (from_square n) (to_square n) =
        subst (λ (h : Bool). gone h b (from_square m) (to_square m) ≡ gone h b (from_square n) (to_square n)) f e in
        let masks = ap (λ (d : Chase). d.hounds) side in
        same_step m n s.steps_on t.steps_on
        (same_from b.hounds (from_square m) (to_square m) (from_square n) (to_square n) (s.from f) s.to (t.from f) t.to masks)
        (same_to b.hounds (from_square m) (to_square m) (from_square n) (to_square n) (s.from f) s.to (t.from f) t.to masks))
  ]

  apart : HasApartResults fox_and_hounds lawful b l
  apart m n u v e =
      let d = moved b m in
      let f = moved b n in
      let ld = lawful.moved_legal b m l u in
      let lf = lawful.moved_legal b n l v in
      let least = ap (λ (p : Position). p.index) e in
      let same : index d ≡ index f = omega (arith, least) in
      same_moved m n (squares m u.below u.can) (squares n v.below v.can)
      (sym (numbered.board_back d ld) ∙ ap board same ∙ numbered.board_back f lf)

  pub children_counted : fox_and_hounds.end_by_last_move b ≡ None → length (steps fox_and_hounds b) ≡ length (set_of (next_images (board_game fox_and_hounds) b))
  children_counted none = results_counted fox_and_hounds lawful b l apart none

-- a board at which the game is over has no child
pub over_counted : (b : Chase) → fox_and_hounds.end_by_last_move b ≢ None → 0 ≡ length (set_of (next_images (board_game fox_and_hounds) b))
over_counted b n =
    sym (ap (λ (ms : List ℕ). length (set_of (map (λ m. least_image (board_game fox_and_hounds) (moved b m)) ms))) (over_none (fox_and_hounds.end_by_last_move b) (steps fox_and_hounds b) n))
