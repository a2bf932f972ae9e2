-- The symmetries preserve the rules.
use Rattle.std.specs.Prelude.{◌≡◌, ◌<◌, ◌≤◌, ◌&&◌, if◌then◌else◌}
use Rattle.gm_pieces.specs.Common.{ℕ, Bool, true, false, not, eqb, refl, sym, ap, ◌∙◌, arith, inl, inr, cases_Bool, range_below, contains_range, None, Some, Lose, IsMoveSymmetric}
use Rattle.gm_game.specs.declared.position.End.TheVariants.{Tie}
use Rattle.gm_squares.specs.declared.men.Men.{Men}
use Rattle.gm_squares.specs.Chess.{king_can, piece_can, foe_can, legal, man, from_square, to_square, man_step_number, can_move, moved, end_by_last_move, end_if_no_move, in_check, tier, ending, foe_gone, image_square, image}
use Rattle.gm_squares.specs.laws.AttackFacts.{image_identity, image_product, image_inverse, image_below, image_same, image_taken, king_image, piece_image, image_on_board}
use Rattle.gm_squares.specs.laws.MenFacts.{king_below, piece_most, foe_below, same_men, man_small, to_below, from_below}

-- ---- the parts of a number
split_man : (k a c : ℕ) → a < 64 → c < 64 → man (man_step_number k a c) ≡ k
unfolding man
split_man k a c l h = omega (arith, l, h)

split_from : (k a c : ℕ) → a < 64 → c < 64 → from_square (man_step_number k a c) ≡ a
unfolding from_square
split_from k a c l h = omega (arith, l, h)

split_to : (k a c : ℕ) → a < 64 → c < 64 → to_square (man_step_number k a c) ≡ c
unfolding to_square
split_to k a c l h = omega (arith, l, h)

pub number_below : (k a c : ℕ) → a < 64 → c < 64 → k ≤ 2 → man_step_number k a c < 12288
number_below k a c l h s = omega (arith, l, h, s)

-- a man that a move takes is taken in every image
taken_image : (t : Bool) (x p : ℕ) → (if t then 64 else image_square x p) ≡ image_square x (if t then 64 else p)
taken_image true x p = sym (image_taken x)
taken_image false x p = refl

-- ---- a board
pub record HasSquares (b : Men) : Type 0 where
  pub king : b.king ≤ 64
  pub foe : b.foe ≤ 64
  pub piece : b.piece ≤ 64

-- the squares of a legal board
squares : (q : Bool) (b : Men) → legal q b ≡ true → HasSquares b
squares q b h =
    let k = king_below q b h in let f = foe_below q b h in record { king = omega (arith, k); foe = omega (arith, f); piece = piece_most q b h }

module _ (q : Bool) (x : ℕ) (lx : x < 8) (b : Men) (h : HasSquares b) where
  k64 : b.king ≤ 64
  k64 = h.king

  f64 : b.foe ≤ 64
  f64 = h.foe

  p64 : b.piece ≤ 64
  p64 = h.piece

  pub check_image : in_check q (image x b) ≡ in_check q b
  unfolding in_check
  check_image = piece_image q x b.piece b.foe b.king b.king lx p64 f64 k64 k64

  -- a man that has been taken is taken in every image
  pub gone : eqb (image_square x b.piece) 64 ≡ eqb b.piece 64
  gone = ap (eqb (image_square x b.piece)) (sym (image_taken x)) ∙ image_same x b.piece 64 lx p64 (omega arith)

  -- an image of a legal board is legal
  pub image_legal : legal q (image x b) ≡ legal q b
  unfolding legal
  image_legal =
      rw (
        image_on_board x b.king lx k64,
        image_on_board x b.foe lx f64,
        image_on_board x b.piece lx p64,
        image_same x b.king b.foe lx k64 f64,
        king_image x b.king b.foe lx k64 f64,
        gone,
        image_same x b.piece b.king lx p64 k64,
        image_same x b.piece b.foe lx p64 f64,
        check_image,
      ) refl

  pub image_over : end_by_last_move (image x b) ≡ end_by_last_move b
  unfolding end_by_last_move
  image_over = ap (λ (t : Bool). if t then Some Tie else None) gone

  pub image_stuck : end_if_no_move q (image x b) ≡ end_if_no_move q b
  unfolding end_if_no_move
  image_stuck = ap (λ (c : Bool). if not b.white_moves && c then Lose else Tie) check_image

  pub image_tier : tier (image x b) ≡ tier b
  unfolding tier
  image_tier = ap (λ (t : Bool). if t then 0 else 1) gone

  -- ---- moves
  module _ (m : ℕ) where
    abbrev pub turned : ℕ
    turned = man_step_number (man m) (image_square x (from_square m)) (image_square x (to_square m))

    fl : image_square x (from_square m) < 64
    fl = image_below x (from_square m) lx (from_below m)

    tl : image_square x (to_square m) < 64
    tl = image_below x (to_square m) lx (to_below m)

    t64 : to_square m ≤ 64
    t64 = let l = to_below m in omega (arith, l)

    a64 : from_square m ≤ 64
    a64 = let l = from_below m in omega (arith, l)

    pub man_is : man turned ≡ man m
    man_is = split_man (man m) (image_square x (from_square m)) (image_square x (to_square m)) fl tl

    pub from_is : from_square turned ≡ image_square x (from_square m)
    from_is = split_from (man m) (image_square x (from_square m)) (image_square x (to_square m)) fl tl

    pub to_is : to_square turned ≡ image_square x (to_square m)
    to_is = split_to (man m) (image_square x (from_square m)) (image_square x (to_square m)) fl tl

    -- a move of the board has an image among the moves of the image
    pub image_can : can_move q (image x b) turned ≡ can_move q b m
    unfolding can_move king_can piece_can foe_can
    image_can =
        rw (
          man_is,
          from_is,
          to_is,
          image_same x (from_square m) b.king lx a64 k64,
          image_same x (from_square m) b.piece lx a64 p64,
          image_same x (from_square m) b.foe lx a64 f64,
          image_same x (to_square m) b.king lx t64 k64,
          image_same x (to_square m) b.piece lx t64 p64,
          image_same x (to_square m) b.foe lx t64 f64,
          king_image x (from_square m) (to_square m) lx a64 t64,
          king_image x (to_square m) b.foe lx t64 f64,
          king_image x b.king (to_square m) lx k64 t64,
          piece_image q x (from_square m) (to_square m) b.king b.foe lx a64 t64 k64 f64,
          piece_image q x b.piece (to_square m) b.king b.king lx p64 t64 k64 k64,
        ) refl

    left_image : (if eqb (image_square x (to_square m)) (image_square x b.piece) then 64 else image_square x b.piece)
        ≡ image_square x (if eqb (to_square m) b.piece then 64 else b.piece)
    left_image =
        ap (λ (t : Bool). if t then 64 else image_square x b.piece) (image_same x (to_square m) b.piece lx t64 p64)
        ∙ taken_image (eqb (to_square m) b.piece) x b.piece

    pub image_moved : moved (image x b) turned ≡ image x (moved b m)
    unfolding moved
    image_moved = rw (man_is, to_is) (elim (cases_Bool (eqb (man m) 0)) [
      | inl e ↦ rw e refl
      | inr e ↦ elim (cases_Bool (eqb (man m) 1)) [
        | inl f ↦ rw (e, f) refl
        | inr f ↦ rw (e, f) (same_men (foe_gone (image x b) (image_square x (to_square m))) (image x (foe_gone b (to_square m))) refl refl left_image refl)
      ]
    ])

    pub image_number : m < 12288 → turned < 12288
    image_number l = number_below (man m) (image_square x (from_square m)) (image_square x (to_square m)) fl tl (man_small m l)

-- ---- the laws
abbrev pub moved_by : (ℕ → ℕ) → Men → Men
moved_by f b = record { white_moves = b.white_moves; king = f b.king; piece = f b.piece; foe = f b.foe }

-- images of a board are equal where those of squares are
pub on_squares : (b : Men) → HasSquares b → (f g : ℕ → ℕ) → ((s : ℕ) → s ≤ 64 → f s ≡ g s) → moved_by f b ≡ moved_by g b
on_squares b h f g e = same_men (moved_by f b) (moved_by g b) refl (e b.king h.king) (e b.piece h.piece) (e b.foe h.foe)

pub symmetric : (q : Bool) → IsMoveSymmetric (ending q)
symmetric q = record {
  group = record {
    identity = (0, contains_range 8 0 (omega arith), λ b l. on_squares b (squares q b l) (image_square 0) (λ s. s) image_identity);
    closed = λ x y c d.
        let lx = range_below 8 x c in
        let ly = range_below 8 y d in
        let z = image_product x y lx ly in
        (z.0, contains_range 8 z.0 z.1, λ b l. on_squares b (squares q b l) (λ s. image_square x (image_square y s)) (image_square z.0) z.2);
    inverse = λ x c.
        let z = image_inverse x (range_below 8 x c) in
        (z.0, contains_range 8 z.0 z.1, λ b l. on_squares b (squares q b l) (λ s. image_square z.0 (image_square x s)) (λ s. s) z.2);
  };
  keeps_legal = λ x b c l. image_legal q x (range_below 8 x c) b (squares q b l) ∙ l;
  keeps_over = λ x b c l. image_over q x (range_below 8 x c) b (squares q b l);
  keeps_stuck = λ x b c l. image_stuck q x (range_below 8 x c) b (squares q b l);
  keeps_tier = λ x b c l. image_tier q x (range_below 8 x c) b (squares q b l);
  keeps_move = λ x b m c l h.
      let lx = range_below 8 x c in (
        turned q x lx b (squares q b l) m,
        record { below = image_number q x lx b (squares q b l) m h.below; not_over = image_over q x lx b (squares q b l) ∙ h.not_over; can = image_can q x lx b (squares q b l) m ∙ h.can },
        image_moved q x lx b (squares q b l) m,
      );
}
