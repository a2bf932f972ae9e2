-- Reversing the files preserves the rules of king and pawn against king.
use Rattle.std.specs.Prelude.{◌≡◌, ◌+◌, ◌/◌, ◌<◌, ◌≤◌, ◌&&◌, ◌⊎◌, ◌∷◌, if◌then◌else◌}
use Rattle.gm_pieces.specs.Common.{ℕ, Bool, true, false, not, eqb, eqb-true, eq-eqb, leb, List, [], min, refl, sym, ap, ◌∙◌, subst, arith, inl, inr, cases_Bool, Contains, contains_cases, contains_head, contains_later, list_all, range_with_len, all_at, at_all, at_each, at_below, agree, agree_same, cond_both, IsMoveSymmetric, board_game, least_index}
use Rattle.gm_game.specs.declared.position.End.TheVariants.{Lose, Tie}
use Rattle.gm_squares.specs.declared.men.Men.{Men}
use Rattle.gm_squares.specs.declared.pawns.WhiteMan.{WhiteMan}
use Rattle.gm_squares.specs.declared.pawns.WhiteMan.TheVariants.{Taken, Queen, Rook, Bishop, Knight, Pawn}
use Rattle.gm_squares.specs.declared.pawns.PawnBoard.{PawnBoard}
use Rattle.gm_squares.specs.Squares.{goes_on_board, beside}
use Rattle.gm_squares.specs.Chess.{ray, reaches, king_can, man, from_square, to_square, man_step_number, moved as men_moved, image_square, image as men_image, index as men_index}
use Rattle.gm_squares.specs.Kpk.{kpk, black_to_move, are_placed, legal_with, legal, pawn_attacks, is_free, pawn_can, pawn_promotes, foe_can_beside_pawn, can_move_with_pawn, can_move_with, tier, left_of, moved, checks, end_if_no_move, image, move_number_bound}
use Rattle.gm_squares.specs.laws.AttackFacts.{image_identity, image_below, image_same, king_image}
use Rattle.gm_squares.specs.laws.MenFacts.{if_true, to_below, from_below}
use Rattle.gm_squares.specs.laws.MenImages.{HasSquares, gone, image_legal as men_image_legal, check_image, turned, man_is, from_is, to_is, image_can as men_image_can, image_moved as men_image_moved, image_number, moved_by, on_squares}
use Rattle.gm_squares.specs.laws.PawnFacts.{placed_with, same_boards}
use Rattle.gm_squares.specs.laws.PawnTried.{man_most}

-- ---- the two symmetries
abbrev pub symmetries : List ℕ
symmetries = 0 ∷ 2 ∷ []

pub two : (x : ℕ) → Contains symmetries x → (x ≡ 0) ⊎ (x ≡ 2)
two x c = elim (contains_cases 0 (2 ∷ []) x c) [
  | inl e ↦ inl (sym e)
  | inr d ↦ elim (contains_cases 2 [] x d) [ inl e ↦ inr (sym e) | inr n ↦ absurd (omega (arith, n.1)) ]
]

zero_in : Contains symmetries 0
zero_in = contains_head 0 (2 ∷ [])

pub two_in : Contains symmetries 2
two_in = contains_later 0 (2 ∷ []) 2 (contains_head 2 [])

pub few : (x : ℕ) → Contains symmetries x → x < 8
few x c = elim (two x c) [ inl e ↦ omega (arith, e) | inr e ↦ omega (arith, e) ]

-- ---- what computing shows
abbrev keeps_attack : ℕ → ℕ → ℕ → Bool
keeps_attack x a c = agree (pawn_attacks (image_square x a) (image_square x c)) (pawn_attacks a c)

attack_table : list_all (λ x. at_all 65 65 (keeps_attack x)) symmetries ≡ true
unfolding pawn_attacks image_square goes_on_board beside ray reaches
attack_table = refl

attack_image : (x a c : ℕ) → Contains symmetries x → a ≤ 64 → c ≤ 64 → pawn_attacks (image_square x a) (image_square x c) ≡ pawn_attacks a c
attack_image x a c i l h =
    agree_same _ _ (at_each 65 65 (keeps_attack x) (all_at (λ x. at_all 65 65 (keeps_attack x)) symmetries x attack_table i) a c (omega (arith, l)) (omega (arith, h)))

-- a square keeps its row
abbrev keeps_row : ℕ → ℕ → Bool
keeps_row x s = eqb (image_square x s / 8) (s / 8)

row_table : list_all (λ x. list_all (keeps_row x) (range_with_len 0 65)) symmetries ≡ true
unfolding image_square
row_table = refl

row_image : (x s : ℕ) → Contains symmetries x → s ≤ 64 → image_square x s / 8 ≡ s / 8
row_image x s i l =
    eqb-true _ _ (at_below 65 (keeps_row x) (all_at (λ x. list_all (keeps_row x) (range_with_len 0 65)) symmetries x row_table i) s (omega (arith, l)))

-- a square n / 8 rows up is so in the images
abbrev keeps_up : ℕ → ℕ → ℕ → ℕ → Bool
keeps_up n x a c = agree (eqb (image_square x c) (image_square x a + n)) (eqb c (a + n))

up_table : list_all (λ x. at_all 64 64 (keeps_up 8 x)) symmetries ≡ true
unfolding image_square
up_table = refl

twice_table : list_all (λ x. at_all 64 64 (keeps_up 16 x)) symmetries ≡ true
unfolding image_square
twice_table = refl

up_image : (x a c : ℕ) → Contains symmetries x → a < 64 → c < 64 → eqb (image_square x c) (image_square x a + 8) ≡ eqb c (a + 8)
up_image x a c i l h = agree_same _ _ (at_each 64 64 (keeps_up 8 x) (all_at (λ x. at_all 64 64 (keeps_up 8 x)) symmetries x up_table i) a c l h)

twice_image : (x a c : ℕ) → Contains symmetries x → a < 64 → c < 64 → eqb (image_square x c) (image_square x a + 16) ≡ eqb c (a + 16)
twice_image x a c i l h = agree_same _ _ (at_each 64 64 (keeps_up 16 x) (all_at (λ x. at_all 64 64 (keeps_up 16 x)) symmetries x twice_table i) a c l h)

-- the square that a pawn goes over
abbrev keeps_over_square : ℕ → ℕ → ℕ → Bool
keeps_over_square x a k = if eqb (a / 8) 1 then agree (eqb (image_square x a + 8) (image_square x k)) (eqb (a + 8) k) else true

over_table : list_all (λ x. at_all 64 65 (keeps_over_square x)) symmetries ≡ true
unfolding image_square
over_table = refl

over_image : (x a k : ℕ) → Contains symmetries x → a < 64 → k ≤ 64 → eqb (a / 8) 1 ≡ true → eqb (image_square x a + 8) (image_square x k) ≡ eqb (a + 8) k
over_image x a k i l h e =
    agree_same _ _ (sym (if_true (eqb (a / 8) 1) _ _ e)
    ∙ at_each 64 65 (keeps_over_square x) (all_at (λ x. at_all 64 65 (keeps_over_square x)) symmetries x over_table i) a k l (omega (arith, h)))

-- ---- a board beside a pawn
module _ (x : ℕ) (i : Contains symmetries x) (b : Men) (h : HasSquares b) where
  -- the test of two squares up
  abbrev twice_rest : Men → ℕ → ℕ → Bool
  twice_rest b a c = eqb (a / 8) 1 && (eqb c (a + 16) && is_free b (a + 8))

  twice_rest_image : (a c : ℕ) → a < 64 → c < 64 → twice_rest (men_image x b) (image_square x a) (image_square x c) ≡ twice_rest b a c
  twice_rest_image a c l k = elim (cases_Bool (eqb (a / 8) 1)) [
    | inl e ↦ rw (row_image x a i (omega (arith, l)), e, twice_image x a c i l k, over_image x a b.king i l h.king e, over_image x a b.foe i l h.foe e) refl
    | inr e ↦ rw (row_image x a i (omega (arith, l)), e) refl
  ]

  module _ (m : ℕ) where
    a64 : from_square m ≤ 64
    a64 = let l = from_below m in omega (arith, l)

    c64 : to_square m ≤ 64
    c64 = let l = to_below m in omega (arith, l)

    pub lx : x < 8
    lx = few x i

    pub pawn_image_can : can_move_with_pawn (men_image x b) (turned false x lx b h m) ≡ can_move_with_pawn b m
    unfolding can_move_with_pawn king_can pawn_can pawn_promotes foe_can_beside_pawn
    pawn_image_can =
        rw (
          man_is false x lx b h m,
          from_is false x lx b h m,
          to_is false x lx b h m,
          twice_rest_image (from_square m) (to_square m) (from_below m) (to_below m),
          row_image x (from_square m) i a64,
          up_image x (from_square m) (to_square m) i (from_below m) (to_below m),
          image_same x (from_square m) b.king lx a64 h.king,
          image_same x (from_square m) b.piece lx a64 h.piece,
          image_same x (from_square m) b.foe lx a64 h.foe,
          image_same x (to_square m) b.king lx c64 h.king,
          image_same x (to_square m) b.piece lx c64 h.piece,
          image_same x (to_square m) b.foe lx c64 h.foe,
          king_image x (from_square m) (to_square m) lx a64 c64,
          king_image x (to_square m) b.foe lx c64 h.foe,
          king_image x b.king (to_square m) lx h.king c64,
          attack_image x b.piece (to_square m) i h.piece c64,
        ) refl

-- ---- all boards
pub squares_with : (k : WhiteMan) (b : Men) → legal_with k b ≡ true → HasSquares b
squares_with k b l =
    let p = placed_with k b l in
    let king = p.king in let foe = p.foe in record { king = omega (arith, king); foe = omega (arith, foe); piece = p.most }

-- a number of a pawn's tier
number_most : (k a c : ℕ) → a < 64 → c < 64 → k ≤ 6 → man_step_number k a c < 28672
number_most k a c l h s = omega (arith, l, h, s)

-- the squares after a move, and whether White's man is off the board in the image
moved_squares : (b : Men) → HasSquares b → (m : ℕ) → HasSquares (men_moved b m)
unfolding men_moved
moved_squares b h m =
    let c = to_square m in
    let l = to_below m in
    let c64 : c ≤ 64 = omega (arith, l) in
    elim (cases_Bool (eqb (man m) 0)) [
      | inl e ↦ rw e (record { king = c64; foe = h.foe; piece = h.piece })
      | inr e ↦ elim (cases_Bool (eqb (man m) 1)) [
        | inl f ↦ rw (e, f) (record { king = h.king; foe = h.foe; piece = c64 })
        | inr f ↦ rw (e, f) (record { king = h.king; foe = c64; piece = cond_both (eqb c b.piece) 64 b.piece (λ (p : ℕ). p ≤ 64) (λ g. omega arith) (λ g. h.piece) })
      ]
    ]

module _ (x : ℕ) (i : Contains symmetries x) where
  pub l8 : x < 8
  l8 = few x i

  placed_image : (b : Men) → HasSquares b → are_placed (men_image x b) ≡ are_placed b
  placed_image b h = men_image_legal false x l8 (black_to_move b) (record { king = h.king; foe = h.foe; piece = h.piece })

  legal_image : (k : WhiteMan) (b : Men) → HasSquares b → legal_with k (men_image x b) ≡ legal_with k b
  unfolding legal_with
  legal_image Taken b h = rw (gone false x l8 b h, men_image_legal false x l8 b h) refl
  legal_image Queen b h = rw (gone false x l8 b h, men_image_legal true x l8 b h) refl
  legal_image Rook b h = rw (gone false x l8 b h, men_image_legal false x l8 b h) refl
  legal_image Bishop b h = rw (placed_image b h, row_image x b.piece i h.piece) refl
  legal_image Knight b h = rw (placed_image b h, row_image x b.piece i h.piece) refl
  legal_image Pawn b h = rw (placed_image b h, row_image x b.piece i h.piece, attack_image x b.piece b.foe i h.piece h.foe) refl

  checks_image : (k : WhiteMan) (b : Men) → HasSquares b → checks k (men_image x b) ≡ checks k b
  unfolding checks
  checks_image Taken b h = refl
  checks_image Bishop b h = refl
  checks_image Knight b h = refl
  checks_image Queen b h = check_image true x l8 b h
  checks_image Rook b h = check_image false x l8 b h
  checks_image Pawn b h = attack_image x b.piece b.foe i h.piece h.foe

  can_image : (k : WhiteMan) (b : Men) (h : HasSquares b) (m : ℕ) → can_move_with k (men_image x b) (turned false x l8 b h m) ≡ can_move_with k b m
  unfolding can_move_with
  can_image Taken b h m = refl
  can_image Bishop b h m = refl
  can_image Knight b h m = refl
  can_image Queen b h m = men_image_can true x l8 b h m
  can_image Rook b h m = men_image_can false x l8 b h m
  can_image Pawn b h m = pawn_image_can x i b h m

  stuck_image : (b : PawnBoard) → HasSquares b.men → end_if_no_move (image x b) ≡ end_if_no_move b
  unfolding end_if_no_move
  stuck_image b h = ap (λ (c : Bool). if not b.men.white_moves && c then Lose else Tie) (checks_image b.kind b.men h)

  module _ (b : PawnBoard) (h : HasSquares b.men) (m : ℕ) where
    abbrev n : ℕ
    n = turned false x l8 b.men h m

    left_image : left_of b.kind (men_moved (men_image x b.men) n) ≡ left_of b.kind (men_moved b.men m)
    left_image =
        ap (left_of b.kind) (men_image_moved false x l8 b.men h m)
        ∙ ap (λ (t : Bool). if t then Taken else b.kind) (gone false x l8 (men_moved b.men m) (moved_squares b.men h m))

    moved_image : moved (image x b) n ≡ image x (moved b m)
    unfolding moved
    moved_image = elim (cases_Bool (leb 3 (man m))) [
      | inl e ↦ rw (man_is false x l8 b.men h m, to_is false x l8 b.men h m, e) refl
      | inr e ↦ rw (man_is false x l8 b.men h m, e) (same_boards _ _ left_image (men_image_moved false x l8 b.men h m))
    ]

    pub number_fits : (t : ℕ) → m < move_number_bound t → n < move_number_bound t
    unfolding move_number_bound
    number_fits t l = elim (cases_Bool (eqb t 5)) [
      | inl e ↦ rw e (let k : m < 28672 = subst (λ (z : Bool). m < (if z then 28672 else 12288)) e l in
          number_most (man m) _ _ (image_below x (from_square m) l8 (from_below m)) (image_below x (to_square m) l8 (to_below m)) (man_most m k))
      | inr e ↦ rw e (image_number false x l8 b.men h m (subst (λ (z : Bool). m < (if z then 28672 else 12288)) e l))
    ]

-- ---- the group
abbrev product_of : ℕ → ℕ → ℕ
product_of x y = if eqb x y then 0 else 2

abbrev is_product : ℕ → ℕ → ℕ → Bool
is_product x y s = eqb (image_square x (image_square y s)) (image_square (product_of x y) s)

product_table : list_all (λ x. list_all (λ y. list_all (is_product x y) (range_with_len 0 65)) symmetries) symmetries ≡ true
unfolding image_square
product_table = refl

product : (x y : ℕ) → Contains symmetries x → Contains symmetries y → (s : ℕ) → s ≤ 64 → image_square x (image_square y s) ≡ image_square (product_of x y) s
product x y c d s l =
    let t = all_at (λ x. list_all (λ y. list_all (is_product x y) (range_with_len 0 65)) symmetries) symmetries x product_table c in
    eqb-true _ _ (at_below 65 (is_product x y) (all_at (λ y. list_all (is_product x y) (range_with_len 0 65)) symmetries y t d) s (omega (arith, l)))

product_in : (x y : ℕ) → Contains symmetries (product_of x y)
product_in x y = cond_both (eqb x y) 0 2 (Contains symmetries) (λ e. zero_in) (λ e. two_in)

twice : (x : ℕ) → Contains symmetries x → (s : ℕ) → s ≤ 64 → image_square x (image_square x s) ≡ s
twice x c s l =
    product x x c c s l ∙ ap (λ (k : ℕ). image_square k s) (if_true (eqb x x) 0 2 (eq-eqb x x refl)) ∙ image_identity s l

-- images of a board are equal where those of squares are
on_board : (b : PawnBoard) → legal b ≡ true → (f g : ℕ → ℕ) → ((s : ℕ) → s ≤ 64 → f s ≡ g s) → moved_by f b.men ≡ moved_by g b.men
on_board b l f g e = on_squares b.men (squares_with b.kind b.men l) f g e

pub symmetric : IsMoveSymmetric kpk
symmetric = record {
  group = record {
    identity = (0, zero_in, λ b l. same_boards (image 0 b) b refl (on_board b l (image_square 0) (λ s. s) image_identity));
    closed = λ x y c d. (
      product_of x y,
      product_in x y,
      λ b l. same_boards (image x (image y b)) (image (product_of x y) b) refl
          (on_board b l (λ s. image_square x (image_square y s)) (image_square (product_of x y)) (product x y c d)),
    );
    inverse = λ x c. (x, c, λ b l. same_boards (image x (image x b)) b refl (on_board b l (λ s. image_square x (image_square x s)) (λ s. s) (twice x c)));
  };
  keeps_legal = λ x b c l. legal_image x c b.kind b.men (squares_with b.kind b.men l) ∙ l;
  keeps_over = λ x b c l. refl;
  keeps_stuck = λ x b c l. stuck_image x c b (squares_with b.kind b.men l);
  keeps_tier = λ x b c l. refl;
  keeps_move = λ x b m c l k.
      let h = squares_with b.kind b.men l in (
        n x c b h m,
        record { below = number_fits x c b h m (tier b) k.below; not_over = k.not_over; can = can_image x c b.kind b.men h m ∙ k.can },
        moved_image x c b h m,
      );
}

-- ---- the least index is that of the board or of its one other image
pub least_of_two : (b : PawnBoard) → legal b ≡ true → min (men_index b.men) (men_index (men_image 2 b.men)) ≡ least_index (board_game kpk) b
least_of_two b l =
    let same = ap men_index (on_board b l (image_square 0) (λ s. s) image_identity) in
    let e : men_index b.men ≡ min (men_index b.men) (men_index (men_image 0 b.men)) = omega (arith, same) in
    ap (λ (k : ℕ). min k (men_index (men_image 2 b.men))) e
