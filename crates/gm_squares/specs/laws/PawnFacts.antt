-- Legal boards of king and pawn against king, and their moves, part by part.
use Rattle.std.specs.Prelude.{◌≡◌, ◌+◌, ◌/◌, ◌%◌, ◌<◌, ◌≤◌, ◌&&◌, ◌||◌, ◌⊎◌}
use Rattle.gm_pieces.specs.Common.{ℕ, zero, suc, Bool, true, false, not, eqb, eqb-true, leb, leb-true, refl, sym, ap, ap₂, ◌∙◌, arith, inl, inr, cases_Bool, true≢false, and_left, and_right, or_cases, not-true, at_all, at_each, agree, agree_same}
use Rattle.gm_squares.specs.declared.men.Men.{Men}
use Rattle.gm_squares.specs.declared.pawns.WhiteMan.{WhiteMan}
use Rattle.gm_squares.specs.declared.pawns.WhiteMan.TheVariants.{Taken, Queen, Rook, Bishop, Knight, Pawn}
use Rattle.gm_squares.specs.declared.pawns.PawnBoard.{PawnBoard}
use Rattle.gm_squares.specs.Squares.{goes_on_board, beside}
use Rattle.gm_squares.specs.Chess.{ray, reaches, king_attacks, king_can, legal as men_legal, man, from_square, to_square}
use Rattle.gm_squares.specs.Kpk.{pawn_attacks, black_to_move, are_placed, legal_with, legal, is_free, pawn_can, pawn_promotes, foe_can_beside_pawn, can_move_with_pawn, can_move_with, tier_with, man_at_tier, tier}
use Rattle.gm_squares.specs.laws.MenFacts.{if_true, if_false, IsLegal, legal_in, IsManMove, IsMoveOf, man_in, king_rest, move_in, apart_foe}

-- ---- the pawn's attacks
abbrev pub is_pawn_near : ℕ → ℕ → Bool
is_pawn_near a c = eqb (c / 8) (a / 8 + 1) && (eqb (c % 8 + 1) (a % 8) || eqb (c % 8) (a % 8 + 1))

pawn_table : at_all 64 64 (λ a c. agree (is_pawn_near a c) (pawn_attacks a c)) ≡ true
unfolding pawn_attacks goes_on_board beside ray reaches
pawn_table = refl

pub pawn_test : (a c : ℕ) → a < 64 → c < 64 → is_pawn_near a c ≡ pawn_attacks a c
pawn_test a c l h = agree_same _ _ (at_each 64 64 (λ a c. agree (is_pawn_near a c) (pawn_attacks a c)) pawn_table a c l h)

-- ---- legal boards
pub record IsPlaced (b : Men) : Type 0 where
  pub king : b.king < 64
  pub foe : b.foe < 64
  pub most : b.piece ≤ 64
  pub kings : not (eqb b.king b.foe) ≡ true
  pub apart : not (eqb b.piece b.foe) ≡ true
  pub off : eqb b.piece 64 ≡ false → not (eqb b.piece b.king) ≡ true

men_placed : (q : Bool) (b : Men) → men_legal q b ≡ true → IsPlaced b
men_placed q b l =
    let h = legal_in q b l in
    record {
      king = h.king;
      foe = h.foe;
      most = elim (cases_Bool (eqb b.piece 64)) [
        | inl e ↦ (let i = eqb-true _ _ e in omega (arith, i))
        | inr e ↦ (let a = (h.armed e).below in omega (arith, a))
      ];
      kings = h.kings;
      apart = apart_foe q b h;
      off = λ e. (h.armed e).king;
    }

-- three men on the board
pub black_legal : (b : Men) → are_placed b ≡ true → IsLegal false (black_to_move b)
black_legal b l = legal_in false (black_to_move b) l

pub on_board : (b : Men) → are_placed b ≡ true → eqb b.piece 64 ≡ false
on_board b l = elim (cases_Bool (eqb b.piece 64)) [
  | inl e ↦ absurd (true≢false (sym ((black_legal b l).bare e)))
  | inr e ↦ e
]

pub placed_piece : (b : Men) → are_placed b ≡ true → b.piece < 64
placed_piece b l = ((black_legal b l).armed (on_board b l)).below

pub placed_foe : (b : Men) → are_placed b ≡ true → b.foe < 64
placed_foe b l = (black_legal b l).foe

black_placed : (b : Men) → are_placed b ≡ true → IsPlaced b
black_placed b l = let h = men_placed false (black_to_move b) l in record { king = h.king; foe = h.foe; most = h.most; kings = h.kings; apart = h.apart; off = h.off }

pub placed_with : (k : WhiteMan) (b : Men) → legal_with k b ≡ true → IsPlaced b
unfolding legal_with
placed_with Taken b l = men_placed false b (and_right (eqb b.piece 64) _ l)
placed_with Queen b l = men_placed true b (and_right (not (eqb b.piece 64)) _ l)
placed_with Rook b l = men_placed false b (and_right (not (eqb b.piece 64)) _ l)
placed_with Bishop b l = black_placed b (and_left _ _ l)
placed_with Knight b l = black_placed b (and_left _ _ l)
placed_with Pawn b l = black_placed b (and_left _ _ l)

-- White's man is off the board if and only if it has been taken
pub off_with : (k : WhiteMan) (b : Men) → legal_with k b ≡ true → eqb b.piece 64 ≡ eqb (tier_with k) 0
unfolding legal_with tier_with
off_with Taken b l = and_left _ _ l
off_with Queen b l = not-true _ (and_left _ _ l)
off_with Rook b l = not-true _ (and_left _ _ l)
off_with Bishop b l = on_board b (and_left _ _ l)
off_with Knight b l = on_board b (and_left _ _ l)
off_with Pawn b l = on_board b (and_left _ _ l)

pub king_below : (b : PawnBoard) → legal b ≡ true → b.men.king < 64
king_below b l = (placed_with b.kind b.men l).king

pub foe_below : (b : PawnBoard) → legal b ≡ true → b.men.foe < 64
foe_below b l = (placed_with b.kind b.men l).foe

pub piece_most : (b : PawnBoard) → legal b ≡ true → b.men.piece ≤ 64
piece_most b l = (placed_with b.kind b.men l).most

below_with : (k : WhiteMan) (b : Men) → legal_with k b ≡ true → k ≡ Pawn → b.piece < 64
unfolding legal_with
below_with k b l e = placed_piece b (and_left _ _ (ap (λ (k : WhiteMan). legal_with k b) (sym e) ∙ l))

pub pawn_below : (b : PawnBoard) → legal b ≡ true → b.kind ≡ Pawn → b.men.piece < 64
pawn_below b l e = below_with b.kind b.men l e

-- ---- tiers
pub man_back : (k : WhiteMan) → man_at_tier (tier_with k) ≡ k
unfolding man_at_tier tier_with
man_back Taken = refl
man_back Queen = refl
man_back Rook = refl
man_back Bishop = refl
man_back Knight = refl
man_back Pawn = refl

pub same_kind : (j k : WhiteMan) → tier_with j ≡ tier_with k → j ≡ k
same_kind j k e = sym (man_back j) ∙ ap man_at_tier e ∙ man_back k

pub tier_small : (k : WhiteMan) → tier_with k < 6
unfolding tier_with
tier_small Taken = omega arith
tier_small Queen = omega arith
tier_small Rook = omega arith
tier_small Bishop = omega arith
tier_small Knight = omega arith
tier_small Pawn = omega arith

pub tier_back : (t : ℕ) → t < 6 → tier_with (man_at_tier t) ≡ t
unfolding man_at_tier tier_with
tier_back zero l = refl
tier_back (suc zero) l = refl
tier_back (suc (suc zero)) l = refl
tier_back (suc (suc (suc zero))) l = refl
tier_back (suc (suc (suc (suc zero)))) l = refl
tier_back (suc (suc (suc (suc (suc zero))))) l = refl
tier_back (suc (suc (suc (suc (suc (suc t)))))) l = absurd (omega (arith, l))

-- where the man has been taken, White is to move
white_if : (k : WhiteMan) (b : Men) → legal_with k b ≡ true → tier_with k ≡ 0 → b.white_moves ≡ true
unfolding legal_with tier_with
white_if k b l e =
    let t : legal_with Taken b ≡ true = ap (λ (k : WhiteMan). legal_with k b) (same_kind Taken k (taken_tier ∙ sym e)) ∙ l in
    (legal_in false b (and_right (eqb b.piece 64) _ t)).bare (and_left _ _ t)
  where
    taken_tier : tier_with Taken ≡ 0
    taken_tier = refl

pub white_with : (b : PawnBoard) → legal b ≡ true → tier b ≡ 0 → b.men.white_moves ≡ true
white_with b l e = white_if b.kind b.men l e

-- boards with the same man and men are equal
pub same_boards : (x y : PawnBoard) → x.kind ≡ y.kind → x.men ≡ y.men → x ≡ y
same_boards x y e f = ap₂ (λ (k : WhiteMan) (b : Men). let z : PawnBoard = record { kind = k; men = b } in z) e f

-- ---- moves
-- a move of a man from its square, but a pawn that becomes another
abbrev pub IsGoing : Men → ℕ → Type 0
IsGoing b m =
    IsManMove b m 0 true b.king (λ s. true) ⊎ (IsManMove b m 1 true b.piece (λ s. true) ⊎ IsManMove b m 2 false b.foe (λ s. true))

pub record IsPromotion (b : Men) (m : ℕ) : Type 0 where
  pub side : b.white_moves ≡ true
  pub becomes : 3 ≤ man m
  pub from : from_square m ≡ b.piece
  pub row : b.piece / 8 ≡ 6
  pub to : to_square m ≡ b.piece + 8
  pub free : is_free b (to_square m) ≡ true

abbrev pub pawn_rest : Men → ℕ → ℕ → Bool
pawn_rest b c a = not (eqb (a / 8) 6) && (is_free b c && (eqb c (a + 8) || (eqb (a / 8) 1 && (eqb c (a + 16) && is_free b (a + 8)))))

abbrev pub taker_rest : Men → ℕ → ℕ → Bool
taker_rest b c a = king_attacks a c && (not (king_attacks b.king c) && not (pawn_attacks b.piece c))

abbrev pub IsMoveWithPawn : Men → ℕ → Type 0
IsMoveWithPawn b m =
    IsManMove b m 0 true b.king (king_rest b (to_square m))
    ⊎ (IsManMove b m 1 true b.piece (pawn_rest b (to_square m)) ⊎ (IsManMove b m 2 false b.foe (taker_rest b (to_square m)) ⊎ IsPromotion b m))

promotion_in : (b : Men) (m : ℕ) → b.white_moves ≡ true → (leb 3 (man m) && pawn_promotes b (from_square m) (to_square m)) ≡ true → IsPromotion b m
unfolding pawn_promotes
promotion_in b m w e =
    let f = and_right (leb 3 (man m)) _ e in
    let from = eqb-true _ _ (and_left _ _ f) in
    let g = and_right (eqb (from_square m) b.piece) _ f in
    let row = eqb-true _ _ (and_left _ _ g) in
    let h = and_right (eqb (from_square m / 8) 6) _ g in
    let to = eqb-true _ _ (and_left _ _ h) in
    record {
      side = w;
      becomes = leb-true _ _ (and_left _ _ e);
      from = from;
      row = ap (λ (s : ℕ). s / 8) (sym from) ∙ row;
      to = to ∙ ap (λ (s : ℕ). s + 8) from;
      free = and_right (eqb (to_square m) (from_square m + 8)) _ h;
    }

pub pawn_move_in : (b : Men) (m : ℕ) → can_move_with_pawn b m ≡ true → IsMoveWithPawn b m
unfolding can_move_with_pawn king_can pawn_can foe_can_beside_pawn
pawn_move_in b m e =
    let c = to_square m in
    elim (cases_Bool b.white_moves) [
      | inl w ↦ elim (or_cases _ _ (sym (if_true b.white_moves _ _ w) ∙ e)) [
        | inl k ↦ inl (man_in b m 0 true b.king (king_rest b c) w k)
        | inr f ↦ elim (or_cases _ _ f) [
          | inl k ↦ inr (inl (man_in b m 1 true b.piece (pawn_rest b c) w k))
          | inr k ↦ inr (inr (inr (promotion_in b m w k)))
        ]
      ]
      | inr w ↦ inr (inr (inl (man_in b m 2 false b.foe (taker_rest b c) w (sym (if_false b.white_moves _ _ w) ∙ e))))
    ]

goes : (b : Men) (m k : ℕ) (w : Bool) (s : ℕ) (rest : ℕ → Bool) → IsManMove b m k w s rest → IsManMove b m k w s (λ s. true)
goes b m k w s rest h = record { side = h.side; is = h.is; from = h.from; can = refl }

men_go : (q : Bool) (b : Men) (m : ℕ) → IsMoveOf q b m → IsGoing b m
men_go q b m v = elim v [
  | inl k ↦ inl (goes b m 0 true b.king _ k)
  | inr u ↦ elim u [ inl k ↦ inr (inl (goes b m 1 true b.piece _ k)) | inr k ↦ inr (inr (goes b m 2 false b.foe _ k)) ]
]

pub move_with : (k : WhiteMan) (b : Men) (m : ℕ) → can_move_with k b m ≡ true → IsGoing b m ⊎ ((k ≡ Pawn) × IsPromotion b m)
unfolding can_move_with
move_with Taken b m e = absurd (true≢false (sym e))
move_with Bishop b m e = absurd (true≢false (sym e))
move_with Knight b m e = absurd (true≢false (sym e))
move_with Queen b m e = inl (men_go true b m (move_in true b m e))
move_with Rook b m e = inl (men_go false b m (move_in false b m e))
move_with Pawn b m e = elim (pawn_move_in b m e) [
  | inl k ↦ inl (inl (goes b m 0 true b.king _ k))
  | inr u ↦ elim u [
    | inl k ↦ inl (inr (inl (goes b m 1 true b.piece _ k)))
    | inr v ↦ elim v [
      | inl k ↦ inl (inr (inr (goes b m 2 false b.foe _ k)))
      | inr k ↦ inr (refl, k)
    ]
  ]
]

-- the number of such a move has one of the first three men
pub going_man : (b : Men) (m : ℕ) → IsGoing b m → leb 3 (man m) ≡ false
going_man b m v = elim v [
  | inl k ↦ ap (leb 3) k.is
  | inr u ↦ elim u [ inl k ↦ ap (leb 3) k.is | inr k ↦ ap (leb 3) k.is ]
]
