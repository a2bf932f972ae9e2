-- A move keeps boards of king and pawn against king legal.
use Rattle.std.specs.Prelude.{◌≡◌, ◌≢◌, ◌+◌, ◌-◌, ◌/◌, ◌<◌, ◌≤◌, ◌&&◌, ◌||◌}
use Rattle.gm_pieces.specs.Common.{ℕ, Bool, true, false, not, eqb, eqb-true, leb, le-leb, ltb, ltb-true, lt-ltb, nat_tests, refl, sym, ap, ◌∙◌, arith, inl, inr, cases_Bool, true≢false, and_left, and_right, and_both, or_cases, not-true}
use Rattle.gm_squares.specs.declared.men.Men.{Men}
use Rattle.gm_squares.specs.declared.pawns.WhiteMan.{WhiteMan}
use Rattle.gm_squares.specs.declared.pawns.WhiteMan.TheVariants.{Taken, Queen, Rook, Bishop, Knight, Pawn}
use Rattle.gm_squares.specs.Chess.{king_attacks, legal as men_legal, man, to_square, king_gone, piece_gone, foe_gone, moved as men_moved}
use Rattle.gm_squares.specs.Kpk.{black_to_move, are_placed, legal_with, is_free, tier_with, promoted, left_of}
use Rattle.gm_squares.specs.laws.AttackFacts.{king_mutual}
use Rattle.gm_squares.specs.laws.MenFacts.{if_true, if_false, differ, apart_by, legal_in, legal_from, IsMoveOf, king_rest, king_legal, piece_legal, to_below, moved_legal as men_moved_legal}
use Rattle.gm_squares.specs.laws.PawnFacts.{IsPromotion, IsMoveWithPawn, pawn_rest, taker_rest, black_legal, on_board, tier_back}

-- ---- legal after a move
-- without a check to look at, White's man does not matter
pub no_piece : (p q : Bool) (b : Men) → eqb b.piece 64 ≡ true → men_legal p b ≡ true → men_legal q b ≡ true
no_piece p q b e l =
    let h = legal_in p b l in
    legal_from q b (record { king = h.king; foe = h.foe; kings = h.kings; apart = h.apart; bare = h.bare; armed = λ f. absurd (true≢false (sym e ∙ f)) })

-- the queen or rook stays, or it has been taken
pub still_with : (k : WhiteMan) (q : Bool) (b : Men) → men_legal q b ≡ true → (eqb b.piece 64 ≡ false → legal_with k b ≡ true) → legal_with (left_of k b) b ≡ true
unfolding legal_with
still_with k q b l f = elim (cases_Bool (eqb b.piece 64)) [
  | inl e ↦ (
      let is : left_of k b ≡ Taken = if_true (eqb b.piece 64) Taken k e in
      ap (λ (j : WhiteMan). legal_with j b) is ∙ and_both _ _ e (no_piece q false b e l))
  | inr e ↦ (
      let is : left_of k b ≡ k = if_false (eqb b.piece 64) Taken k e in
      ap (λ (j : WhiteMan). legal_with j b) is ∙ f e)
]

piece_moved_legal : (k : WhiteMan) (q : Bool) (b : Men) (m : ℕ) → men_legal q b ≡ true → eqb b.piece 64 ≡ false → IsMoveOf q b m
    → ((c : Men) → men_legal q c ≡ true → eqb c.piece 64 ≡ false → legal_with k c ≡ true) → legal_with (left_of k (men_moved b m)) (men_moved b m) ≡ true
piece_moved_legal k q b m l n v f =
    let j = men_moved_legal q b m (legal_in q b l) n v in
    still_with k q (men_moved b m) j (f (men_moved b m) j)

-- ---- after a move beside a pawn
rows_of : (b : Men) → legal_with Pawn b ≡ true → (0 < b.piece / 8) × (b.piece / 8 < 7)
unfolding legal_with
rows_of b l =
    let r = and_right (are_placed b) _ l in
    (ltb-true _ _ (and_left _ _ r), ltb-true _ _ (and_left _ _ (and_right (ltb 0 (b.piece / 8)) _ r)))

pawn_placed : (b : Men) → legal_with Pawn b ≡ true → are_placed b ≡ true
unfolding legal_with
pawn_placed b l = and_left _ _ l

black_pawn : (b : Men) → b.white_moves ≡ false → are_placed b ≡ true → 0 < b.piece / 8 → b.piece / 8 < 7 → legal_with Pawn b ≡ true
unfolding legal_with
black_pawn b w l low high = and_both _ _ l (and_both _ _ (lt-ltb _ _ low) (and_both _ _ (lt-ltb _ _ high) (rw w refl)))

-- of the king
pawn_king_legal : (b : Men) (c : ℕ) → legal_with Pawn b ≡ true → c < 64 → king_rest b c b.king ≡ true → legal_with Pawn (king_gone b c) ≡ true
pawn_king_legal b c l h k =
    let p = pawn_placed b l in
    let r = rows_of b l in
    black_pawn (king_gone b c) refl
    (legal_from false (king_gone b c) (king_legal false (black_to_move b) c (black_legal b p) (on_board b p) h k)) r.0 r.1

-- of the pawn
gone_legal : (b : Men) (c : ℕ) → are_placed b ≡ true → c < 64 → is_free b c ≡ true → are_placed (piece_gone b c) ≡ true
gone_legal b c p h f = legal_from false (piece_gone b c) (piece_legal false (black_to_move b) c (black_legal b p) h f)

not_six : (k : ℕ) → k < 7 → eqb k 6 ≡ false → k < 6
not_six k l n = grind (arith, nat_tests, l, n)

pawn_goal : (a c : ℕ) (x : Bool) → 0 < a / 8 → a / 8 < 7 → eqb (a / 8) 6 ≡ false → (eqb c (a + 8) || (eqb (a / 8) 1 && (eqb c (a + 16) && x))) ≡ true
    → (0 < c / 8) × (c / 8 < 7)
pawn_goal a c x low high n e = elim (or_cases (eqb c (a + 8)) (eqb (a / 8) 1 && (eqb c (a + 16) && x)) e) [
  | inl f ↦ (let i = eqb-true c (a + 8) f in let s = not_six (a / 8) high n in (omega (arith, i, low), omega (arith, i, s)))
  | inr f ↦ (
      let r = eqb-true (a / 8) 1 (and_left (eqb (a / 8) 1) (eqb c (a + 16) && x) f) in
      let i = eqb-true c (a + 16) (and_left (eqb c (a + 16)) x (and_right (eqb (a / 8) 1) (eqb c (a + 16) && x) f)) in
      (omega (arith, i, r), omega (arith, i, r)))
]

pawn_step_legal : (b : Men) (c : ℕ) → legal_with Pawn b ≡ true → c < 64 → pawn_rest b c b.piece ≡ true → legal_with Pawn (piece_gone b c) ≡ true
pawn_step_legal b c l h k =
    let r = rows_of b l in
    let k1 = and_right (not (eqb (b.piece / 8) 6)) _ k in
    let g = pawn_goal b.piece c (is_free b (b.piece + 8)) r.0 r.1 (not-true _ (and_left _ _ k)) (and_right (is_free b c) _ k1) in
    black_pawn (piece_gone b c) refl (gone_legal b c (pawn_placed b l) h (and_left _ _ k1)) g.0 g.1

-- of the black king, which may take the pawn
abbrev taker_apart : Men → ℕ → Type 0
taker_apart b c = (not (eqb b.king c) ≡ true) × (not (king_attacks b.king c) ≡ true)

kings_apart : (b : Men) (c : ℕ) → are_placed b ≡ true → taker_rest b c b.foe ≡ true → taker_apart b c
kings_apart b c p k =
    let h = black_legal b p in
    let r = and_right (king_attacks b.foe c) _ k in
    ((differ c b.king (apart_by b.foe c b.king (and_left _ _ k) (ap not (king_mutual b.foe b.king h.foe h.king) ∙ h.apart))).0, and_left _ _ r)

taken_legal : (b : Men) (c : ℕ) → are_placed b ≡ true → c < 64 → taker_rest b c b.foe ≡ true
    → men_legal false (record { white_moves = true; king = b.king; piece = 64; foe = c }) ≡ true
taken_legal b c p h k =
    let a = kings_apart b c p k in
    legal_from false (record { white_moves = true; king = b.king; piece = 64; foe = c })
    (record { king = (black_legal b p).king; foe = h; kings = a.0; apart = a.1; bare = λ e. refl; armed = λ e. absurd (true≢false e) })

stays_legal : (b : Men) (c : ℕ) → legal_with Pawn b ≡ true → c < 64 → taker_rest b c b.foe ≡ true → eqb c b.piece ≡ false
    → legal_with Pawn (record { white_moves = true; king = b.king; piece = b.piece; foe = c }) ≡ true
unfolding legal_with
stays_legal b c l h k n =
    let p = pawn_placed b l in
    let q = (black_legal b p).armed (on_board b p) in
    let a = kings_apart b c p k in
    let r = rows_of b l in
    let e : Men = record { white_moves = true; king = b.king; piece = b.piece; foe = c } in
    and_both _ _
    (legal_from false (black_to_move e)
    (record {
      king = (black_legal b p).king;
      foe = h;
      kings = a.0;
      apart = a.1;
      bare = λ i. absurd (true≢false (sym i ∙ on_board b p));
      armed = λ i. record { below = q.below; king = q.king; foe = (differ c b.piece (ap not n)).0; check = refl };
    }))
    (and_both _ _ (lt-ltb _ _ r.0) (and_both _ _ (lt-ltb _ _ r.1) (and_right (not (king_attacks b.king c)) _ (and_right (king_attacks b.foe c) _ k))))

taker_legal : (b : Men) (c : ℕ) → legal_with Pawn b ≡ true → c < 64 → taker_rest b c b.foe ≡ true → legal_with (left_of Pawn (foe_gone b c)) (foe_gone b c) ≡ true
unfolding legal_with
taker_legal b c l h k = elim (cases_Bool (eqb c b.piece)) [
  | inl e ↦ rw e (taken_legal b c (pawn_placed b l) h k)
  | inr e ↦ rw (e, on_board b (pawn_placed b l)) (stays_legal b c l h k e)
]

-- a pawn that becomes another man
promoted_with : (k : WhiteMan) (b : Men) → eqb (tier_with k) 0 ≡ false → eqb (tier_with k) 5 ≡ false → b.white_moves ≡ false → b.piece / 8 ≡ 7 → are_placed b ≡ true
    → men_legal true b ≡ true → men_legal false b ≡ true → legal_with k b ≡ true
unfolding legal_with tier_with
promoted_with Taken b n o w r p q l = absurd (true≢false n)
promoted_with Pawn b n o w r p q l = absurd (true≢false o)
promoted_with Queen b n o w r p q l = and_both _ _ (ap not (on_board b p)) q
promoted_with Rook b n o w r p q l = and_both _ _ (ap not (on_board b p)) l
promoted_with Bishop b n o w r p q l = and_both _ _ p (rw (w, r) refl)
promoted_with Knight b n o w r p q l = and_both _ _ p (rw (w, r) refl)

-- what a pawn becomes is neither nothing nor a pawn
pub promoted_tier : (k : ℕ) → 3 ≤ k → k ≤ 6 → tier_with (promoted k) ≡ k - 2
promoted_tier k l h = tier_back (k - 2) (omega (arith, h))

not_these : (t n : ℕ) → t ≢ n → eqb t n ≡ false
not_these t n h = grind (arith, nat_tests)

any_piece : (q : Bool) (b : Men) → are_placed b ≡ true → men_legal q (black_to_move b) ≡ true
unfolding men_legal
any_piece q b l = l

pub promotion_legal : (b : Men) (m : ℕ) → legal_with Pawn b ≡ true → man m ≤ 6 → IsPromotion b m → legal_with (promoted (man m)) (piece_gone b (to_square m)) ≡ true
promotion_legal b m l few k =
    let c = to_square m in
    let p = pawn_placed b l in
    let tier = promoted_tier (man m) k.becomes few in
    let low = k.becomes in
    let row = k.row in
    let to = k.to in
    promoted_with (promoted (man m)) (piece_gone b c) (not_these _ 0 (λ z. omega (arith, z, tier, low))) (not_these _ 5 (λ z. omega (arith, z, tier, few))) refl
    (omega (arith, row, to)) (gone_legal b c p (to_below m) k.free)
    (legal_from true (piece_gone b c) (piece_legal true (black_to_move b) c (legal_in true (black_to_move b) (any_piece true b p)) (to_below m) k.free))
    (gone_legal b c p (to_below m) k.free)

-- ---- after each move
queen_with : (b : Men) → legal_with Queen b ≡ true → (eqb b.piece 64 ≡ false) × (men_legal true b ≡ true)
unfolding legal_with
queen_with b l = (not-true _ (and_left _ _ l), and_right (not (eqb b.piece 64)) _ l)

rook_with : (b : Men) → legal_with Rook b ≡ true → (eqb b.piece 64 ≡ false) × (men_legal false b ≡ true)
unfolding legal_with
rook_with b l = (not-true _ (and_left _ _ l), and_right (not (eqb b.piece 64)) _ l)

with_queen : (b : Men) → men_legal true b ≡ true → eqb b.piece 64 ≡ false → legal_with Queen b ≡ true
unfolding legal_with
with_queen b l e = and_both _ _ (ap not e) l

with_rook : (b : Men) → men_legal false b ≡ true → eqb b.piece 64 ≡ false → legal_with Rook b ≡ true
unfolding legal_with
with_rook b l e = and_both _ _ (ap not e) l

pub queen_moved : (b : Men) (m : ℕ) → legal_with Queen b ≡ true → IsMoveOf true b m → legal_with (left_of Queen (men_moved b m)) (men_moved b m) ≡ true
queen_moved b m l v = let h = queen_with b l in piece_moved_legal Queen true b m h.1 h.0 v with_queen

pub rook_moved : (b : Men) (m : ℕ) → legal_with Rook b ≡ true → IsMoveOf false b m → legal_with (left_of Rook (men_moved b m)) (men_moved b m) ≡ true
rook_moved b m l v = let h = rook_with b l in piece_moved_legal Rook false b m h.1 h.0 v with_rook

-- a pawn that is on the board stays one
still_pawn : (b : Men) → legal_with Pawn b ≡ true → legal_with (left_of Pawn b) b ≡ true
still_pawn b l = ap (λ (k : WhiteMan). legal_with k b) (if_false (eqb b.piece 64) Taken Pawn (on_board b (pawn_placed b l))) ∙ l

pub pawn_moved : (b : Men) (m : ℕ) → legal_with Pawn b ≡ true → leb 3 (man m) ≡ false → IsMoveWithPawn b m
    → legal_with (left_of Pawn (men_moved b m)) (men_moved b m) ≡ true
unfolding men_moved
pawn_moved b m l n v =
    let c = to_square m in
    elim v [
      | inl k ↦ rw k.is (still_pawn (king_gone b c) (pawn_king_legal b c l (to_below m) k.can))
      | inr u ↦ elim u [
        | inl k ↦ rw k.is (still_pawn (piece_gone b c) (pawn_step_legal b c l (to_below m) k.can))
        | inr w ↦ elim w [
          | inl k ↦ rw k.is (taker_legal b c l (to_below m) k.can)
          | inr k ↦ absurd (true≢false (sym (le-leb _ _ k.becomes) ∙ n))
        ]
      ]
    ]
