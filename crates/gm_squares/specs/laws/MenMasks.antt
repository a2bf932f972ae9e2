-- Masks of the squares to which men can go, and of those from which they can have come.
use Rattle.std.specs.Prelude.{◌≡◌, ◌+◌, ◌-◌, ◌*◌, ◌^◌, ◌<◌, ◌≤◌, ◌&&◌, ◌||◌, if◌then◌else◌}
use Rattle.gm_pieces.specs.Common.{ℕ, Bool, true, false, not, eqb, eq-eqb, ltb, lt-ltb, refl, sym, ap, ap₂, ◌∙◌, subst, arith, nat_tests, bit_and, bit_or, has_cell, has_or, cases_Bool, inl, inr, bit_at-zero, not-true, and_false, and_true, and_le_l}
use Rattle.gm_board.specs.laws.NextCells.{cell_none}
use Rattle.gm_pieces.specs.MoveGames.{is_undecided}
use Rattle.gm_pieces.specs.inner.Marking.{leads_here}
use Rattle.gm_squares.specs.declared.men.Men.{Men}
use Rattle.gm_squares.specs.Chess.{king_attacks, piece_attacks, in_check, legal, man, from_square, to_square, king_can, piece_can, foe_can, can_move, ending, can_have_led_here, undo, king_back, piece_back, foe_back, tier, end_by_last_move}
use Rattle.gm_squares.specs.laws.AttackFacts.{king_mutual, none_from}
use Rattle.gm_squares.specs.laws.LineFacts.{has_less}
use Rattle.gm_squares.specs.laws.MenFacts.{if_true, if_false, IsLegal, legal_in, piece_below}
use Rattle.gm_squares.specs.laws.ReachFacts.{piece_mutual}

-- ---- tests of masks
off_board : (p : ℕ) → 64 ≤ p → ltb p 64 ≡ false
off_board p l = grind (arith, nat_tests)

pub none_at : (k : ℕ) → has_cell 0 k ≡ false
none_at k = cell_none 0 k (bit_at-zero k)

less_twice : (a b c k : ℕ) → b < 2 ^ 64 → c < 2 ^ 64 → k < 64
    → has_cell (bit_and (bit_and a (18446744073709551615 - b)) (18446744073709551615 - c)) k ≡ ((has_cell a k && not (has_cell b k)) && not (has_cell c k))
less_twice a b c k l h j = has_less (bit_and a (18446744073709551615 - b)) c k h j ∙ ap (λ (t : Bool). t && not (has_cell c k)) (has_less a b k l j)

-- ---- moves
pub taken_reach : (q : Bool) (b : Men) (k : ℕ) → 64 ≤ b.piece → has_cell 0 k ≡ piece_attacks q b.piece k b.king b.king
taken_reach q b k l = none_at k ∙ sym (none_from q b.piece k b.king b.king (off_board b.piece l))

turn_and : (x y z : Bool) → ((x && not y) && not z) ≡ (x && (not z && not y))
turn_and true true true = refl
turn_and true true false = refl
turn_and true false true = refl
turn_and true false false = refl
turn_and false y z = refl

pub king_goes : (b : Men) (a c p k : ℕ) → b.foe < 64 → k < 64 → c < 2 ^ 64 → p < 2 ^ 64 → has_cell a k ≡ king_attacks b.king k
    → has_cell c k ≡ king_attacks b.foe k → has_cell p k ≡ eqb k b.piece
    → has_cell (bit_and (bit_and a (18446744073709551615 - c)) (18446744073709551615 - p)) k ≡ king_can b b.king k
unfolding king_can
king_goes b a c p k l h u v e f g =
    less_twice a c p k u v h
    ∙ ap₂ (λ (x y : Bool). (x && not y) && not (has_cell p k)) e (f ∙ king_mutual b.foe k l h)
    ∙ ap (λ (z : Bool). (king_attacks b.king k && not (king_attacks k b.foe)) && not z) g
    ∙ turn_and (king_attacks b.king k) (king_attacks k b.foe) (eqb k b.piece)
    ∙ sym (ap (λ (t : Bool). t && (king_attacks b.king k && (not (eqb k b.piece) && not (king_attacks k b.foe)))) (eq-eqb b.king b.king refl))

regroup : (x y z : Bool) → ((x && not y) && not z) ≡ (x && (not y && not z))
regroup true y z = refl
regroup false y z = refl

pub piece_goes : (q : Bool) (b : Men) (a c p k : ℕ) → k < 64 → c < 2 ^ 64 → p < 2 ^ 64 → has_cell a k ≡ piece_attacks q b.piece k b.king b.foe
    → has_cell c k ≡ eqb k b.king → has_cell p k ≡ eqb k b.foe
    → has_cell (bit_and (bit_and a (18446744073709551615 - c)) (18446744073709551615 - p)) k ≡ piece_can q b b.piece k
unfolding piece_can
piece_goes q b a c p k h u v e f g =
    less_twice a c p k u v h
    ∙ ap₂ (λ (x y : Bool). (x && not y) && not (has_cell p k)) e f
    ∙ ap (λ (z : Bool). (piece_attacks q b.piece k b.king b.foe && not (eqb k b.king)) && not z) g
    ∙ regroup (piece_attacks q b.piece k b.king b.foe) (eqb k b.king) (eqb k b.foe)
    ∙ sym (ap (λ (t : Bool). t && (piece_attacks q b.piece k b.king b.foe && (not (eqb k b.king) && not (eqb k b.foe)))) (eq-eqb b.piece b.piece refl))

pub taken_goes : (q : Bool) (b : Men) (k : ℕ) → 64 ≤ b.piece → has_cell 0 k ≡ piece_can q b b.piece k
unfolding piece_can
taken_goes q b k l =
    none_at k
    ∙ sym (ap (λ (t : Bool). eqb b.piece b.piece && (t && (not (eqb k b.king) && not (eqb k b.foe)))) (none_from q b.piece k b.king b.foe (off_board b.piece l))
    ∙ and_false (eqb b.piece b.piece))

taken_or : (x y z p : Bool) → ((x && not y) && not (z && not p)) ≡ (x && (not y && (p || not z)))
taken_or true true z p = refl
taken_or true false true true = refl
taken_or true false true false = refl
taken_or true false false true = refl
taken_or true false false false = refl
taken_or false y z p = refl

pub foe_goes : (q : Bool) (b : Men) (a c s p k : ℕ) → k < 64 → c < 2 ^ 64 → p < 2 ^ 64 → s < 2 ^ 64
    → has_cell a k ≡ king_attacks b.foe k → has_cell c k ≡ king_attacks b.king k → has_cell s k ≡ piece_attacks q b.piece k b.king b.king
    → has_cell p k ≡ eqb k b.piece
    → has_cell (bit_and (bit_and a (18446744073709551615 - c)) (18446744073709551615 - bit_and s (18446744073709551615 - p))) k ≡ foe_can q b b.foe k
unfolding foe_can
foe_goes q b a c s p k h u v w e f g i =
    less_twice a c (bit_and s (18446744073709551615 - p)) k u (let l = and_le_l s (18446744073709551615 - p) in omega (arith, l, w)) h
    ∙ ap (λ (t : Bool). (has_cell a k && not (has_cell c k)) && not t) (has_less s p k v h)
    ∙ taken_or (has_cell a k) (has_cell c k) (has_cell s k) (has_cell p k)
    ∙ ap₂ (λ (x y : Bool). x && (not y && (has_cell p k || not (has_cell s k)))) e f
    ∙ ap₂ (λ (x y : Bool). king_attacks b.foe k && (not (king_attacks b.king k) && (y || not x))) g i
    ∙ sym (ap (λ (t : Bool). t && (king_attacks b.foe k && (not (king_attacks b.king k) && (eqb k b.piece || not (piece_attacks q b.piece k b.king b.king)))))
    (eq-eqb b.foe b.foe refl))

-- ---- moves back
-- the parts of the number of a move of a man from one square to another
pub record IsNumber (m k a c : ℕ) : Type 0 where
  pub is_man : man m ≡ k
  pub from : from_square m ≡ a
  pub to : to_square m ≡ c

pub parts : (m k a c : ℕ) → a < 64 → c < 64 → m ≡ 4096 * k + 64 * a + c → IsNumber m k a c
unfolding man from_square to_square
parts m k a c l h e = record { is_man = omega (arith, l, h, e); from = omega (arith, l, h, e); to = omega (arith, l, h, e) }

not_equal : (a c : ℕ) → not (eqb a c) ≡ not (eqb c a)
not_equal a c = grind (arith, nat_tests)

-- the five tests of a move back, of which the first and the third are passed
led_by : (p x t o y u v : Bool) → p ≡ true → t ≡ true → o ≡ true → x ≡ u → y ≡ v → (p && (x && (t && (o && y)))) ≡ (u && v)
led_by p x t o y u v e f g h i =
    ap₂ (λ (p t : Bool). p && (x && (t && (o && y)))) e f ∙ ap (λ (o : Bool). x && (o && y)) g ∙ ap₂ (λ (x y : Bool). x && y) h i

three_tier : (b : Men) → eqb b.piece 64 ≡ false → eqb (tier b) 1 ≡ true
unfolding tier
three_tier b e = rw e refl

three_on : (b : Men) → eqb b.piece 64 ≡ false → is_undecided (end_by_last_move b) ≡ true
unfolding end_by_last_move
three_on b e = rw e refl

module _ (q : Bool) (d : Men) (l : legal q d ≡ true) (k : ℕ) (lk : k < 64) where
  h : IsLegal q d
  h = legal_in q d l

  below_64 : (p : ℕ) → p < 64 → eqb p 64 ≡ false
  below_64 p l = grind (arith, nat_tests)

  -- ---- of white's
  module _ (turn : d.white_moves ≡ false) where
    piece_lt : d.piece < 64
    piece_lt = piece_below q d l turn

    armed : eqb d.piece 64 ≡ false
    armed = below_64 d.piece piece_lt

    pub piece_not_foe : eqb d.foe d.piece ≡ false
    piece_not_foe = not-true _ (not_equal d.foe d.piece ∙ (h.armed armed).foe)

    -- of the king
    king_back_legal : legal q (king_back d k) ≡ (not (eqb k d.foe) && (not (king_attacks k d.foe) && (not (eqb d.piece k) && not (piece_attacks q d.piece d.foe k k))))
    unfolding legal in_check
    king_back_legal = rw (lt-ltb k 64 lk, lt-ltb d.foe 64 h.foe, armed, lt-ltb d.piece 64 piece_lt, (h.armed armed).foe) refl

    king_back_can : (m : ℕ) → IsNumber m 0 k d.king → can_move q (king_back d k) m ≡ king_attacks k d.king
    unfolding can_move king_can
    king_back_can m n =
        rw (n.is_man, n.from, n.to, eq-eqb k k refl, not_equal d.king d.piece, (h.armed armed).king, h.apart) (alone (king_attacks k d.king))
      where
        alone : (t : Bool) → ((t && true) || false) ≡ t
        alone true = refl
        alone false = refl

    king_led : (m : ℕ) → IsNumber m 0 k d.king → can_have_led_here d m ≡ true
    unfolding can_have_led_here
    king_led m n = rw (turn, n.is_man, n.to, eq-eqb d.king d.king refl) refl

    king_undo : (m : ℕ) → IsNumber m 0 k d.king → undo d m ≡ king_back d k
    unfolding undo
    king_undo m n = rw (n.is_man, n.from) refl

    king_is_led : (m : ℕ) → IsNumber m 0 k d.king → leads_here (ending q) 1 d m
        ≡ ((not (eqb k d.foe) && (not (king_attacks k d.foe) && (not (eqb d.piece k) && not (piece_attacks q d.piece d.foe k k)))) && king_attacks k d.king)
    king_is_led m n =
        let u = king_undo m n in
        led_by _ _ _ _ _ _ _ (king_led m n)
        (ap (λ (b : Men). eqb (tier b) 1) u ∙ three_tier (king_back d k) armed)
        (ap (λ (b : Men). is_undecided (end_by_last_move b)) u ∙ three_on (king_back d k) armed)
        (ap (legal q) u ∙ king_back_legal)
        (ap (λ (b : Men). can_move q b m) u ∙ king_back_can m n)

    king_order : (x y z g t : Bool) → ((t && not ((x || y) || z)) && not g) ≡ ((not x && (not z && (not y && not g))) && t)
    king_order x y z g false = sym (and_false (not x && (not z && (not y && not g))))
    king_order true y z g true = refl
    king_order false true true g true = refl
    king_order false true false g true = refl
    king_order false false true g true = refl
    king_order false false false true true = refl
    king_order false false false false true = refl

    pub king_came : (a o p c g : ℕ) → bit_or (bit_or o p) c < 2 ^ 64 → g < 2 ^ 64 → has_cell a k ≡ king_attacks d.king k → has_cell o k ≡ eqb k d.foe
        → has_cell p k ≡ eqb k d.piece → has_cell c k ≡ king_attacks d.foe k → has_cell g k ≡ piece_attacks q d.piece d.foe k k
        → has_cell (bit_and (bit_and a (18446744073709551615 - bit_or (bit_or o p) c)) (18446744073709551615 - g)) k ≡ leads_here (ending q) 1 d (d.king + 64 * k)
    king_came a o p c g u v ea eo ep ec eg =
        less_twice a (bit_or (bit_or o p) c) g k u v lk
        ∙ ap (λ (t : Bool). (has_cell a k && not t) && not (has_cell g k)) (has_or (bit_or o p) c k ∙ ap (λ (t : Bool). t || has_cell c k) (has_or o p k))
        ∙ king_order (has_cell o k) (has_cell p k) (has_cell c k) (has_cell g k) (has_cell a k)
        ∙ ap₂ (λ (x g : Bool). (not x && (not (has_cell c k) && (not (has_cell p k) && not g))) && has_cell a k) eo eg
        ∙ ap₂ (λ (y z : Bool). (not (eqb k d.foe) && (not z && (not y && not (piece_attacks q d.piece d.foe k k)))) && has_cell a k)
        (ep ∙ (let e : eqb k d.piece ≡ eqb d.piece k = grind (arith, nat_tests) in e)) (ec ∙ king_mutual d.foe k h.foe lk)
        ∙ ap (λ (t : Bool). (not (eqb k d.foe) && (not (king_attacks k d.foe) && (not (eqb d.piece k) && not (piece_attacks q d.piece d.foe k k)))) && t)
        (ea ∙ king_mutual d.king k h.king lk)
        ∙ sym (king_is_led (d.king + 64 * k) (parts _ 0 k d.king lk h.king (omega arith)))

    -- of the rook or queen
    piece_back_legal : legal q (piece_back d k) ≡ (not (eqb k d.king) && (not (eqb k d.foe) && not (piece_attacks q k d.foe d.king d.king)))
    unfolding legal in_check
    piece_back_legal = rw (lt-ltb d.king 64 h.king, lt-ltb d.foe 64 h.foe, h.kings, h.apart, below_64 k lk, lt-ltb k 64 lk) refl

    piece_back_can : (m : ℕ) → IsNumber m 1 k d.piece → can_move q (piece_back d k) m ≡ piece_attacks q k d.piece d.king d.foe
    unfolding can_move piece_can
    piece_back_can m n =
        rw (n.is_man, n.from, n.to, eq-eqb k k refl, (h.armed armed).king, (h.armed armed).foe) (and_true (piece_attacks q k d.piece d.king d.foe))

    piece_led : (m : ℕ) → IsNumber m 1 k d.piece → can_have_led_here d m ≡ true
    unfolding can_have_led_here
    piece_led m n = rw (turn, n.is_man, n.to, eq-eqb d.piece d.piece refl) refl

    piece_undo : (m : ℕ) → IsNumber m 1 k d.piece → undo d m ≡ piece_back d k
    unfolding undo
    piece_undo m n = rw (n.is_man, n.from) refl

    piece_is_led : (m : ℕ) → IsNumber m 1 k d.piece → leads_here (ending q) 1 d m
        ≡ ((not (eqb k d.king) && (not (eqb k d.foe) && not (piece_attacks q k d.foe d.king d.king))) && piece_attacks q k d.piece d.king d.foe)
    piece_is_led m n =
        let u = piece_undo m n in
        led_by _ _ _ _ _ _ _ (piece_led m n)
        (ap (λ (b : Men). eqb (tier b) 1) u ∙ three_tier (piece_back d k) (below_64 k lk))
        (ap (λ (b : Men). is_undecided (end_by_last_move b)) u ∙ three_on (piece_back d k) (below_64 k lk))
        (ap (legal q) u ∙ piece_back_legal)
        (ap (λ (b : Men). can_move q b m) u ∙ piece_back_can m n)

    piece_order : (x y z t : Bool) → ((t && not (x || y)) && not z) ≡ ((not x && (not y && not z)) && t)
    piece_order x y z false = sym (and_false (not x && (not y && not z)))
    piece_order true y z true = refl
    piece_order false true z true = refl
    piece_order false false true true = refl
    piece_order false false false true = refl

    pub piece_came : (a o p c : ℕ) → bit_or o p < 2 ^ 64 → c < 2 ^ 64 → has_cell a k ≡ piece_attacks q d.piece k d.king d.foe → has_cell o k ≡ eqb k d.king
        → has_cell p k ≡ eqb k d.foe → has_cell c k ≡ piece_attacks q d.foe k d.king d.king
        → has_cell (bit_and (bit_and a (18446744073709551615 - bit_or o p)) (18446744073709551615 - c)) k ≡ leads_here (ending q) 1 d (4096 + d.piece + 64 * k)
    piece_came a o p c u v ea eo ep ec =
        less_twice a (bit_or o p) c k u v lk
        ∙ ap (λ (t : Bool). (has_cell a k && not t) && not (has_cell c k)) (has_or o p k)
        ∙ piece_order (has_cell o k) (has_cell p k) (has_cell c k) (has_cell a k)
        ∙ ap₂ (λ (x y : Bool). (not x && (not y && not (has_cell c k))) && has_cell a k) eo ep
        ∙ ap₂ (λ (z t : Bool). (not (eqb k d.king) && (not (eqb k d.foe) && not z)) && t)
        (ec ∙ piece_mutual q d.foe k d.king d.king h.foe lk) (ea ∙ piece_mutual q d.piece k d.king d.foe piece_lt lk)
        ∙ sym (piece_is_led (4096 + d.piece + 64 * k) (parts _ 1 k d.piece lk piece_lt (omega arith)))

  -- ---- of black's: what was taken stood on the square of the black king
  module _ (turn : d.white_moves ≡ true) where
    abbrev stood : ℕ
    stood = if eqb d.piece 64 then d.foe else d.piece

    -- it stood on the board, and apart from the white king; and black was not in check after the move
    record HasStood : Type 0 where
      below : stood < 64
      apart : not (eqb stood d.king) ≡ true
      safe : (eqb d.foe stood || not (piece_attacks q stood d.foe d.king d.king)) ≡ true

    has_stood : HasStood
    unfolding in_check
    has_stood = elim (cases_Bool (eqb d.piece 64)) [
      | inl e ↦ (
          let is : stood ≡ d.foe = if_true (eqb d.piece 64) d.foe d.piece e in
          record {
            below = subst (λ (p : ℕ). p < 64) (sym is) h.foe;
            apart = subst (λ (p : ℕ). not (eqb p d.king) ≡ true) (sym is) (not_equal d.foe d.king ∙ h.kings);
            safe = subst (λ (p : ℕ). (eqb d.foe p || not (piece_attacks q p d.foe d.king d.king)) ≡ true) (sym is)
                (ap (λ (t : Bool). t || not (piece_attacks q d.foe d.foe d.king d.king)) (eq-eqb d.foe d.foe refl));
          })
      | inr e ↦ (
          let is : stood ≡ d.piece = if_false (eqb d.piece 64) d.foe d.piece e in
          let a = h.armed e in
          let free : not (piece_attacks q d.piece d.foe d.king d.king) ≡ true = sym (ap (λ (t : Bool). not (t && piece_attacks q d.piece d.foe d.king d.king)) turn) ∙ a.check in
          record {
            below = subst (λ (p : ℕ). p < 64) (sym is) a.below;
            apart = subst (λ (p : ℕ). not (eqb p d.king) ≡ true) (sym is) a.king;
            safe = subst (λ (p : ℕ). (eqb d.foe p || not (piece_attacks q p d.foe d.king d.king)) ≡ true) (sym is)
                (ap (λ (t : Bool). eqb d.foe d.piece || t) free ∙ or_true (eqb d.foe d.piece));
          })
    ]
      where
        or_true : (t : Bool) → (t || true) ≡ true
        or_true true = refl
        or_true false = refl

    foe_back_legal : legal q (foe_back d k) ≡ (not (eqb d.king k) && (not (king_attacks d.king k) && not (eqb stood k)))
    unfolding legal in_check
    foe_back_legal =
        let s = has_stood in
        rw (lt-ltb d.king 64 h.king, lt-ltb k 64 lk, below_64 stood s.below, lt-ltb stood 64 s.below, s.apart) (last (eqb d.king k) (king_attacks d.king k) (eqb stood k))
      where
        last : (x y z : Bool) → (not x && (not y && (not z && true))) ≡ (not x && (not y && not z))
        last true y z = refl
        last false true z = refl
        last false false true = refl
        last false false false = refl

    foe_back_can : (m : ℕ) → IsNumber m 2 k d.foe → can_move q (foe_back d k) m ≡ king_attacks k d.foe
    unfolding can_move foe_can
    foe_back_can m n = rw (n.is_man, n.from, n.to, eq-eqb k k refl, h.apart, has_stood.safe) (and_true (king_attacks k d.foe))

    foe_led : (m : ℕ) → IsNumber m 2 k d.foe → can_have_led_here d m ≡ true
    unfolding can_have_led_here
    foe_led m n = rw (turn, n.is_man, n.to, eq-eqb d.foe d.foe refl) refl

    foe_undo : (m : ℕ) → IsNumber m 2 k d.foe → undo d m ≡ foe_back d k
    unfolding undo
    foe_undo m n = rw (n.is_man, n.from) refl

    foe_is_led : (m : ℕ) → IsNumber m 2 k d.foe → leads_here (ending q) 1 d m
        ≡ ((not (eqb d.king k) && (not (king_attacks d.king k) && not (eqb stood k))) && king_attacks k d.foe)
    foe_is_led m n =
        let u = foe_undo m n in
        let three = below_64 stood has_stood.below in
        led_by _ _ _ _ _ _ _ (foe_led m n)
        (ap (λ (b : Men). eqb (tier b) 1) u ∙ three_tier (foe_back d k) three)
        (ap (λ (b : Men). is_undecided (end_by_last_move b)) u ∙ three_on (foe_back d k) three)
        (ap (legal q) u ∙ foe_back_legal)
        (ap (λ (b : Men). can_move q b m) u ∙ foe_back_can m n)

    foe_order : (x y z t : Bool) → (t && not ((x || z) || y)) ≡ ((not x && (not y && not z)) && t)
    foe_order x y z false = sym (and_false (not x && (not y && not z)))
    foe_order true y z true = refl
    foe_order false true true true = refl
    foe_order false true false true = refl
    foe_order false false true true = refl
    foe_order false false false true = refl

    pub foe_came : (a o p c piece : ℕ) → bit_or (bit_or o p) c < 2 ^ 64 → piece ≡ stood → has_cell a k ≡ king_attacks d.foe k → has_cell o k ≡ eqb k d.king
        → has_cell p k ≡ eqb k piece → has_cell c k ≡ king_attacks d.king k
        → has_cell (bit_and a (18446744073709551615 - bit_or (bit_or o p) c)) k ≡ leads_here (ending q) 1 d (8192 + d.foe + 64 * k)
    foe_came a o p c piece u is ea eo ep ec =
        has_less a (bit_or (bit_or o p) c) k u lk
        ∙ ap (λ (t : Bool). has_cell a k && not t) (has_or (bit_or o p) c k ∙ ap (λ (t : Bool). t || has_cell c k) (has_or o p k))
        ∙ foe_order (has_cell o k) (has_cell c k) (has_cell p k) (has_cell a k)
        ∙ ap₂ (λ (x y : Bool). (not x && (not y && not (has_cell p k))) && has_cell a k) (eo ∙ equal k d.king) ec
        ∙ ap₂ (λ (z t : Bool). (not (eqb d.king k) && (not (king_attacks d.king k) && not z)) && t)
        (ep ∙ equal k piece ∙ ap (λ (p : ℕ). eqb p k) is) (ea ∙ king_mutual d.foe k h.foe lk)
        ∙ sym (foe_is_led (8192 + d.foe + 64 * k) (parts _ 2 k d.foe lk h.foe (omega arith)))
      where
        equal : (a c : ℕ) → eqb a c ≡ eqb c a
        equal a c = grind (arith, nat_tests)
