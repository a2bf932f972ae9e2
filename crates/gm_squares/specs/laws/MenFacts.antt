-- Legal boards and their moves, part by part.
use Rattle.std.specs.Prelude.{◌≡◌, ◌<◌, ◌≤◌, ◌&&◌, ◌||◌, ◌⊎◌, if◌then◌else◌}
use Rattle.gm_pieces.specs.Common.{ℕ, Bool, true, false, not, eqb, eqb-true, eq-eqb, ltb-true, lt-ltb, nat_tests, refl, sym, ap, ap₂, ◌∙◌, subst, arith, inl, inr, cases_Bool, true≢false, and_left, and_right, and_both, or_cases}
use Rattle.gm_squares.specs.declared.men.Men.{Men}
use Rattle.gm_squares.specs.Chess.{king_attacks, piece_attacks, in_check, legal, man, from_square, to_square, king_can, piece_can, foe_can, can_move, moved, king_gone, piece_gone, foe_gone, can_have_led_here, undo, king_back, piece_back, foe_back}
use Rattle.gm_squares.specs.laws.AttackFacts.{king_mutual}

-- ---- tests
pub if_true : {X : Type 0} (x : Bool) (y z : X) → x ≡ true → (if x then y else z) ≡ y
if_true true y z e = refl
if_true false y z e = absurd (true≢false (sym e))

pub if_false : {X : Type 0} (x : Bool) (y z : X) → x ≡ false → (if x then y else z) ≡ z
if_false true y z e = absurd (true≢false e)
if_false false y z e = refl

pub differ : (a c : ℕ) → not (eqb a c) ≡ true → (not (eqb c a) ≡ true) × (eqb c a ≡ false)
differ a c e = (grind (arith, nat_tests), grind (arith, nat_tests))

-- squares differ of which only one is attacked
pub apart_by : (a c d : ℕ) → king_attacks a c ≡ true → not (king_attacks a d) ≡ true → not (eqb c d) ≡ true
apart_by a c d e f = elim (cases_Bool (eqb c d)) [
  | inl i ↦ absurd (true≢false (sym f ∙ ap not (ap (king_attacks a) (sym (eqb-true c d i)) ∙ e)))
  | inr i ↦ ap not i
]

-- ---- legal boards
-- the rook or queen, if it has not been taken
pub record IsArmed (q : Bool) (b : Men) : Type 0 where
  pub below : b.piece < 64
  pub king : not (eqb b.piece b.king) ≡ true
  pub foe : not (eqb b.piece b.foe) ≡ true
  pub check : not (b.white_moves && in_check q b) ≡ true

pub record IsLegal (q : Bool) (b : Men) : Type 0 where
  pub king : b.king < 64
  pub foe : b.foe < 64
  pub kings : not (eqb b.king b.foe) ≡ true
  pub apart : not (king_attacks b.king b.foe) ≡ true
  pub bare : eqb b.piece 64 ≡ true → b.white_moves ≡ true
  pub armed : eqb b.piece 64 ≡ false → IsArmed q b

pub legal_in : (q : Bool) (b : Men) → legal q b ≡ true → IsLegal q b
unfolding legal
legal_in q b l =
    let l1 = and_right _ _ l in
    let l2 = and_right _ _ l1 in
    let l3 = and_right _ _ l2 in
    let l4 = and_right _ _ l3 in
    record {
      king = ltb-true _ _ (and_left _ _ l);
      foe = ltb-true _ _ (and_left _ _ l1);
      kings = and_left _ _ l2;
      apart = and_left _ _ l3;
      bare = λ e. sym (if_true (eqb b.piece 64) _ _ e) ∙ l4;
      armed = λ e.
          let r = sym (if_false (eqb b.piece 64) b.white_moves _ e) ∙ l4 in
          let r1 = and_right _ _ r in
          let r2 = and_right _ _ r1 in
          record { below = ltb-true _ _ (and_left _ _ r); king = and_left _ _ r1; foe = and_left _ _ r2; check = and_right _ _ r2 };
    }

pub legal_from : (q : Bool) (b : Men) → IsLegal q b → legal q b ≡ true
unfolding legal
legal_from q b h =
    and_both _ _ (lt-ltb _ _ h.king) (and_both _ _ (lt-ltb _ _ h.foe) (and_both _ _ h.kings (and_both _ _ h.apart
    (elim (cases_Bool (eqb b.piece 64)) [
      | inl e ↦ if_true (eqb b.piece 64) _ _ e ∙ h.bare e
      | inr e ↦ if_false (eqb b.piece 64) _ _ e
          ∙ (let a = h.armed e in and_both _ _ (lt-ltb _ _ a.below) (and_both _ _ a.king (and_both _ _ a.foe a.check)))
    ]))))

-- the squares of a legal board
pub king_below : (q : Bool) (b : Men) → legal q b ≡ true → b.king < 64
king_below q b l = (legal_in q b l).king

pub foe_below : (q : Bool) (b : Men) → legal q b ≡ true → b.foe < 64
foe_below q b l = (legal_in q b l).foe

pub piece_most : (q : Bool) (b : Men) → legal q b ≡ true → b.piece ≤ 64
piece_most q b l = elim (cases_Bool (eqb b.piece 64)) [
  | inl e ↦ (let i = eqb-true _ _ e in omega (arith, i))
  | inr e ↦ (let a = ((legal_in q b l).armed e).below in omega (arith, a))
]

pub piece_below : (q : Bool) (b : Men) → legal q b ≡ true → b.white_moves ≡ false → b.piece < 64
piece_below q b l w = elim (cases_Bool (eqb b.piece 64)) [
  | inl e ↦ absurd (true≢false (sym ((legal_in q b l).bare e) ∙ w))
  | inr e ↦ ((legal_in q b l).armed e).below
]

-- boards with the same men are equal
pub same_men : (x y : Men) → x.white_moves ≡ y.white_moves → x.king ≡ y.king → x.piece ≡ y.piece → x.foe ≡ y.foe → x ≡ y
same_men x y e f g h =
    ap₂ (λ (t : Bool) (k : ℕ). let z : Men = record { white_moves = t; king = k; piece = x.piece; foe = x.foe } in z) e f
    ∙ ap₂ (λ (p r : ℕ). let z : Men = record { white_moves = y.white_moves; king = y.king; piece = p; foe = r } in z) g h

-- ---- numbers
pub man_small : (m : ℕ) → m < 12288 → man m ≤ 2
unfolding man
man_small m l = omega (arith, l)

pub to_below : (m : ℕ) → to_square m < 64
unfolding to_square
to_below m = omega arith

pub from_below : (m : ℕ) → from_square m < 64
unfolding from_square
from_below m = omega arith

-- ---- moves
-- a move of the man k, of this side and from this square, that passes the rest of its test
pub record IsManMove (b : Men) (m k : ℕ) (white : Bool) (square : ℕ) (rest : ℕ → Bool) : Type 0 where
  pub side : b.white_moves ≡ white
  pub is : man m ≡ k
  pub from : from_square m ≡ square
  pub can : rest square ≡ true

abbrev pub king_rest : Men → ℕ → ℕ → Bool
king_rest b c a = king_attacks a c && (not (eqb c b.piece) && not (king_attacks c b.foe))

abbrev piece_rest : Bool → Men → ℕ → ℕ → Bool
piece_rest q b c a = piece_attacks q a c b.king b.foe && (not (eqb c b.king) && not (eqb c b.foe))

abbrev foe_rest : Bool → Men → ℕ → ℕ → Bool
foe_rest q b c a = king_attacks a c && (not (king_attacks b.king c) && (eqb c b.piece || not (piece_attacks q b.piece c b.king b.king)))

abbrev pub IsMoveOf : Bool → Men → ℕ → Type 0
IsMoveOf q b m =
    IsManMove b m 0 true b.king (king_rest b (to_square m))
    ⊎ (IsManMove b m 1 true b.piece (piece_rest q b (to_square m)) ⊎ IsManMove b m 2 false b.foe (foe_rest q b (to_square m)))

pub man_in : (b : Men) (m k : ℕ) (w : Bool) (s : ℕ) (rest : ℕ → Bool) → b.white_moves ≡ w
    → (eqb (man m) k && (eqb (from_square m) s && rest (from_square m))) ≡ true → IsManMove b m k w s rest
man_in b m k w s rest i e =
    let f = and_right (eqb (man m) k) _ e in
    let from = eqb-true _ _ (and_left _ _ f) in
    record { side = i; is = eqb-true _ _ (and_left _ _ e); from = from; can = ap rest (sym from) ∙ and_right (eqb (from_square m) s) _ f }

pub move_in : (q : Bool) (b : Men) (m : ℕ) → can_move q b m ≡ true → IsMoveOf q b m
unfolding can_move king_can piece_can foe_can
move_in q b m e =
    let c = to_square m in
    elim (cases_Bool b.white_moves) [
      | inl w ↦ elim (or_cases _ _ (sym (if_true b.white_moves _ _ w) ∙ e)) [
        | inl k ↦ inl (man_in b m 0 true b.king (king_rest b c) w k)
        | inr k ↦ inr (inl (man_in b m 1 true b.piece (piece_rest q b c) w k))
      ]
      | inr w ↦ inr (inr (man_in b m 2 false b.foe (foe_rest q b c) w (sym (if_false b.white_moves _ _ w) ∙ e)))
    ]

-- ---- legal after a move
pub king_legal : (q : Bool) (b : Men) (c : ℕ) → IsLegal q b → eqb b.piece 64 ≡ false → c < 64 → king_rest b c b.king ≡ true → IsLegal q (king_gone b c)
king_legal q b c h n l k =
    let a = h.armed n in
    let r = and_right (king_attacks b.king c) _ k in
    record {
      king = l;
      foe = h.foe;
      kings = apart_by b.king c b.foe (and_left _ _ k) h.apart;
      apart = and_right (not (eqb c b.piece)) _ r;
      bare = λ e. absurd (true≢false (sym e ∙ n));
      armed = λ i. record { below = a.below; king = (differ c b.piece (and_left _ _ r)).0; foe = a.foe; check = refl };
    }

pub piece_legal : (q : Bool) (b : Men) (c : ℕ) → IsLegal q b → c < 64 → (not (eqb c b.king) && not (eqb c b.foe)) ≡ true → IsLegal q (piece_gone b c)
piece_legal q b c h l r =
    record {
      king = h.king;
      foe = h.foe;
      kings = h.kings;
      apart = h.apart;
      bare = λ e. absurd (let i = eqb-true c 64 e in omega (arith, l, i));
      armed = λ i. record { below = l; king = and_left _ _ r; foe = and_right (not (eqb c b.king)) _ r; check = refl };
    }

foe_legal : (q : Bool) (b : Men) (c : ℕ) → IsLegal q b → eqb b.piece 64 ≡ false → c < 64 → foe_rest q b c b.foe ≡ true → IsLegal q (foe_gone b c)
unfolding in_check
foe_legal q b c h n l k =
    let a = h.armed n in
    let r = and_right (king_attacks b.foe c) _ k in
    record {
      king = h.king;
      foe = l;
      kings = (differ c b.king (apart_by b.foe c b.king (and_left _ _ k) (ap not (king_mutual b.foe b.king h.foe h.king) ∙ h.apart))).0;
      apart = and_left _ _ r;
      bare = λ e. refl;
      armed = λ i. elim (cases_Bool (eqb c b.piece)) [
        | inl e ↦ absurd (true≢false (ap (λ (t : Bool). eqb (if t then 64 else b.piece) 64) (sym e) ∙ i))
        | inr e ↦ (
            let o = sym (if_false (eqb c b.piece) 64 b.piece e) in
            record {
              below = subst (λ (s : ℕ). s < 64) o a.below;
              king = subst (λ (s : ℕ). not (eqb s b.king) ≡ true) o a.king;
              foe = subst (λ (s : ℕ). not (eqb s c) ≡ true) o (differ c b.piece (ap not e)).0;
              check = subst (λ (s : ℕ). not (piece_attacks q s c b.king b.king) ≡ true) o
                  (elim (or_cases _ _ (and_right (not (king_attacks b.king c)) _ r)) [ inl f ↦ absurd (true≢false (sym f ∙ e)) | inr f ↦ f ]);
            })
      ];
    }

-- a move from a board with three men keeps the board legal
pub moved_legal : (q : Bool) (b : Men) (m : ℕ) → IsLegal q b → eqb b.piece 64 ≡ false → IsMoveOf q b m → legal q (moved b m) ≡ true
unfolding moved
moved_legal q b m h n v = elim v [
  | inl k ↦ rw k.is (legal_from q _ (king_legal q b (to_square m) h n (to_below m) k.can))
  | inr u ↦ elim u [
    | inl k ↦ rw k.is (legal_from q _ (piece_legal q b (to_square m) h (to_below m) (and_right (piece_attacks q b.piece (to_square m) b.king b.foe) _ k.can)))
    | inr k ↦ rw k.is (legal_from q _ (foe_legal q b (to_square m) h n (to_below m) k.can))
  ]
]

-- ---- moves back
-- taking back a move of the black king restores the rook or queen
stood : (b : Men) (c : ℕ) → eqb b.piece 64 ≡ false → (if eqb (if eqb c b.piece then 64 else b.piece) 64 then c else (if eqb c b.piece then 64 else b.piece))
    ≡ b.piece
stood b c n = elim (cases_Bool (eqb c b.piece)) [
  | inl e ↦ rw e (eqb-true c b.piece e)
  | inr e ↦ rw e (if_false (eqb b.piece 64) c b.piece n)
]

-- a move that is taken back gives the board
pub undone : (x y z : ℕ → Bool) (b : Men) (m : ℕ) → eqb b.piece 64 ≡ false → IsManMove b m 0 true b.king x ⊎ (IsManMove b m 1 true b.piece y ⊎ IsManMove b m 2 false b.foe z)
    → (can_have_led_here (moved b m) m ≡ true) × (undo (moved b m) m ≡ b)
unfolding moved undo can_have_led_here
undone x y z b m n v =
    let a = from_square m in
    let c = to_square m in
    let same = eq-eqb c c refl in
    elim v [
      | inl k ↦ rw (k.is, same) (refl, same_men (king_back (king_gone b c) a) b (sym k.side) k.from refl refl)
      | inr u ↦ elim u [
        | inl k ↦ rw (k.is, same) (refl, same_men (piece_back (piece_gone b c) a) b (sym k.side) refl k.from refl)
        | inr k ↦ rw (k.is, same) (refl, same_men (foe_back (foe_gone b c) a) b (sym k.side) refl (stood b c n) k.from)
      ]
    ]

-- the move of a man to its square
abbrev pub IsBack : Men → ℕ → Type 0
IsBack d m =
    ((d.white_moves ≡ true) × (man m ≡ 2) × (to_square m ≡ d.foe))
    ⊎ (((d.white_moves ≡ false) × (man m ≡ 0) × (to_square m ≡ d.king)) ⊎ ((d.white_moves ≡ false) × (man m ≡ 1) × (to_square m ≡ d.piece)))

man_to : (m k s : ℕ) → (eqb (man m) k && eqb (to_square m) s) ≡ true → (man m ≡ k) × (to_square m ≡ s)
man_to m k s e = (eqb-true _ _ (and_left _ _ e), eqb-true _ _ (and_right (eqb (man m) k) _ e))

pub was_in : (d : Men) (m : ℕ) → can_have_led_here d m ≡ true → IsBack d m
unfolding can_have_led_here
was_in d m e = elim (cases_Bool d.white_moves) [
  | inl w ↦ (let x = man_to m 2 d.foe (sym (if_true d.white_moves _ _ w) ∙ e) in inl (w, x.0, x.1))
  | inr w ↦ elim (or_cases _ _ (sym (if_false d.white_moves _ _ w) ∙ e)) [
    | inl f ↦ (let x = man_to m 0 d.king f in inr (inl (w, x.0, x.1)))
    | inr f ↦ (let x = man_to m 1 d.piece f in inr (inr (w, x.0, x.1)))
  ]
]

pub apart_foe : (q : Bool) (d : Men) → IsLegal q d → not (eqb d.piece d.foe) ≡ true
apart_foe q d h = elim (cases_Bool (eqb d.piece 64)) [
  | inl e ↦ (let l = h.foe in let f = eqb-true d.piece 64 e in grind (arith, nat_tests, l, f))
  | inr e ↦ (h.armed e).foe
]

-- putting the rook or queen back and moving the black king again changes nothing
put_back : (p c r : ℕ) → c ≡ r → not (eqb p r) ≡ true → (if eqb c (if eqb p 64 then r else p) then 64 else (if eqb p 64 then r else p)) ≡ p
put_back p c r i n = elim (cases_Bool (eqb p 64)) [
  | inl e ↦ rw (e, i) (if_true (eqb r r) 64 r (eq-eqb r r refl) ∙ sym (eqb-true p 64 e))
  | inr e ↦ rw (e, i) (if_false (eqb r p) 64 p (differ p r n).1)
]

-- a move that is taken back and made again gives the board
pub redone : (d : Men) (m : ℕ) → not (eqb d.piece d.foe) ≡ true → can_have_led_here d m ≡ true → moved (undo d m) m ≡ d
unfolding moved undo
redone d m h e =
    let a = from_square m in
    let c = to_square m in
    elim (was_in d m e) [
      | inl x ↦ rw x.1 (same_men (foe_gone (foe_back d a) c) d (sym x.0) refl (put_back d.piece c d.foe x.2 h) x.2)
      | inr u ↦ elim u [
        | inl x ↦ rw x.1 (same_men (king_gone (king_back d a) c) d (sym x.0) x.2 refl refl)
        | inr x ↦ rw x.1 (same_men (piece_gone (piece_back d a) c) d (sym x.0) refl x.2 refl)
      ]
    ]
