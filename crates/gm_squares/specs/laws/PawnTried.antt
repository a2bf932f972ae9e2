-- The numbers that are tried: a man's moves from its square, and to it; and those with which a pawn becomes another man.
use Rattle.std.specs.Prelude.{◌≡◌, ◌≢◌, ◌+◌, ◌-◌, ◌<◌, ◌≤◌, ◌*◌, ◌/◌, ◌%◌, ◌⊎◌, ◌||◌}
use Rattle.gm_pieces.specs.Common.{ℕ, true, false, not, eqb, eqb-true, eq-eqb, leb, leb-true, length, refl, sym, ap, ◌∙◌, subst, arith, nat_tests, inl, inr, cases_Bool, cases_eq, true≢false, not-true, filter, range_with_len, and_left, and_right, or_cases}
use Rattle.gm_pieces.specs.declared.candidates.Run.{Run}
use Rattle.gm_pieces.specs.inner.Tried.{one, AreCandidates}
use Rattle.gm_pieces.specs.laws.TriedFacts.{one_run, two_runs, tried_few}
use Rattle.gm_squares.specs.declared.pawns.WhiteMan.{WhiteMan}
use Rattle.gm_squares.specs.declared.pawns.WhiteMan.TheVariants.{Pawn}
use Rattle.gm_squares.specs.declared.pawns.PawnBoard.{PawnBoard}
use Rattle.gm_squares.specs.Chess.{man, from_square, to_square, can_have_led_here as men_can_have_led_here}
use Rattle.gm_squares.specs.Kpk.{legal, tier_with, tier, can_move, can_move_with, can_have_led_here, move_number_bound}
use Rattle.gm_squares.specs.inner.Runs.{row}
use Rattle.gm_squares.specs.laws.MenFacts.{if_true, if_false, was_in, to_below, from_below}
use Rattle.gm_squares.specs.laws.TriedMoves.{at_from, at_to}
use Rattle.gm_squares.specs.laws.PawnFacts.{move_with, pawn_move_in, king_below, foe_below, piece_most, same_kind, off_with, white_with, tier_small}

-- ---- bounds
pub bound_least : (t : ℕ) → 12288 ≤ move_number_bound t
unfolding move_number_bound
bound_least t = elim (cases_Bool (eqb t 5)) [ inl e ↦ rw e (omega arith) | inr e ↦ rw e (omega arith) ]

pub bound_most : (t : ℕ) → move_number_bound t ≤ 28672
unfolding move_number_bound
bound_most t = elim (cases_Bool (eqb t 5)) [ inl e ↦ rw e (omega arith) | inr e ↦ rw e (omega arith) ]

pub bound_pawn : move_number_bound 5 ≡ 28672
unfolding move_number_bound
bound_pawn = refl

-- ---- moves
pub pawn_kind : (k : WhiteMan) → tier_with k ≡ 5 → k ≡ Pawn
unfolding tier_with
pawn_kind k e = same_kind k Pawn e

-- the squares of the side to move, where no pawn can become another man
white_tried : (b : PawnBoard) → legal b ≡ true → b.men.white_moves ≡ true → ((tier b ≡ 5) → b.men.piece / 8 ≢ 6)
    → AreCandidates (can_move b) (move_number_bound (tier b)) (record { low = row (64 * b.men.king) 1; high = row (4096 + 64 * b.men.piece) 1 })
unfolding tier_with
white_tried b l w never =
    let king = king_below b l in
    let piece = piece_most b l in
    let most = bound_least (tier b) in
    two_runs (record { low = row (64 * b.men.king) 1; high = row (4096 + 64 * b.men.piece) 1 }) (can_move b) (move_number_bound (tier b)) (omega arith)
    (λ j k h e. omega (arith, h)) (λ j k h e. omega (arith, h)) (λ j k h e. omega (arith, h, king))
    (λ k h. omega (arith, h, king, most)) (λ k h. omega (arith, h, piece, most))
    (λ m h e. elim (move_with b.kind b.men m e) [
      | inl v ↦ elim v [
        | inl k ↦ inl (to_square m, to_below m, (let n = at_from m 0 b.men.king k.is k.from in omega (arith, n)))
        | inr u ↦ elim u [
          | inl k ↦ inr (to_square m, to_below m, (let n = at_from m 1 b.men.piece k.is k.from in omega (arith, n)))
          | inr k ↦ absurd (true≢false (sym w ∙ k.side))
        ]
      ]
      | inr v ↦ absurd (never (ap tier_with v.0) v.1.row)
    ])

pub piece_tried : (b : PawnBoard) → legal b ≡ true → b.men.white_moves ≡ true → tier b ≢ 5
    → AreCandidates (can_move b) (move_number_bound (tier b)) (record { low = row (64 * b.men.king) 1; high = row (4096 + 64 * b.men.piece) 1 })
piece_tried b l w n = white_tried b l w (λ e. absurd (n e))

pub low_tried : (b : PawnBoard) → legal b ≡ true → b.men.white_moves ≡ true → b.men.piece / 8 ≢ 6
    → AreCandidates (can_move b) (move_number_bound (tier b)) (record { low = row (64 * b.men.king) 1; high = row (4096 + 64 * b.men.piece) 1 })
low_tried b l w n = white_tried b l w (λ e. n)

-- the run of the numbers with which a pawn becomes another man
abbrev pub promotions : ℕ → Run
promotions a = record { first = 12288 + 64 * a + (a + 8) % 64; step = 4096; count = 4 }

promotion_at : (m a : ℕ) → m < 28672 → 3 ≤ man m → from_square m ≡ a → to_square m ≡ a + 8 → (12288 + 64 * a + (a + 8) % 64) + 4096 * (man m - 3) ≡ m
unfolding man from_square to_square
promotion_at m a l low e f = omega (arith, l, low, e, f)

pub man_most : (m : ℕ) → m < 28672 → man m ≤ 6
unfolding man
man_most m l = omega (arith, l)

pub promotions_tried : (b : PawnBoard) → legal b ≡ true → b.men.white_moves ≡ true → tier b ≡ 5 → b.men.piece / 8 ≡ 6
    → AreCandidates (can_move b) (move_number_bound (tier b)) (record { low = row (64 * b.men.king) 1; high = promotions b.men.piece })
unfolding can_move_with
promotions_tried b l w t r =
    let king = king_below b l in
    let n = ap move_number_bound t ∙ bound_pawn in
    two_runs (record { low = row (64 * b.men.king) 1; high = promotions b.men.piece }) (can_move b) (move_number_bound (tier b)) (omega arith)
    (λ j k h e. omega (arith, h)) (λ j k h e. omega (arith, h)) (λ j k h e. omega (arith, h, king, r))
    (λ k h. omega (arith, h, king, n)) (λ k h. omega (arith, h, r, n))
    (λ m h e. elim (pawn_move_in b.men m (sym (ap (λ (k : WhiteMan). can_move_with k b.men m) (pawn_kind b.kind t)) ∙ e)) [
      | inl k ↦ inl (to_square m, to_below m, (let n = at_from m 0 b.men.king k.is k.from in omega (arith, n)))
      | inr u ↦ elim u [
        | inl k ↦ absurd (true≢false (sym (eq-eqb _ _ r) ∙ not-true _ (and_left _ _ k.can)))
        | inr v ↦ elim v [
          | inl k ↦ absurd (true≢false (sym w ∙ k.side))
          | inr k ↦ (
              let below : m < 28672 = omega (arith, h, n) in
              let low = k.becomes in
              let high = man_most m below in
              inr (man m - 3, omega (arith, low, high), promotion_at m b.men.piece below low k.from k.to))
        ]
      ]
    ])

pub black_tried : (b : PawnBoard) → legal b ≡ true → b.men.white_moves ≡ false
    → AreCandidates (can_move b) (move_number_bound (tier b)) (one (row (8192 + 64 * b.men.foe) 1))
black_tried b l w =
    let foe = foe_below b l in
    let most = bound_least (tier b) in
    one_run (can_move b) (move_number_bound (tier b)) (row (8192 + 64 * b.men.foe) 1) (omega arith) (λ j k h e. omega (arith, h))
    (λ k h. omega (arith, h, foe, most))
    (λ m h e. elim (move_with b.kind b.men m e) [
      | inl v ↦ elim v [
        | inl k ↦ absurd (true≢false (sym k.side ∙ w))
        | inr u ↦ elim u [
          | inl k ↦ absurd (true≢false (sym k.side ∙ w))
          | inr k ↦ (to_square m, to_below m, (let n = at_from m 2 b.men.foe k.is k.from in omega (arith, n)))
        ]
      ]
      | inr v ↦ absurd (true≢false (sym v.1.side ∙ w))
    ])

-- ---- moves back
-- a pawn has just become the man of the board
pub record HasPromoted (t : ℕ) (d : PawnBoard) (m : ℕ) : Type 0 where
  pub at : t ≡ 5
  pub side : d.men.white_moves ≡ false
  pub low : 3 ≤ man m
  pub becomes : man m ≡ tier d + 2
  pub to : to_square m ≡ d.men.piece
  pub from : from_square m + 8 ≡ to_square m

pub led_in : (t : ℕ) (d : PawnBoard) (m : ℕ) → can_have_led_here t d m ≡ true
    → HasPromoted t d m ⊎ ((leb 3 (man m) ≡ false) × ((tier d ≡ 0) ⊎ (tier d ≡ t)) × (men_can_have_led_here d.men m ≡ true))
unfolding can_have_led_here
led_in t d m e = elim (cases_Bool (leb 3 (man m))) [
  | inl p ↦ (
      let f = sym (if_true (leb 3 (man m)) _ _ p) ∙ e in
      let f1 = and_right (eqb t 5) _ f in
      let f2 = and_right (not d.men.white_moves) _ f1 in
      let f3 = and_right (eqb (man m) (tier d + 2)) _ f2 in
      inl (record {
        at = eqb-true _ _ (and_left _ _ f);
        side = not-true _ (and_left _ _ f1);
        low = leb-true _ _ p;
        becomes = eqb-true _ _ (and_left _ _ f2);
        to = eqb-true _ _ (and_left _ _ f3);
        from = eqb-true _ _ (and_right (eqb (to_square m) d.men.piece) _ f3);
      }))
  | inr p ↦ (
      let f = sym (if_false (leb 3 (man m)) _ _ p) ∙ e in
      inr (p, elim (or_cases _ _ (and_left _ _ f)) [ inl z ↦ inl (eqb-true _ _ z) | inr z ↦ inr (eqb-true _ _ z) ], and_right (eqb (tier d) 0 || eqb (tier d) t) _ f))
]

pub white_earlier : (t : ℕ) (d : PawnBoard) → legal d ≡ true → d.men.white_moves ≡ true
    → AreCandidates (can_have_led_here t d) (move_number_bound t) (one (row (8192 + d.men.foe) 64))
white_earlier t d l w =
    let foe = foe_below d l in
    let most = bound_least t in
    one_run (can_have_led_here t d) (move_number_bound t) (row (8192 + d.men.foe) 64) (omega arith) (λ j k h e. omega (arith, h))
    (λ k h. omega (arith, h, foe, most))
    (λ m h e. elim (led_in t d m e) [
      | inl x ↦ absurd (true≢false (sym w ∙ x.side))
      | inr x ↦ elim (was_in d.men m x.2) [
        | inl y ↦ (from_square m, from_below m, (let n = at_to m 2 d.men.foe y.1 y.2 in omega (arith, n)))
        | inr u ↦ elim u [ inl y ↦ absurd (true≢false (sym w ∙ y.0)) | inr y ↦ absurd (true≢false (sym w ∙ y.0)) ]
      ]
    ])

-- the man that stays: a pawn has become none with a pawn's number
pub same_earlier : (t : ℕ) (d : PawnBoard) → legal d ≡ true → d.men.white_moves ≡ false → tier d ≡ t
    → AreCandidates (can_have_led_here t d) (move_number_bound t) (record { low = row d.men.king 64; high = row (4096 + d.men.piece) 64 })
same_earlier t d l w s =
    let king = king_below d l in
    let piece = piece_most d l in
    let least = bound_least t in
    let most = bound_most t in
    two_runs (record { low = row d.men.king 64; high = row (4096 + d.men.piece) 64 }) (can_have_led_here t d) (move_number_bound t) (omega arith)
    (λ j k h e. omega (arith, h)) (λ j k h e. omega (arith, h)) (λ j k h e. omega (arith, h, king))
    (λ k h. omega (arith, h, king, least)) (λ k h. omega (arith, h, piece, least))
    (λ m h e. elim (led_in t d m e) [
      | inl x ↦ absurd (let high = man_most m (omega (arith, h, most)) in let a = x.at in let i = x.becomes in omega (arith, high, s, a, i))
      | inr x ↦ elim (was_in d.men m x.2) [
        | inl y ↦ absurd (true≢false (sym y.0 ∙ w))
        | inr u ↦ elim u [
          | inl y ↦ inl (from_square m, from_below m, (let n = at_to m 0 d.men.king y.1 y.2 in omega (arith, n)))
          | inr y ↦ inr (from_square m, from_below m, (let n = at_to m 1 d.men.piece y.1 y.2 in omega (arith, n)))
        ]
      ]
    ])

-- where black is to move no man has been taken
pub black_piece : (d : PawnBoard) → legal d ≡ true → d.men.white_moves ≡ false → d.men.piece < 64
black_piece d l w =
    let most = piece_most d l in
    elim (cases_Bool (eqb d.men.piece 64)) [
      | inl e ↦ absurd (true≢false (sym (white_with d l (eqb-true (tier d) 0 (sym (off_with d.kind d.men l) ∙ e))) ∙ w))
      | inr e ↦ grind (arith, nat_tests, most, e)
    ]

pub promoted_earlier : (d : PawnBoard) → legal d ≡ true → d.men.white_moves ≡ false → tier d < 5
    → AreCandidates (can_have_led_here 5 d) (move_number_bound 5) (one (row (4096 * (tier d + 2) + d.men.piece) 64))
promoted_earlier d l w s =
    let piece = black_piece d l w in
    let n = bound_pawn in
    one_run (can_have_led_here 5 d) (move_number_bound 5) (row (4096 * (tier d + 2) + d.men.piece) 64) (omega arith) (λ j k h e. omega (arith, h))
    (λ k h. omega (arith, h, piece, s, n))
    (λ m h e. elim (led_in 5 d m e) [
      | inl x ↦ (from_square m, from_below m, (let n = at_to m (tier d + 2) d.men.piece x.becomes x.to in omega (arith, n)))
      | inr x ↦ absurd (elim x.1 [
        | inl z ↦ true≢false (sym (white_with d l z) ∙ w)
        | inr z ↦ omega (arith, s, z)
      ])
    ])

-- the same with the tier in the words of code
pub pawn_earlier : (t own : ℕ) (d : PawnBoard) → legal d ≡ true → d.men.white_moves ≡ false → own ≡ tier d → t ≡ 5 → own ≢ t
    → AreCandidates (can_have_led_here t d) (move_number_bound t) (one (row (4096 * (own + 2) + d.men.piece) 64))
pawn_earlier t own d l w e f n =
    let small = tier_small d.kind in
    subst (λ (t : ℕ). AreCandidates (can_have_led_here t d) (move_number_bound t) (one (row (4096 * (own + 2) + d.men.piece) 64))) (sym f)
    (subst (λ (k : ℕ). AreCandidates (can_have_led_here 5 d) (move_number_bound 5) (one (row (4096 * (k + 2) + d.men.piece) 64))) (sym e)
    (promoted_earlier d l w (less (tier d) small (λ z. n (e ∙ z ∙ sym f)))))
  where
    less : (k : ℕ) → k < 6 → k ≢ 5 → k < 5
    less k l n = grind (arith, l, n)

pub none_earlier : (t : ℕ) (d : PawnBoard) → legal d ≡ true → d.men.white_moves ≡ false → t ≢ 5 → tier d ≢ t
    → AreCandidates (can_have_led_here t d) (move_number_bound t) (one (record { first = 0; step = 1; count = 0 }))
none_earlier t d l w n s =
    one_run (can_have_led_here t d) (move_number_bound t) (record { first = 0; step = 1; count = 0 }) (omega arith) (λ j k h e. absurd (omega (arith, e)))
    (λ k h. absurd (omega (arith, h)))
    (λ m h e. elim (led_in t d m e) [
      | inl x ↦ absurd (n x.at)
      | inr x ↦ absurd (elim x.1 [ inl z ↦ true≢false (sym (white_with d l z) ∙ w) | inr z ↦ s z ])
    ])

-- ---- the lists are short
pub moves_few : (b : PawnBoard) → legal b ≡ true → length (filter (can_move b) (range_with_len 0 (move_number_bound (tier b)))) ≤ 128
moves_few b l = elim (cases_Bool b.men.white_moves) [
  | inr w ↦ (let t = tried_few (can_move b) (move_number_bound (tier b)) _ (black_tried b l w) in omega (arith, t))
  | inl w ↦ elim (cases_eq (tier b) 5) [
    | inr n ↦ (let t = tried_few (can_move b) (move_number_bound (tier b)) _ (white_tried b l w (λ e. absurd (n e))) in omega (arith, t))
    | inl e ↦ elim (cases_eq (b.men.piece / 8) 6) [
      | inl r ↦ (let t = tried_few (can_move b) (move_number_bound (tier b)) _ (promotions_tried b l w e r) in omega (arith, t))
      | inr n ↦ (let t = tried_few (can_move b) (move_number_bound (tier b)) _ (white_tried b l w (λ i. n)) in omega (arith, t))
    ]
  ]
]

-- the last case is that of a pawn's board and another tier's, or of this and another
pub befores_few : (t : ℕ) (d : PawnBoard) → legal d ≡ true → length (filter (can_have_led_here t d) (range_with_len 0 (move_number_bound t))) ≤ 128
befores_few t d l = elim (cases_Bool d.men.white_moves) [
  | inl w ↦ (let z = tried_few (can_have_led_here t d) (move_number_bound t) _ (white_earlier t d l w) in omega (arith, z))
  | inr w ↦ elim (cases_eq (tier d) t) [
    | inl s ↦ (let z = tried_few (can_have_led_here t d) (move_number_bound t) _ (same_earlier t d l w s) in omega (arith, z))
    | inr s ↦ elim (cases_eq t 5) [
      | inl e ↦ (
          let small = tier_small d.kind in
          subst (λ (t : ℕ). length (filter (can_have_led_here t d) (range_with_len 0 (move_number_bound t))) ≤ 128) (sym e)
          (let z = tried_few (can_have_led_here 5 d) (move_number_bound 5) _ (promoted_earlier d l w (omega (arith, small, s, e))) in omega (arith, z)))
      | inr n ↦ (let z = tried_few (can_have_led_here t d) (move_number_bound t) _ (none_earlier t d l w n s) in omega (arith, z))
    ]
  ]
]
