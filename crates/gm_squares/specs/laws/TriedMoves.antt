-- The numbers that are tried: a man's moves from its square, and to it.
use Rattle.std.specs.Prelude.{◌≡◌, ◌+◌, ◌≤◌, ◌*◌}
use Rattle.gm_pieces.specs.Common.{ℕ, Bool, true, false, length, sym, ◌∙◌, arith, inl, inr, cases_Bool, true≢false, filter, range_with_len}
use Rattle.gm_pieces.specs.inner.Tried.{one, AreCandidates}
use Rattle.gm_pieces.specs.laws.TriedFacts.{one_run, two_runs, tried_few}
use Rattle.gm_squares.specs.declared.men.Men.{Men}
use Rattle.gm_squares.specs.Chess.{legal, man, from_square, to_square, can_move, can_have_led_here}
use Rattle.gm_squares.specs.inner.Runs.{row}
use Rattle.gm_squares.specs.laws.MenFacts.{king_below, foe_below, piece_most, piece_below, move_in, was_in, to_below, from_below}

pub at_from : (m k s : ℕ) → man m ≡ k → from_square m ≡ s → 4096 * k + 64 * s + 1 * to_square m ≡ m
unfolding man from_square to_square
at_from m k s e f = omega (arith, e, f)

pub at_to : (m k s : ℕ) → man m ≡ k → to_square m ≡ s → 4096 * k + s + 64 * from_square m ≡ m
unfolding man from_square to_square
at_to m k s e f = omega (arith, e, f)

pub white_tried : (q : Bool) (b : Men) → legal q b ≡ true → b.white_moves ≡ true
    → AreCandidates (can_move q b) 12288 (record { low = row (64 * b.king) 1; high = row (4096 + 64 * b.piece) 1 })
white_tried q b l w =
    let king = king_below q b l in
    let piece = piece_most q b l in
    two_runs (record { low = row (64 * b.king) 1; high = row (4096 + 64 * b.piece) 1 }) (can_move q b) 12288 (omega arith)
    (λ j k h e. omega (arith, h)) (λ j k h e. omega (arith, h)) (λ j k h e. omega (arith, h, king))
    (λ k h. omega (arith, h, king)) (λ k h. omega (arith, h, piece))
    (λ m h e. elim (move_in q b m e) [
      | inl k ↦ inl (to_square m, to_below m, (let n = at_from m 0 b.king k.is k.from in omega (arith, n)))
      | inr u ↦ elim u [
        | inl k ↦ inr (to_square m, to_below m, (let n = at_from m 1 b.piece k.is k.from in omega (arith, n)))
        | inr k ↦ absurd (true≢false (sym w ∙ k.side))
      ]
    ])

pub black_tried : (q : Bool) (b : Men) → legal q b ≡ true → b.white_moves ≡ false → AreCandidates (can_move q b) 12288 (one (row (8192 + 64 * b.foe) 1))
black_tried q b l w =
    let foe = foe_below q b l in
    one_run (can_move q b) 12288 (row (8192 + 64 * b.foe) 1) (omega arith) (λ j k h e. omega (arith, h)) (λ k h. omega (arith, h, foe))
    (λ m h e. elim (move_in q b m e) [
      | inl k ↦ absurd (true≢false (sym k.side ∙ w))
      | inr u ↦ elim u [
        | inl k ↦ absurd (true≢false (sym k.side ∙ w))
        | inr k ↦ (to_square m, to_below m, (let n = at_from m 2 b.foe k.is k.from in omega (arith, n)))
      ]
    ])

white_earlier : (q : Bool) (d : Men) → legal q d ≡ true → d.white_moves ≡ false
    → AreCandidates (can_have_led_here d) 12288 (record { low = row d.king 64; high = row (4096 + d.piece) 64 })
white_earlier q d l w =
    let king = king_below q d l in
    let piece = piece_below q d l w in
    two_runs (record { low = row d.king 64; high = row (4096 + d.piece) 64 }) (can_have_led_here d) 12288 (omega arith)
    (λ j k h e. omega (arith, h)) (λ j k h e. omega (arith, h)) (λ j k h e. omega (arith, h, king))
    (λ k h. omega (arith, h, king)) (λ k h. omega (arith, h, piece))
    (λ m h e. elim (was_in d m e) [
      | inl x ↦ absurd (true≢false (sym x.0 ∙ w))
      | inr u ↦ elim u [
        | inl x ↦ inl (from_square m, from_below m, (let n = at_to m 0 d.king x.1 x.2 in omega (arith, n)))
        | inr x ↦ inr (from_square m, from_below m, (let n = at_to m 1 d.piece x.1 x.2 in omega (arith, n)))
      ]
    ])

black_earlier : (q : Bool) (d : Men) → legal q d ≡ true → d.white_moves ≡ true → AreCandidates (can_have_led_here d) 12288 (one (row (8192 + d.foe) 64))
black_earlier q d l w =
    let foe = foe_below q d l in
    one_run (can_have_led_here d) 12288 (row (8192 + d.foe) 64) (omega arith) (λ j k h e. omega (arith, h)) (λ k h. omega (arith, h, foe))
    (λ m h e. elim (was_in d m e) [
      | inl x ↦ (from_square m, from_below m, (let n = at_to m 2 d.foe x.1 x.2 in omega (arith, n)))
      | inr u ↦ elim u [ inl x ↦ absurd (true≢false (sym w ∙ x.0)) | inr x ↦ absurd (true≢false (sym w ∙ x.0)) ]
    ])

-- the lists are short
pub moves_few : (q : Bool) (b : Men) → legal q b ≡ true → length (filter (can_move q b) (range_with_len 0 12288)) ≤ 128
moves_few q b l = elim (cases_Bool b.white_moves) [
  | inl w ↦ (let t = tried_few (can_move q b) 12288 _ (white_tried q b l w) in omega (arith, t))
  | inr w ↦ (let t = tried_few (can_move q b) 12288 _ (black_tried q b l w) in omega (arith, t))
]

pub befores_few : (q : Bool) (d : Men) → legal q d ≡ true → length (filter (can_have_led_here d) (range_with_len 0 12288)) ≤ 128
befores_few q d l = elim (cases_Bool d.white_moves) [
  | inl w ↦ (let t = tried_few (can_have_led_here d) 12288 _ (black_earlier q d l w) in omega (arith, t))
  | inr w ↦ (let t = tried_few (can_have_led_here d) 12288 _ (white_earlier q d l w) in omega (arith, t))
]
