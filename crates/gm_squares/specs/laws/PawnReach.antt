-- The squares among which those are that a man of a board with a pawn goes to, or has come from: no other needs a test.
use Rattle.std.specs.Prelude.{◌≡◌, ◌≢◌, ◌+◌, ◌*◌, ◌/◌, ◌<◌, ◌&&◌, ◌||◌, ◌⊎◌}
use Rattle.gm_pieces.specs.Common.{ℕ, Bool, true, false, not, eqb, eqb-true, eq-eqb, refl, sym, ap, ap₂, ◌∙◌, subst, arith, inl, inr, true≢false, and_left, and_right, or_cases, has_cell}
use Rattle.gm_pieces.specs.MoveGames.{is_undecided}
use Rattle.gm_pieces.specs.declared.candidates.Run.{Run}
use Rattle.gm_pieces.specs.inner.Marking.{leads_here}
use Rattle.gm_pieces.specs.inner.Tried.{run_at}
use Rattle.gm_squares.specs.declared.men.Men.{Men}
use Rattle.gm_squares.specs.declared.pawns.WhiteMan.{WhiteMan}
use Rattle.gm_squares.specs.declared.pawns.WhiteMan.TheVariants.{Taken, Queen, Rook, Bishop, Knight, Pawn}
use Rattle.gm_squares.specs.declared.pawns.PawnBoard.{PawnBoard}
use Rattle.gm_squares.specs.Chess.{king_attacks, man, from_square, to_square, can_move as men_can_move}
use Rattle.gm_squares.specs.Kpk.{kpk, legal, is_free, can_move, can_move_with, can_move_with_pawn, tier, man_at_tier, can_have_led_here, undo, end_with}
use Rattle.gm_squares.specs.inner.Runs.{row}
use Rattle.gm_squares.specs.laws.AttackFacts.{king_mutual}
use Rattle.gm_squares.specs.laws.MenFacts.{move_in}
use Rattle.gm_squares.specs.laws.MenMasks.{parts}
use Rattle.gm_squares.specs.laws.PawnFacts.{pawn_move_in, white_with}
use Rattle.gm_squares.specs.laws.PawnTried.{led_in}

-- the places of a run whose numbers pass a test are in a mask
abbrev pub IsAmong : (ℕ → Bool) → Run → ℕ → Type 0
IsAmong p r a = (k : ℕ) → k < r.count → p (run_at r k) ≡ true → has_cell a k ≡ true

-- ---- steps
-- a king goes to a square next to its own
men_steps : (q : Bool) (b : Men) (m : ℕ) → men_can_move q b m ≡ true → man m ≢ 1 → king_attacks (from_square m) (to_square m) ≡ true
men_steps q b m e n = elim (move_in q b m e) [
  | inl k ↦ ap (λ (a : ℕ). king_attacks a (to_square m)) k.from ∙ and_left _ _ k.can
  | inr u ↦ elim u [
    | inl k ↦ absurd (n k.is)
    | inr k ↦ ap (λ (a : ℕ). king_attacks a (to_square m)) k.from ∙ and_left _ _ k.can
  ]
]

beside_pawn : (b : Men) (m : ℕ) → can_move_with_pawn b m ≡ true → man m ≢ 1 → man m < 3 → king_attacks (from_square m) (to_square m) ≡ true
beside_pawn b m e n l = elim (pawn_move_in b m e) [
  | inl k ↦ ap (λ (a : ℕ). king_attacks a (to_square m)) k.from ∙ and_left _ _ k.can
  | inr u ↦ elim u [
    | inl k ↦ absurd (n k.is)
    | inr v ↦ elim v [
      | inl k ↦ ap (λ (a : ℕ). king_attacks a (to_square m)) k.from ∙ and_left _ _ k.can
      | inr k ↦ absurd (let z = k.becomes in omega (arith, l, z))
    ]
  ]
]

pub king_steps : (k : WhiteMan) (b : Men) (m : ℕ) → can_move_with k b m ≡ true → man m ≢ 1 → man m < 3 → king_attacks (from_square m) (to_square m) ≡ true
unfolding can_move_with
king_steps Taken b m e n l = absurd (true≢false (sym e))
king_steps Bishop b m e n l = absurd (true≢false (sym e))
king_steps Knight b m e n l = absurd (true≢false (sym e))
king_steps Queen b m e n l = men_steps true b m e n
king_steps Rook b m e n l = men_steps false b m e n
king_steps Pawn b m e n l = beside_pawn b m e n l

-- a pawn goes one or two rows up
pawn_steps : (b : Men) (m : ℕ) → can_move_with_pawn b m ≡ true → man m ≡ 1 → (to_square m ≡ from_square m + 8) ⊎ (to_square m ≡ from_square m + 16)
pawn_steps b m e one = elim (pawn_move_in b m e) [
  | inl k ↦ absurd (let z = k.is in omega (arith, one, z))
  | inr u ↦ elim u [
    | inl k ↦ (
        let c = to_square m in
        let far = eqb (b.piece / 8) 1 && (eqb c (b.piece + 16) && is_free b (b.piece + 8)) in
        let steps = eqb c (b.piece + 8) || far in
        let f = and_right (not (eqb (b.piece / 8) 6)) (is_free b c && steps) k.can in
        let from = k.from in
        elim (or_cases (eqb c (b.piece + 8)) far (and_right (is_free b c) steps f)) [
          | inl g ↦ inl (let z = eqb-true c (b.piece + 8) g in omega (arith, z, from))
          | inr g ↦ inr (
              let z = eqb-true c (b.piece + 16) (and_left (eqb c (b.piece + 16)) (is_free b (b.piece + 8)) (and_right (eqb (b.piece / 8) 1) _ g)) in
              omega (arith, z, from))
        ])
    | inr v ↦ elim v [
      | inl k ↦ absurd (let z = k.is in omega (arith, one, z))
      | inr k ↦ absurd (let z = k.becomes in omega (arith, one, z))
    ]
  ]
]

with_pawn : (k : WhiteMan) (b : Men) (m : ℕ) → k ≡ Pawn → can_move_with k b m ≡ true → can_move_with_pawn b m ≡ true
unfolding can_move_with
with_pawn k b m e can = ap (λ (k : WhiteMan). can_move_with k b m) (sym e) ∙ can

-- ---- moves
pub white_king_among : (b : PawnBoard) (s : Run) (a : ℕ) → s ≡ row (64 * b.men.king) 1 → b.men.king < 64
    → ((k : ℕ) → k < 64 → has_cell a k ≡ king_attacks b.men.king k) → IsAmong (can_move b) s a
white_king_among b s a e king h =
    subst (λ (r : Run). IsAmong (can_move b) r a) (sym e)
    (λ k l can. (
    let n = parts (64 * b.men.king + 1 * k) 0 b.men.king k king l (omega arith) in
    let i = n.is_man in
    h k l ∙ sym (ap₂ king_attacks n.from n.to) ∙ king_steps b.kind b.men (64 * b.men.king + 1 * k) can (λ z. omega (arith, i, z)) (omega (arith, i))))

pub black_king_among : (b : PawnBoard) (s : Run) (a : ℕ) → s ≡ row (8192 + 64 * b.men.foe) 1 → b.men.foe < 64
    → ((k : ℕ) → k < 64 → has_cell a k ≡ king_attacks b.men.foe k) → IsAmong (can_move b) s a
black_king_among b s a e foe h =
    subst (λ (r : Run). IsAmong (can_move b) r a) (sym e)
    (λ k l can. (
    let n = parts (8192 + 64 * b.men.foe + 1 * k) 2 b.men.foe k foe l (omega arith) in
    let i = n.is_man in
    h k l ∙ sym (ap₂ king_attacks n.from n.to) ∙ king_steps b.kind b.men (8192 + 64 * b.men.foe + 1 * k) can (λ z. omega (arith, i, z)) (omega (arith, i))))

pub pawn_among : (b : PawnBoard) (s : Run) (a : ℕ) → s ≡ row (4096 + 64 * b.men.piece) 1 → b.kind ≡ Pawn → b.men.piece < 64
    → ((k : ℕ) → k < 64 → has_cell a k ≡ (eqb k (b.men.piece + 8) || eqb k (b.men.piece + 16))) → IsAmong (can_move b) s a
pawn_among b s a e pawn piece h =
    subst (λ (r : Run). IsAmong (can_move b) r a) (sym e)
    (λ k l can. (
    let m = 4096 + 64 * b.men.piece + 1 * k in
    let n = parts m 1 b.men.piece k piece l (omega arith) in
    let from = n.from in
    let to = n.to in
    h k l ∙ elim (pawn_steps b.men m (with_pawn b.kind b.men m pawn can) n.is_man) [
      | inl z ↦ either_left (eqb k (b.men.piece + 8)) (eqb k (b.men.piece + 16)) (eq-eqb _ _ (omega (arith, z, from, to)))
      | inr z ↦ either_right (eqb k (b.men.piece + 8)) (eqb k (b.men.piece + 16)) (eq-eqb _ _ (omega (arith, z, from, to)))
    ]))
  where
    either_left : (x y : Bool) → x ≡ true → (x || y) ≡ true
    either_left x y e = rw e refl

    either_right : (x y : Bool) → y ≡ true → (x || y) ≡ true
    either_right true y e = refl
    either_right false y e = e

-- ---- moves back
was_can : (t : ℕ) (d : PawnBoard) (m : ℕ) → leads_here kpk t d m ≡ true → can_move (undo t d m) m ≡ true
was_can t d m e =
    let goes = and_right (can_have_led_here t d m) _ e in
    let u = and_right (eqb (tier (undo t d m)) t) _ (and_right (legal (undo t d m)) _ goes) in
    and_right (is_undecided (end_with (undo t d m).kind)) _ u

pub foe_back_among : (t : ℕ) (d : PawnBoard) (s : Run) (a : ℕ) → s ≡ row (8192 + d.men.foe) 64 → d.men.foe < 64
    → ((k : ℕ) → k < 64 → has_cell a k ≡ king_attacks d.men.foe k) → IsAmong (leads_here kpk t d) s a
foe_back_among t d s a e foe h =
    subst (λ (r : Run). IsAmong (leads_here kpk t d) r a) (sym e)
    (λ k l led. (
    let m = 8192 + d.men.foe + 64 * k in
    let n = parts m 2 k d.men.foe l foe (omega arith) in
    let i = n.is_man in
    h k l ∙ king_mutual d.men.foe k foe l ∙ sym (ap₂ king_attacks n.from n.to)
    ∙ king_steps (undo t d m).kind (undo t d m).men m (was_can t d m led) (λ z. omega (arith, i, z)) (omega (arith, i))))

pub king_back_among : (t : ℕ) (d : PawnBoard) (s : Run) (a : ℕ) → s ≡ row d.men.king 64 → d.men.king < 64
    → ((k : ℕ) → k < 64 → has_cell a k ≡ king_attacks d.men.king k) → IsAmong (leads_here kpk t d) s a
king_back_among t d s a e king h =
    subst (λ (r : Run). IsAmong (leads_here kpk t d) r a) (sym e)
    (λ k l led. (
    let m = d.men.king + 64 * k in
    let n = parts m 0 k d.men.king l king (omega arith) in
    let i = n.is_man in
    h k l ∙ king_mutual d.men.king k king l ∙ sym (ap₂ king_attacks n.from n.to)
    ∙ king_steps (undo t d m).kind (undo t d m).men m (was_can t d m led) (λ z. omega (arith, i, z)) (omega (arith, i))))

undone_kind : (d : PawnBoard) (m : ℕ) → man m ≡ 1 → (undo 5 d m).kind ≡ Pawn
unfolding undo man_at_tier
undone_kind d m e = rw e refl

pub pawn_back_among : (t : ℕ) (d : PawnBoard) (s : Run) (a : ℕ) → s ≡ row (4096 + d.men.piece) 64 → t ≡ 5 → d.men.piece < 64
    → ((k : ℕ) → k < 64 → has_cell a k ≡ (eqb (k + 8) d.men.piece || eqb (k + 16) d.men.piece)) → IsAmong (leads_here kpk t d) s a
pawn_back_among t d s a e five piece h =
    subst (λ (t : ℕ). IsAmong (leads_here kpk t d) s a) (sym five)
    (subst (λ (r : Run). IsAmong (leads_here kpk 5 d) r a) (sym e)
    (λ k l led. (
    let m = 4096 + d.men.piece + 64 * k in
    let n = parts m 1 k d.men.piece l piece (omega arith) in
    let from = n.from in
    let to = n.to in
    h k l ∙ elim (pawn_steps (undo 5 d m).men m (with_pawn (undo 5 d m).kind (undo 5 d m).men m (undone_kind d m n.is_man) (was_can 5 d m led)) n.is_man) [
      | inl z ↦ either_left (eqb (k + 8) d.men.piece) (eqb (k + 16) d.men.piece) (eq-eqb _ _ (omega (arith, z, from, to)))
      | inr z ↦ either_right (eqb (k + 8) d.men.piece) (eqb (k + 16) d.men.piece) (eq-eqb _ _ (omega (arith, z, from, to)))
    ])))
  where
    either_left : (x y : Bool) → x ≡ true → (x || y) ≡ true
    either_left x y e = rw e refl

    either_right : (x y : Bool) → y ≡ true → (x || y) ≡ true
    either_right true y e = refl
    either_right false y e = e

pub promoted_among : (t own : ℕ) (d : PawnBoard) (s : Run) (a : ℕ) → legal d ≡ true → d.men.white_moves ≡ false → s ≡ row (4096 * (own + 2) + d.men.piece) 64
    → own ≡ tier d → own ≢ t → d.men.piece < 64 → ((k : ℕ) → k < 64 → has_cell a k ≡ eqb (k + 8) d.men.piece) → IsAmong (leads_here kpk t d) s a
promoted_among t own d s a lawful w e same other piece h =
    subst (λ (r : Run). IsAmong (leads_here kpk t d) r a) (sym e)
    (λ k l led. (
    let m = 4096 * (own + 2) + d.men.piece + 64 * k in
    let n = parts m (own + 2) k d.men.piece l piece (omega arith) in
    let from = n.from in
    let to = n.to in
    h k l ∙ elim (led_in t d m (and_left _ _ led)) [
      | inl x ↦ (let z = x.from in eq-eqb (k + 8) d.men.piece (omega (arith, z, from, to)))
      | inr x ↦ absurd (elim x.1 [
        | inl z ↦ true≢false (sym (white_with d lawful z) ∙ w)
        | inr z ↦ other (same ∙ z)
      ])
    ]))
