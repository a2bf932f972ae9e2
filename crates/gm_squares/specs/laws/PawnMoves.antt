-- The laws of moves of king and pawn against king: a move preserves legality and can be taken back, and the lists are short.
use Rattle.std.specs.Prelude.{◌≡◌, ◌-◌, ◌<◌, ◌≤◌, ◌∷◌, ◌⊎◌, ◌||◌, if◌then◌else◌}
use Rattle.gm_pieces.specs.Common.{ℕ, Bool, true, false, not, eqb, eqb-true, eq-eqb, leb, le-leb, List, [], length, refl, sym, ap, ◌∙◌, subst, arith, inl, inr, cases_Bool, true≢false, and_both, cond_both, lone_in, Contains, None, IsAscending, IsPaddedText, IsMoveGame, steps, or_cases, contains_range, range_below, range_with_len}
use Rattle.gm_pieces.specs.MoveGames.{IsMove}
use Rattle.gm_squares.specs.declared.men.Men.{Men}
use Rattle.gm_squares.specs.declared.pawns.WhiteMan.{WhiteMan}
use Rattle.gm_squares.specs.declared.pawns.WhiteMan.TheVariants.{Taken, Queen, Rook, Bishop, Knight, Pawn}
use Rattle.gm_squares.specs.declared.pawns.PawnBoard.{PawnBoard}
use Rattle.gm_squares.specs.Squares.{goes_on_board, beside}
use Rattle.gm_squares.specs.Chess.{legal as men_legal, king_attacks, ray, reaches, man, from_square, to_square, piece_gone, piece_back, moved as men_moved, undo as men_undo, can_have_led_here as men_led}
use Rattle.gm_squares.specs.Kpk.{kpk, kpk_name, kpk_start, legal_with, legal, pawn_attacks, can_move_with, tier_with, man_at_tier, tier, promoted, left_of, moved, can_have_led_here, undo, end_with, child_tiers}
use Rattle.gm_squares.specs.laws.MenFacts.{if_true, if_false, same_men, move_in, undone as men_undone, redone as men_redone}
use Rattle.gm_squares.specs.laws.PawnFacts.{IsGoing, IsPromotion, placed_with, off_with, man_back, same_kind, same_boards, move_with, pawn_move_in, going_man}
use Rattle.gm_squares.specs.laws.PawnAfter.{promoted_tier, queen_moved, rook_moved, pawn_moved, promotion_legal}
use Rattle.gm_squares.specs.laws.PawnTried.{HasPromoted, led_in, man_most, bound_most, moves_few, befores_few}

-- ---- after a move
-- the board after a move of a man that stays what it is, and after that of a pawn which becomes another man
pub moved_plain : (b : PawnBoard) (m : ℕ) → leb 3 (man m) ≡ false → moved b m ≡ record { kind = left_of b.kind (men_moved b.men m); men = men_moved b.men m }
unfolding moved
moved_plain b m e = rw e refl

pub moved_promoted : (b : PawnBoard) (m : ℕ) → leb 3 (man m) ≡ true → moved b m ≡ record { kind = promoted (man m); men = piece_gone b.men (to_square m) }
unfolding moved
moved_promoted b m e = rw e refl

plain_legal : (b : PawnBoard) (m : ℕ) → leb 3 (man m) ≡ false → legal_with (left_of b.kind (men_moved b.men m)) (men_moved b.men m) ≡ true → legal (moved b m) ≡ true
plain_legal b m e l = ap legal (moved_plain b m e) ∙ l

legal_after : (k : WhiteMan) (b : Men) (m : ℕ) → legal_with k b ≡ true → can_move_with k b m ≡ true → leb 3 (man m) ≡ false
    → legal_with (left_of k (men_moved b m)) (men_moved b m) ≡ true
unfolding can_move_with
legal_after Taken b m l e n = absurd (true≢false (sym e))
legal_after Bishop b m l e n = absurd (true≢false (sym e))
legal_after Knight b m l e n = absurd (true≢false (sym e))
legal_after Queen b m l e n = queen_moved b m l (move_in true b m e)
legal_after Rook b m l e n = rook_moved b m l (move_in false b m e)
legal_after Pawn b m l e n = pawn_moved b m l n (pawn_move_in b m e)

moved_legal : (b : PawnBoard) (m : ℕ) → legal b ≡ true → IsMove kpk b m → legal (moved b m) ≡ true
moved_legal b m l h = elim (move_with b.kind b.men m h.can) [
  | inl v ↦ (let n = going_man b.men m v in plain_legal b m n (legal_after b.kind b.men m l h.can n))
  | inr v ↦ (
      let few = man_most m (let z = h.below in let y = bound_most (tier b) in omega (arith, z, y)) in
      ap legal (moved_promoted b m (le-leb _ _ v.1.becomes))
      ∙ promotion_legal b.men m (ap (λ (k : WhiteMan). legal_with k b.men) (sym v.0) ∙ l) few v.1)
]

-- ---- tiers
-- the tier after a move: the same, or that of bare kings, or what a pawn becomes
pub left_tier : (k : WhiteMan) (b : Men) → (tier_with (left_of k b) ≡ tier_with k) ⊎ (tier_with (left_of k b) ≡ 0)
unfolding tier_with
left_tier k b = elim (cases_Bool (eqb b.piece 64)) [
  | inl e ↦ inr (ap tier_with (if_true (eqb b.piece 64) Taken k e))
  | inr e ↦ inl (ap tier_with (if_false (eqb b.piece 64) Taken k e))
]

goes_on_with : (k : WhiteMan) → end_with k ≡ None → Contains (child_tiers (tier_with k)) 0
unfolding end_with tier_with child_tiers
goes_on_with Taken e = absurd (let z : ⊥ = cc in z)
goes_on_with Bishop e = absurd (let z : ⊥ = cc in z)
goes_on_with Knight e = absurd (let z : ⊥ = cc in z)
goes_on_with Queen e = (0, omega arith, refl)
goes_on_with Rook e = (0, omega arith, refl)
goes_on_with Pawn e = (0, omega arith, refl)

pawn_tier : tier_with Pawn ≡ 5
unfolding tier_with
pawn_tier = refl

-- the child tiers of the pawn's tier
pawn_children : child_tiers 5 ≡ range_with_len 0 5
unfolding child_tiers
pawn_children = refl

moved_tier : (b : PawnBoard) (m : ℕ) → IsMove kpk b m → (tier (moved b m) ≡ tier b) ⊎ Contains (child_tiers (tier b)) (tier (moved b m))
moved_tier b m h = elim (move_with b.kind b.men m h.can) [
  | inl v ↦ (
      let is = ap tier (moved_plain b m (going_man b.men m v)) in
      elim (left_tier b.kind (men_moved b.men m)) [
        | inl e ↦ inl (is ∙ e)
        | inr e ↦ inr (subst (Contains (child_tiers (tier b))) (sym (is ∙ e)) (goes_on_with b.kind h.not_over))
      ])
  | inr v ↦ (
      let few = man_most m (let z = h.below in let y = bound_most (tier b) in omega (arith, z, y)) in
      let low = v.1.becomes in
      let is = ap tier (moved_promoted b m (le-leb _ _ low)) ∙ promoted_tier (man m) low few in
      let five : tier b ≡ 5 = ap tier_with v.0 ∙ pawn_tier in
      inr (subst (λ (t : ℕ). Contains (child_tiers t) (tier (moved b m))) (sym five)
      (subst (λ (ts : List ℕ). Contains ts (tier (moved b m))) (sym pawn_children)
      (subst (Contains (range_with_len 0 5)) (sym is) (contains_range 5 (man m - 2) (omega (arith, low, few)))))))
]

child_rank : (t u : ℕ) → Contains (child_tiers t) u → u < t
unfolding child_tiers
child_rank t u c = elim (cases_Bool (eqb t 5)) [
  | inl e ↦ (
      let f = eqb-true t 5 e in
      let d : Contains (range_with_len 0 5) u = subst (λ (t : ℕ). Contains (child_tiers t) u) f c in
      let l = range_below 5 u d in
      omega (arith, f, l))
  | inr e ↦ (
      let d : Contains (if eqb t 1 || eqb t 2 then 0 ∷ [] else []) u = subst (λ (x : Bool). Contains (if x then 0 ∷ 1 ∷ 2 ∷ 3 ∷ 4 ∷ [] else (if eqb t 1 || eqb t 2 then 0 ∷ [] else [])) u) e c in
      let h = lone_in (eqb t 1 || eqb t 2) 0 u d in
      let z = h.1 in
      elim (or_cases (eqb t 1) (eqb t 2) h.0) [
        | inl f ↦ (let i = eqb-true t 1 f in omega (arith, i, z))
        | inr f ↦ (let i = eqb-true t 2 f in omega (arith, i, z))
      ])
]

-- a fact about all lists of child tiers
each_list : (P : List ℕ → Type 0) → P (0 ∷ 1 ∷ 2 ∷ 3 ∷ 4 ∷ []) → P (0 ∷ []) → P [] → (t : ℕ) → P (child_tiers t)
unfolding child_tiers
each_list P p q r t =
    cond_both (eqb t 5) (0 ∷ 1 ∷ 2 ∷ 3 ∷ 4 ∷ []) (if eqb t 1 || eqb t 2 then 0 ∷ [] else []) P (λ e. p)
    (λ e. cond_both (eqb t 1 || eqb t 2) (0 ∷ []) [] P (λ f. q) (λ f. r))

-- ---- moves back
-- the man on the board after a move that is taken back
led_plain : (t : ℕ) (d : PawnBoard) (m : ℕ) → leb 3 (man m) ≡ false → ((tier d ≡ 0) ⊎ (tier d ≡ t)) → men_led d.men m ≡ true → can_have_led_here t d m ≡ true
unfolding can_have_led_here
led_plain t d m e o l =
    if_false (leb 3 (man m)) _ _ e
    ∙ and_both _ _ (elim o [ inl z ↦ (let i = eq-eqb (tier d) 0 z in rw i refl) | inr z ↦ (let i = eq-eqb (tier d) t z in rw i (or_true (eqb (tier d) 0))) ]) l
  where
    or_true : (x : Bool) → (x || true) ≡ true
    or_true true = refl
    or_true false = refl

undo_plain : (t : ℕ) (d : PawnBoard) (m : ℕ) → leb 3 (man m) ≡ false → undo t d m ≡ record { kind = man_at_tier t; men = men_undo d.men m }
unfolding undo
undo_plain t d m e = rw e refl

undo_promoted : (t : ℕ) (d : PawnBoard) (m : ℕ) → leb 3 (man m) ≡ true → undo t d m ≡ record { kind = Pawn; men = piece_back d.men (from_square m) }
unfolding undo
undo_promoted t d m e = rw e refl

abbrev IsUndone : PawnBoard → ℕ → PawnBoard → Type 0
IsUndone b m d = (can_have_led_here (tier b) d m ≡ true) × (undo (tier b) d m ≡ b)

undone_plain : (b : PawnBoard) (m : ℕ) → eqb b.men.piece 64 ≡ false → IsGoing b.men m
    → IsUndone b m (record { kind = left_of b.kind (men_moved b.men m); men = men_moved b.men m })
undone_plain b m n v =
    let d : PawnBoard = record { kind = left_of b.kind (men_moved b.men m); men = men_moved b.men m } in
    let e = going_man b.men m v in
    let back = men_undone _ _ _ b.men m n v in
    let stays : (tier d ≡ 0) ⊎ (tier d ≡ tier b) = elim (left_tier b.kind (men_moved b.men m)) [ inl z ↦ inr z | inr z ↦ inl z ] in (
      led_plain (tier b) d m e stays back.0,
      undo_plain (tier b) d m e ∙ same_boards _ b (man_back b.kind) back.1,
    )

led_promoted : (d : PawnBoard) (m : ℕ) → HasPromoted 5 d m → can_have_led_here 5 d m ≡ true
unfolding can_have_led_here
led_promoted d m h =
    if_true (leb 3 (man m)) _ _ (le-leb _ _ h.low)
    ∙ and_both _ _ (ap not h.side) (and_both _ _ (eq-eqb _ _ h.becomes) (and_both _ _ (eq-eqb _ _ h.to) (eq-eqb _ _ h.from)))

undone_promoted : (b : PawnBoard) (m : ℕ) → b.kind ≡ Pawn → man m ≤ 6 → IsPromotion b.men m → tier b ≡ 5
    → IsUndone b m (record { kind = promoted (man m); men = piece_gone b.men (to_square m) })
undone_promoted b m k few h five =
    let d : PawnBoard = record { kind = promoted (man m); men = piece_gone b.men (to_square m) } in
    let low = h.becomes in
    let t = promoted_tier (man m) low few in
    let from = h.from in
    let to = h.to in
    let was : HasPromoted 5 d m =
    record { at = refl; side = refl; low = low; becomes = omega (arith, low, t); to = refl; from = omega (arith, from, to) } in (
      ap (λ (t : ℕ). can_have_led_here t d m) five ∙ led_promoted d m was,
      undo_promoted (tier b) d m (le-leb _ _ low)
          ∙ same_boards _ b (sym k) (same_men (piece_back (piece_gone b.men (to_square m)) (from_square m)) b.men (sym h.side) refl from refl),
    )

five_with : (k : WhiteMan) → k ≡ Pawn → tier_with k ≡ 5
unfolding tier_with
five_with k e = ap tier_with e

not_taken : (k : WhiteMan) → end_with k ≡ None → eqb (tier_with k) 0 ≡ false
unfolding end_with tier_with
not_taken Taken e = absurd (let z : ⊥ = cc in z)
not_taken Bishop e = absurd (let z : ⊥ = cc in z)
not_taken Knight e = absurd (let z : ⊥ = cc in z)
not_taken Queen e = refl
not_taken Rook e = refl
not_taken Pawn e = refl

undone : (b : PawnBoard) (m : ℕ) → legal b ≡ true → IsMove kpk b m → IsUndone b m (moved b m)
undone b m l h = elim (move_with b.kind b.men m h.can) [
  | inl v ↦ subst (IsUndone b m) (sym (moved_plain b m (going_man b.men m v)))
      (undone_plain b m (off_with b.kind b.men l ∙ not_taken b.kind h.not_over) v)
  | inr v ↦ (
      let few = man_most m (let z = h.below in let y = bound_most (tier b) in omega (arith, z, y)) in
      subst (IsUndone b m) (sym (moved_promoted b m (le-leb _ _ v.1.becomes))) (undone_promoted b m v.0 few v.1 (five_with b.kind v.0)))
]

-- a man that is on the board before is the same, or has been taken
left_is : (t : ℕ) (d : PawnBoard) → legal d ≡ true → ((tier d ≡ 0) ⊎ (tier d ≡ t)) → left_of (man_at_tier t) d.men ≡ d.kind
unfolding tier_with
left_is t d l o = elim (cases_Bool (eqb d.men.piece 64)) [
  | inl e ↦ if_true (eqb d.men.piece 64) Taken (man_at_tier t) e ∙ same_kind Taken d.kind (sym (eqb-true (tier d) 0 (sym (off_with d.kind d.men l) ∙ e)))
  | inr e ↦ if_false (eqb d.men.piece 64) Taken (man_at_tier t) e ∙ elim o [
    | inl z ↦ absurd (true≢false (sym (off_with d.kind d.men l ∙ eq-eqb _ _ z) ∙ e))
    | inr z ↦ ap man_at_tier (sym z) ∙ man_back d.kind
  ]
]

redone : (t : ℕ) (d : PawnBoard) (m : ℕ) → legal d ≡ true → can_have_led_here t d m ≡ true → moved (undo t d m) m ≡ d
redone t d m l e = elim (led_in t d m e) [
  | inl h ↦ (
      let p = le-leb _ _ h.low in
      let b : PawnBoard = record { kind = Pawn; men = piece_back d.men (from_square m) } in
      let becomes = h.becomes in
      let tier_is : man m - 2 ≡ tier d = omega (arith, becomes) in
      ap (λ (b : PawnBoard). moved b m) (undo_promoted t d m p) ∙ moved_promoted b m p
      ∙ same_boards _ d (ap man_at_tier tier_is ∙ man_back d.kind) (same_men (piece_gone (piece_back d.men (from_square m)) (to_square m)) d.men (sym h.side) refl h.to refl))
  | inr h ↦ (
      let b : PawnBoard = record { kind = man_at_tier t; men = men_undo d.men m } in
      let back = men_redone d.men m (placed_with d.kind d.men l).apart h.2 in
      ap (λ (b : PawnBoard). moved b m) (undo_plain t d m h.0) ∙ moved_plain b m h.0
      ∙ same_boards _ d (ap (left_of (man_at_tier t)) back ∙ left_is t d l h.1) back)
]

-- ---- the laws
name_text : (length kpk_name ≡ 16) × IsPaddedText kpk_name
name_text = (refl, refl)

start_legal : legal kpk_start ≡ true
unfolding legal_with men_legal king_attacks pawn_attacks ray reaches goes_on_board beside
start_legal = refl

ascending : IsAscending (0 ∷ 1 ∷ 2 ∷ 3 ∷ 4 ∷ [])
ascending = (omega arith, (omega arith, (omega arith, (omega arith, tt))))

pub lawful : IsMoveGame kpk
unfolding steps
lawful = record {
  name_length = name_text.0;
  name_text = name_text.1;
  start_legal = start_legal;
  numbers_fit = λ t. let n = bound_most t in omega (arith, n);
  moved_legal = moved_legal;
  moved_tier = λ b m l h. moved_tier b m h;
  child_rank = child_rank;
  child_tiers_ascending = each_list IsAscending ascending tt tt;
  undone = undone;
  redone = λ t d m l w k e h. redone t d m l w;
  moves_few = moves_few;
  befores_few = befores_few;
  child_tiers_few = each_list (λ (xs : List ℕ). length xs ≤ 16) (omega arith) (omega arith) (omega arith);
}
