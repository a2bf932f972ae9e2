-- The indexes of boards are one to one.
use Rattle.std.specs.Prelude.{◌≡◌, ◌/◌, ◌%◌, ◌^◌, ◌<◌, ◌≤◌, ◌∷◌, if◌then◌else◌}
use Rattle.gm_pieces.specs.Common.{ℕ, Bool, true, false, eqb, eqb-true, true≢false, [], min, fold, lt-ltb, and_both, cases_Bool, has_cell, at, IsCanonical, bit_at-pow_same, refl, sym, ap, ◌∙◌, subst, arith, nat_tests, inl, inr, cases_eq, pow-lt, w32, count_ones, bit_and, trailing_zeros, HasPieces, arrangement_pieces, index_of_masks, mine_again, theirs_again, mine_mask, their_mask, IsNumbered, board_game, bit_at-pow_other, bit_at-zero}
unfoldable use Rattle.gm_pieces.specs.Common.{arrangement_index, arrangements, binomial}
use Rattle.std.specs.Int.Count.{ones}
use Rattle.std.proofs.lemmas.Nat.{and_comm, one_shl, zero_from_ones}
use Rattle.gm_board.specs.Pieces.{cells_of}
use Rattle.gm_board.specs.laws.MaskChanges.{with_apart}
use Rattle.gm_board.specs.laws.NextCells.{cell_one}
use Rattle.gm_board.specs.laws.Pieces.{apart_below, pieces_index_below}
use Rattle.gm_pieces.specs.MoveGames.{move_rules}
use Rattle.gm_squares.specs.declared.chase.Chase.{Chase}
use Rattle.gm_squares.specs.FoxHounds.{fox_and_hounds, start, legal, index, board, toggled}
use Rattle.gm_squares.specs.laws.MaskFacts.{added, toggled_twice, lowest}
use Rattle.gm_squares.specs.laws.ChaseFacts.{legal_in, legal_from, same_chase}

-- ---- the mask of the fox's square
one_counted : (f : ℕ) → f < 32 → count_ones (2 ^ f) ≡ 1
unfolding ones
one_counted f l = added 0 f (omega arith) l (bit_at-zero f)

-- a mask with one square is that of a square
one_mask : (m : ℕ) → m < 2 ^ 32 → count_ones m ≡ 1 → (trailing_zeros w32 m < 32) × (2 ^ trailing_zeros w32 m ≡ m)
one_mask m l e =
    let k = trailing_zeros w32 m in
    let h = lowest m l (omega (arith, e)) in
    let n = h.fewer in
    let none : toggled m k ≡ 0 = zero_from_ones _ (omega (arith, e, n)) in
    (h.below, ap (λ (v : ℕ). toggled v k) (sym none) ∙ toggled_twice m k)

one_square : (f : ℕ) → f < 32 → trailing_zeros w32 (2 ^ f) ≡ f
one_square f l =
    let z = trailing_zeros w32 (2 ^ f) in
    let n = one_counted f l in
    let h = (lowest (2 ^ f) (pow-lt l) (omega (arith, n))).has in
    elim (cases_eq z f) [
      | inl e ↦ e
      | inr d ↦ absurd (let e = bit_at-pow_other f z d in omega (arith, e, h))
    ]

-- ---- the arrangement of the men
size_is : arrangements 32 4 1 ≡ 1006880
unfolding arrangements binomial
size_is = refl

pub men : (b : Chase) → legal b ≡ true → HasPieces 32 4 1 b.hounds (2 ^ b.fox)
men b l =
    let h = legal_in b l in
    record {
      mine_within = h.within;
      theirs_within = pow-lt h.fox;
      apart = subst (λ (m : ℕ). bit_and b.hounds m ≡ 0) (one_shl b.fox 32 h.fox) (and_comm b.hounds _ ∙ with_apart 0 b.fox b.hounds h.fox refl h.apart);
      mine_number = h.four;
      their_number = one_counted b.fox h.fox;
    }

turn : (t : Bool) → ((if t then 1 else 0) ≤ 1) × (eqb (if t then 1 else 0) 1 ≡ t)
turn true = (omega arith, refl)
turn false = (omega arith, refl)

turn_back : (n : ℕ) → n < 2 → (if eqb n 1 then 1 else 0) ≡ n
turn_back n l = grind (arith, nat_tests)

index_below : (b : Chase) → legal b ≡ true → index b < 2013760
unfolding index
index_below b l =
    let p = pieces_index_below 32 4 1 b.hounds (2 ^ b.fox) (men b l) in
    let t = (turn b.hounds_move).0 in
    omega (arith, p, size_is, t)

board_back : (b : Chase) → legal b ≡ true → board (index b) ≡ b
unfolding board index
board_back b l =
    let p = men b l in
    let t = (turn b.hounds_move).0 in
    let i = index b in
    let half : i / 2 ≡ arrangement_index (cells_of 32 b.hounds (2 ^ b.fox)) = omega (arith, t) in
    let odd : i % 2 ≡ (if b.hounds_move then 1 else 0) = omega (arith, t) in
    same_chase (board i) b
    (ap (λ (n : ℕ). eqb n 1) odd ∙ (turn b.hounds_move).1)
    (ap (mine_mask 32 4 1) half ∙ mine_again 32 4 1 b.hounds (2 ^ b.fox) p)
    (ap (λ (n : ℕ). trailing_zeros w32 (their_mask 32 4 1 n)) half ∙ ap (trailing_zeros w32) (theirs_again 32 4 1 b.hounds (2 ^ b.fox) p) ∙ one_square b.fox (legal_in b l).fox)

module _ (i : ℕ) (l : i < 2013760) where
  abbrev hounds : ℕ
  hounds = mine_mask 32 4 1 (i / 2)

  abbrev fox : ℕ
  fox = their_mask 32 4 1 (i / 2)

  pieces : HasPieces 32 4 1 hounds fox
  pieces = arrangement_pieces 32 4 1 (i / 2) (omega (arith, l, size_is))

  fox_square : (trailing_zeros w32 fox < 32) × (2 ^ trailing_zeros w32 fox ≡ fox)
  fox_square = one_mask fox pieces.theirs_within pieces.their_number

  index_back : index (board i) ≡ i
  unfolding board index
  index_back =
      let e : arrangement_index (cells_of 32 hounds (2 ^ trailing_zeros w32 fox)) ≡ i / 2 =
      ap (λ (x : ℕ). arrangement_index (cells_of 32 hounds x)) fox_square.1 ∙ index_of_masks 32 4 1 (i / 2) (omega (arith, l, size_is)) in
      let b = turn_back (i % 2) (omega arith) in
      omega (arith, e, b)

  fox_apart : has_cell hounds (trailing_zeros w32 fox) ≡ false
  fox_apart =
      let k = trailing_zeros w32 fox in
      let on : has_cell fox k ≡ true = ap (λ (v : ℕ). has_cell v k) (sym fox_square.1) ∙ cell_one (2 ^ k) k (bit_at-pow_same k) in
      elim (cases_Bool (has_cell hounds k)) [
        | inl e ↦ absurd (true≢false (sym on ∙ apart_below 32 hounds fox pieces.apart k fox_square.0 e))
        | inr e ↦ e
      ]

  board_legal : legal (board i) ≡ true
  unfolding board
  board_legal = legal_from (board i) (record { within = pieces.mine_within; four = pieces.mine_number; fox = fox_square.0; apart = fox_apart })

-- each index of the tier is that of a canonical position
same_least : (v : ℕ) → fold min v (v ∷ []) ≡ v
same_least v = (let z : min v v ≡ v = omega arith in z)

own_tier : (t i : ℕ) → i < (if eqb t 0 then 2013760 else 0) → eqb t 0 ≡ true
own_tier t i l = elim (cases_Bool (eqb t 0)) [
  | inl e ↦ e
  | inr e ↦ absurd (let k : i < 0 = rw e at l in omega (arith, k))
]

in_tier : (i : ℕ) → i < 2013760 → IsCanonical (move_rules fox_and_hounds) (at 0 i)
in_tier i l =
    let e = index_back i l in (
      and_both _ _ (lt-ltb i 2013760 l) (and_both (legal (board i)) true (board_legal i l) refl),
      ap (λ (v : ℕ). at 0 (fold min v (v ∷ []))) e ∙ ap (at 0) (same_least i),
    )

pub each_canonical : (t i : ℕ) → i < (if eqb t 0 then 2013760 else 0) → IsCanonical (move_rules fox_and_hounds) (at t i)
each_canonical t i l =
    let own : t ≡ 0 = eqb-true t 0 (own_tier t i l) in
    let below : i < 2013760 = subst (λ (u : ℕ). i < (if eqb u 0 then 2013760 else 0)) own l in
    subst (λ (u : ℕ). IsCanonical (move_rules fox_and_hounds) (at u i)) (sym own) (in_tier i below)

pub numbered : IsNumbered (board_game fox_and_hounds)
numbered = record {
  tier_fits = λ b l. omega arith;
  size_fits = λ b l. omega arith;
  index_below = index_below;
  board_back = board_back;
  index_back = λ t i l k e. index_back i (subst (λ (u : ℕ). i < (if eqb u 0 then 2013760 else 0)) (sym e) l);
}

pub start_index : index start ≡ 50
unfolding index arrangement_index binomial cells_of
start_index = refl
