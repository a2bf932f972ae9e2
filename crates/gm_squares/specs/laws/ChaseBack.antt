-- The masks of the squares from which men came each way mark the moves back.
use Rattle.std.specs.Prelude.{◌≡◌, ◌≢◌, ◌⊎◌, ◌+◌, ◌-◌, ◌*◌, ◌/◌, ◌%◌, ◌^◌, ◌<◌, ◌≤◌, ◌&&◌, ◌||◌, if◌then◌else◌}
use Rattle.gm_pieces.specs.Common.{ℕ, Bool, true, false, not, eqb, eqb-true, leb, ltb, ltb-true, refl, sym, ap, ap₂, ◌∙◌, arith, nat_tests, inl, inr, [], bit_and, bit_at, bit_at-zero, has_cell, has_and, and_false, and_true, and_left, and_right, and_both, cases_Bool, cases_eq, cases_lt, w32, at_all, at_each, at_below, list_all, range_with_len, agree, agree_same, trailing_zeros, not-true, cond-true}
use Rattle.std.proofs.lemmas.Nat.{ones_le_self}
use Rattle.std.proofs.lemmas.Nat.Bits.{bit_at-trailing_zeros, bit_at-lt, bit_at_ones}
use Rattle.gm_board.specs.laws.MaskChanges.{no_bit}
use Rattle.gm_board.specs.laws.NextCells.{cell_none}
use Rattle.gm_pieces.specs.MoveGames.{is_undecided}
use Rattle.gm_pieces.specs.declared.marks.Marks.{Marks}
use Rattle.gm_pieces.specs.inner.Marking.{marked, AreMarks, leads_here}
use Rattle.gm_pieces.specs.laws.RunFacts.{no_marks}
use Rattle.gm_squares.specs.Squares.{goes_on_board, beside}
use Rattle.gm_squares.specs.declared.chase.Chase.{Chase}
use Rattle.gm_squares.specs.FoxHounds.{fox_and_hounds, dark, way, to_square, from_square, legal, can_go, can_move, can_have_led_here, undo, end_by_last_move, toggled, leads}
use Rattle.gm_squares.specs.laws.DarkFacts.{step}
use Rattle.gm_squares.specs.laws.ChaseFacts.{goes, legal_in, legal_from}
use Rattle.gm_squares.specs.laws.ChaseLaws.{was_on_board}
use Rattle.gm_squares.specs.laws.ChaseMarks.{from_is, way_is}
use Rattle.gm_squares.specs.laws.MaskFacts.{lowest, toggled_here, toggled_other, toggled_within}

-- ---- a move that led to a board came from a legal one, from which the game went on unless it was over
led_from : (d : Chase) (m : ℕ) → legal d ≡ true → m < 128 → can_have_led_here d m ≡ true → (legal (undo d m) ≡ true) × (can_move (undo d m) m ≡ true)
unfolding can_have_led_here undo can_move
led_from d m l k e =
    let s = step m k (was_on_board d m e) in
    let g = goes (not d.hounds_move) d (to_square m) (from_square m) (legal_in d l) s.to_below s.from_below (and_right (leads (not d.hounds_move) m) _ e) in
    (legal_from _ g.legal, and_both _ _ (and_left (leads (not d.hounds_move) m) _ e) g.can)

led_is : (d : Chase) (m : ℕ) → legal d ≡ true → m < 128
    → leads_here fox_and_hounds 0 d m ≡ (can_have_led_here d m && is_undecided (end_by_last_move (undo d m)))
led_is d m l k = elim (cases_Bool (can_have_led_here d m)) [
  | inl e ↦ (
      let f = led_from d m l k e in
      let legal_is = f.0 in
      let can_is = f.1 in
      rw (e, legal_is, can_is) (and_true (is_undecided (end_by_last_move (undo d m)))))
  | inr e ↦ rw e refl
]

-- the game is not over where the fox's row is above the lowest hound's
open_is : (b : Chase) → is_undecided (end_by_last_move b) ≡ not (leb (b.fox / 4) (trailing_zeros w32 b.hounds / 4))
unfolding end_by_last_move
open_is b = elim (cases_Bool (leb (b.fox / 4) (trailing_zeros w32 b.hounds / 4))) [ inl e ↦ rw e refl | inr e ↦ rw e refl ]

-- ---- the fox came
past_table : at_all 8 32 (λ q s. agree (has_cell (4294967280 * 2 ^ (4 * q) % 2 ^ 32) s) (not (leb (s / 4) q))) ≡ true
past_table = refl

pub past : (q s : ℕ) → q < 8 → s < 32 → has_cell (4294967280 * 2 ^ (4 * q) % 2 ^ 32) s ≡ not (leb (s / 4) q)
past q s l h = agree_same _ _ (at_each 8 32 (λ q s. agree (has_cell (4294967280 * 2 ^ (4 * q) % 2 ^ 32) s) (not (leb (s / 4) q))) past_table q s l h)

-- ---- a hound came: the lowest hound's square is the lesser of the lowest and of that to which it goes back
below_table : at_all 8 32 (λ r s. agree (has_cell (1 * 2 ^ (4 * r) % 2 ^ 32 - 1) s) (ltb s (4 * r))) ≡ true
below_table = refl

pub below : (r s : ℕ) → r < 8 → s < 32 → has_cell (1 * 2 ^ (4 * r) % 2 ^ 32 - 1) s ≡ ltb s (4 * r)
below r s l h = agree_same _ _ (at_each 8 32 (λ r s. agree (has_cell (1 * 2 ^ (4 * r) % 2 ^ 32 - 1) s) (ltb s (4 * r))) below_table r s l h)

abbrev is_forward : ℕ → Bool
is_forward m = if goes_on_board (way m) (dark (from_square m)) && leb 2 (m % 4) then ltb (from_square m) (to_square m) else true

forward_table : list_all is_forward (range_with_len 0 128) ≡ true
unfolding goes_on_board beside way from_square to_square
forward_table = refl

pub all_below : (q r s : ℕ) → q < r → s < 32 → has_cell 4294967295 s ≡ (ltb q r || ltb s (4 * r))
all_below q r s l h =
    ap (λ (v : ℕ). eqb v 1) (bit_at_ones 32 s h) ∙ (let e : ltb q r ≡ true = grind (arith, nat_tests) in sym (ap (λ (t : Bool). t || ltb s (4 * r)) e))

pub some_below : (q r s : ℕ) → r ≤ q → r < 8 → s < 32 → has_cell (1 * 2 ^ (4 * r) % 2 ^ 32 - 1) s ≡ (ltb q r || ltb s (4 * r))
some_below q r s g l h = below r s l h ∙ (let e : ltb q r ≡ false = grind (arith, nat_tests) in sym (ap (λ (t : Bool). t || ltb s (4 * r)) e))

-- where a hound goes from c back to a
module _ (h a c : ℕ) (lh : h < 2 ^ 32) (some : 0 < h) (lc : c < 32) (less : a < c) (on : bit_at h c ≡ 1) (off : bit_at h a ≡ 0) where
  abbrev after : ℕ
  after = toggled (toggled h c) a

  after_within : after < 2 ^ 32
  after_within = toggled_within (toggled h c) a (toggled_within h c lh lc) (omega (arith, less, lc))

  after_a : bit_at after a ≡ 1
  after_a =
      let x = toggled_here (toggled h c) a in
      let y = toggled_other h c a (λ e. omega (arith, e, less)) in
      omega (arith, x, y, off)

  after_other : (i : ℕ) → i ≢ a → i ≢ c → bit_at after i ≡ bit_at h i
  after_other i n k = toggled_other (toggled h c) a i n ∙ toggled_other h c i k

  after_c : bit_at after c ≡ 0
  after_c =
      let x = toggled_other (toggled h c) a c (λ e. omega (arith, e, less)) in
      let y = toggled_here h c in
      omega (arith, x, y, on)

  after_some : 0 < after
  after_some = elim (cases_eq after 0) [
    | inl e ↦ absurd (let x = ap (λ (v : ℕ). bit_at v a) e in let z = bit_at-zero a in omega (arith, x, z, after_a))
    | inr n ↦ omega (arith, n)
  ]

  abbrev k : ℕ
  k = trailing_zeros w32 h

  abbrev j : ℕ
  j = trailing_zeros w32 after

  j_most : (i : ℕ) → bit_at after i ≡ 1 → j ≤ i
  j_most i e = elim (cases_lt i j) [
    | inl l ↦ absurd (let z = (bit_at-trailing_zeros w32 after after_some after_within).2 i l in omega (arith, z, e))
    | inr l ↦ l
  ]

  k_most : (i : ℕ) → bit_at h i ≡ 1 → k ≤ i
  k_most i e = elim (cases_lt i k) [
    | inl l ↦ absurd (let z = (bit_at-trailing_zeros w32 h some lh).2 i l in omega (arith, z, e))
    | inr l ↦ l
  ]

  k_on : bit_at h k ≡ 1
  k_on = (bit_at-trailing_zeros w32 h some lh).1

  j_on : bit_at after j ≡ 1
  j_on = (bit_at-trailing_zeros w32 after after_some after_within).1

  j_low : j ≤ k
  j_low = elim (cases_eq k c) [
    | inl e ↦ (let x = j_most a after_a in omega (arith, x, e, less))
    | inr n ↦ j_most k (after_other k (λ e. let x = ap (bit_at h) e in let y = k_on in omega (arith, x, y, off)) n ∙ k_on)
  ]

  j_is : (j ≡ a) ⊎ (k ≤ j)
  j_is = elim (cases_eq j a) [
    | inl e ↦ inl e
    | inr n ↦ inr (k_most j (sym (after_other j n (λ e. let x = ap (bit_at after) e in let y = j_on in let z = after_c in omega (arith, x, y, z))) ∙ j_on))
  ]

  pub lowest_after : (r : ℕ) → not (leb r (j / 4)) ≡ (ltb (k / 4) r || ltb a (4 * r))
  lowest_after r =
      let low = j_low in
      let high = j_most a after_a in
      elim j_is [
        | inl e ↦ by_a r j k a e low
        | inr e ↦ by_k r j k a low e high
      ]
    where
      by_a : (r j k a : ℕ) → j ≡ a → j ≤ k → not (leb r (j / 4)) ≡ (ltb (k / 4) r || ltb a (4 * r))
      by_a r j k a e l = grind (arith, nat_tests, e, l)

      by_k : (r j k a : ℕ) → j ≤ k → k ≤ j → j ≤ a → not (leb r (j / 4)) ≡ (ltb (k / 4) r || ltb a (4 * r))
      by_k r j k a l h e = grind (arith, nat_tests, l, h, e)

-- ---- the marks
abbrev on_board : ℕ → Bool
on_board m = goes_on_board (way m) (dark (from_square m))

-- the tests of a move back, in the order of the masks and in that of the definition
by_masks : (x p g o q : Bool) → ((g && (o && x)) ≡ true → p ≡ q) → ((x && p) && (g && o)) ≡ ((g && (o && x)) && q)
by_masks true p true true q f = (let e = f refl in rw (and_true p) e)
by_masks true p true false q f = and_false p
by_masks true p false o q f = and_false p
by_masks false p true true q f = refl
by_masks false p true false q f = refl
by_masks false p false o q f = refl

module _ (d : Chase) (l : legal d ≡ true) (w s : ℕ) (lw : w < 4) (ls : s < 32) where
  abbrev m : ℕ
  m = w + 4 * s

  abbrev is_free : Bool
  is_free = not (has_cell d.hounds s) && not (eqb s d.fox)

  number : m < 128
  number = omega (arith, lw, ls)

  module _ (t : d.hounds_move ≡ true) where
    fox_led : can_have_led_here d m ≡ (on_board m && (eqb (to_square m) d.fox && is_free))
    unfolding can_have_led_here can_go
    fox_led =
        rw t (ap (λ (x : Bool). x && (eqb (to_square m) d.fox && (not (has_cell d.hounds (from_square m)) && not (eqb (from_square m) d.fox)))) (and_true (on_board m)))
        ∙ ap (λ (k : ℕ). on_board m && (eqb (to_square m) d.fox && (not (has_cell d.hounds k) && not (eqb k d.fox)))) (from_is w s lw)

    fox_open : is_undecided (end_by_last_move (undo d m)) ≡ not (leb (s / 4) (trailing_zeros w32 d.hounds / 4))
    unfolding undo
    fox_open = (let from = from_is w s lw in open_is (undo d m) ∙ rw (t, from) refl)

    pub fox_came : (f p r o : ℕ) → has_cell f s ≡ is_free → has_cell p s ≡ not (leb (s / 4) (trailing_zeros w32 d.hounds / 4))
        → has_cell r s ≡ (on_board m && has_cell o (to_square m)) → has_cell o (to_square m) ≡ eqb (to_square m) d.fox
        → has_cell (bit_and (bit_and f p) r) s ≡ leads_here fox_and_hounds 0 d m
    fox_came f p r o ef ep er eo =
        has_and (bit_and f p) r s
        ∙ ap₂ (λ (x y : Bool). x && y) (has_and f p s ∙ ap₂ (λ (x y : Bool). x && y) ef (ep ∙ sym fox_open)) (er ∙ ap (λ (x : Bool). on_board m && x) eo)
        ∙ by_masks is_free (is_undecided (end_by_last_move (undo d m))) (on_board m) (eqb (to_square m) d.fox) (is_undecided (end_by_last_move (undo d m)))
        (λ e. refl)
        ∙ ap (λ (x : Bool). x && is_undecided (end_by_last_move (undo d m))) (sym fox_led)
        ∙ sym (led_is d m l number)

  module _ (t : d.hounds_move ≡ false) where
    hound_led : leb 2 w ≡ true → can_have_led_here d m ≡ (on_board m && (has_cell d.hounds (to_square m) && is_free))
    unfolding can_have_led_here can_go
    hound_led g =
        (let is = way_is w s lw in
        rw (t, is, g)
        (ap (λ (x : Bool). x && (has_cell d.hounds (to_square m) && (not (has_cell d.hounds (from_square m)) && not (eqb (from_square m) d.fox)))) (and_true (on_board m))))
        ∙ ap (λ (k : ℕ). on_board m && (has_cell d.hounds (to_square m) && (not (has_cell d.hounds k) && not (eqb k d.fox)))) (from_is w s lw)

    hound_open : is_undecided (end_by_last_move (undo d m)) ≡ not (leb (d.fox / 4) (trailing_zeros w32 (toggled (toggled d.hounds (to_square m)) s) / 4))
    unfolding undo
    hound_open = (let from = from_is w s lw in open_is (undo d m) ∙ rw (t, from) refl)

    forward : leb 2 w ≡ true → on_board m ≡ true → s < to_square m
    forward g e =
        let is = way_is w s lw in
        let both : (on_board m && leb 2 (m % 4)) ≡ true = and_both _ _ e (ap (leb 2) is ∙ g) in
        let less = ltb-true _ _ (sym (cond-true _ _ _ both) ∙ at_below 128 is_forward forward_table m number) in
        let from = from_is w s lw in
        omega (arith, less, from)

    pub hound_came : (f p r : ℕ) → 2 ≤ w → has_cell f s ≡ is_free
        → has_cell p s ≡ (ltb (trailing_zeros w32 d.hounds / 4) (d.fox / 4) || ltb s (4 * (d.fox / 4)))
        → has_cell r s ≡ (on_board m && has_cell d.hounds (to_square m)) → has_cell (bit_and (bit_and f p) r) s ≡ leads_here fox_and_hounds 0 d m
    hound_came f p r two ef ep er =
        let g : leb 2 w ≡ true = grind (arith, nat_tests, two) in
        let h = legal_in d l in
        let c = to_square m in
        let low = ltb (trailing_zeros w32 d.hounds / 4) (d.fox / 4) || ltb s (4 * (d.fox / 4)) in
        has_and (bit_and f p) r s
        ∙ ap₂ (λ (x y : Bool). x && y) (has_and f p s ∙ ap₂ (λ (x y : Bool). x && y) ef ep) er
        ∙ by_masks is_free low (on_board m) (has_cell d.hounds c) (is_undecided (end_by_last_move (undo d m)))
        (λ e.
        let rest = and_right (on_board m) _ e in
        let on = and_left (on_board m) _ e in
        let free = and_left (not (has_cell d.hounds s)) _ (and_right (has_cell d.hounds c) _ rest) in
        let some : 0 < d.hounds = (let n = ones_le_self d.hounds in let four = h.four in omega (arith, n, four)) in
        sym (hound_open ∙ lowest_after d.hounds s c h.within some (step m number on).to_below (forward g on)
        (eqb-true (bit_at d.hounds c) 1 (and_left (has_cell d.hounds c) _ rest)) (no_bit (bit_at d.hounds s) (bit_at-lt d.hounds s) (not-true _ free)) (d.fox / 4)))
        ∙ ap (λ (x : Bool). x && is_undecided (end_by_last_move (undo d m))) (sym (hound_led g))
        ∙ sym (led_is d m l number)

    pub none_came : w < 2 → has_cell 0 s ≡ leads_here fox_and_hounds 0 d m
    unfolding can_have_led_here
    none_came g =
        let off : leb 2 (m % 4) ≡ false = (let i = way_is w s lw in grind (arith, nat_tests, i, g)) in
        let can = can_go (not d.hounds_move) d (to_square m) (from_square m) in
        let none : can_have_led_here d m ≡ false =
        ap₂ (λ (x y : Bool). (on_board m && (not (not x) || y)) && can) t off ∙ ap (λ (x : Bool). x && can) (and_false (on_board m)) in
        cell_none 0 s (bit_at-zero s)
        ∙ sym (led_is d m l number ∙ ap (λ (x : Bool). x && is_undecided (end_by_last_move (undo d m))) none)

-- the row of the lowest hound
pub row_small : (d : Chase) → legal d ≡ true → trailing_zeros w32 d.hounds / 4 < 8
row_small d l =
    let h = legal_in d l in
    let four = h.four in
    let z = (lowest d.hounds h.within (omega (arith, four))).below in
    omega (arith, z)

-- there is one tier
pub no_marks_back : (t : ℕ) (d : Chase) (c : Marks) → t ≢ 0 → marked c ≡ [] → AreMarks (leads_here fox_and_hounds t d) 128 c
no_marks_back t d c n is =
    no_marks (leads_here fox_and_hounds t d) 128 c is
    (λ m j e.
    let goes = and_right (can_have_led_here d m) _ e in
    n (sym (eqb-true 0 t (and_left (eqb 0 t) _ (and_right (legal (undo d m)) _ goes)))))
