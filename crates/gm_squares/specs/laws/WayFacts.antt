-- Masks of the squares from which a way leads to a square of a mask.
use Rattle.std.specs.Prelude.{◌≡◌, ◌+◌, ◌-◌, ◌*◌, ◌/◌, ◌%◌, ◌^◌, ◌<◌, ◌≤◌, ◌&&◌, ◌||◌, if◌then◌else◌}
use Rattle.gm_pieces.specs.Common.{ℕ, Bool, true, false, not, eqb, eqb-true, leb, leb-true, refl, sym, ap, ap₂, ◌∙◌, arith, bit_and, bit_or, bit_at, has_cell, has_and, has_or, and_left, and_right, cases_Bool, inl, inr, not-true, list_all, range_with_len, at_below, cond-true, cond-false}
use Rattle.std.proofs.lemmas.Nat.Bits.{bit_at_cat_low, bit_at_cat_high}
use Rattle.gm_squares.specs.Squares.{goes_on_board, beside}
use Rattle.gm_squares.specs.FoxHounds.{dark, way, to_square, from_square}

-- ---- shifts
mod_low : (x i : ℕ) → i < 32 → bit_at (x % 2 ^ 32) i ≡ bit_at x i
mod_low x i l =
    sym (bit_at_cat_low (x / 2 ^ 32) 32 (x % 2 ^ 32) i l)
    ∙ ap (λ (v : ℕ). bit_at v i) (let e : x / 2 ^ 32 * 2 ^ 32 + x % 2 ^ 32 ≡ x = omega arith in e)

up : (to n i : ℕ) → 0 < 2 ^ n → n ≤ i → i < 32 → has_cell (to * 2 ^ n % 2 ^ 32) i ≡ has_cell to (i - n)
up to n i p l h =
    ap (λ (v : ℕ). eqb v 1) (mod_low (to * 2 ^ n) i h
    ∙ ap (λ (v : ℕ). bit_at v i) (let e : to * 2 ^ n ≡ to * 2 ^ n + 0 = omega arith in e)
    ∙ bit_at_cat_high to n 0 i p l)

down : (to n i : ℕ) → to / 2 ^ n * 2 ^ n + to % 2 ^ n ≡ to → to % 2 ^ n < 2 ^ n → has_cell (to / 2 ^ n) i ≡ has_cell to (n + i)
down to n i e f =
    ap (λ (v : ℕ). eqb v 1) (ap (bit_at (to / 2 ^ n)) (let z : i ≡ n + i - n = omega arith in z)
    ∙ sym (bit_at_cat_high (to / 2 ^ n) n (to % 2 ^ n) (n + i) f (omega arith))
    ∙ ap (λ (v : ℕ). bit_at v (n + i)) e)

-- ---- ways
abbrev goes : ℕ → Bool
goes m = goes_on_board (way m) (dark (from_square m))

-- the squares of one mask lead to one target, those of another to another, and all others off the board
abbrev is_split : ℕ → ℕ → ℕ → (ℕ → ℕ) → (ℕ → ℕ) → (ℕ → Bool) → (ℕ → Bool) → ℕ → Bool
is_split w m n f g fits also s =
    if has_cell m s then (fits s && (not (has_cell n s) && (goes (w + 4 * s) && eqb (to_square (w + 4 * s)) (f s))))
    else (if has_cell n s then (also s && (goes (w + 4 * s) && eqb (to_square (w + 4 * s)) (g s))) else not (goes (w + 4 * s)))

module _ (w m n : ℕ) (f g : ℕ → ℕ) (fits also : ℕ → Bool) (s : ℕ) (table : is_split w m n f g fits also s ≡ true) where
  split : (to x y : ℕ) → (fits s ≡ true → has_cell x s ≡ has_cell to (f s)) → (also s ≡ true → has_cell y s ≡ has_cell to (g s))
      → has_cell (bit_or (bit_and x m) (bit_and y n)) s ≡ (goes (w + 4 * s) && has_cell to (to_square (w + 4 * s)))
  split to x y h i =
      has_or (bit_and x m) (bit_and y n) s ∙ ap₂ (λ (a b : Bool). a || b) (has_and x m s) (has_and y n s)
      ∙ elim (cases_Bool (has_cell m s)) [
        | inl e ↦ (
            let t = sym (cond-true (has_cell m s) _ _ e) ∙ table in
            let u = and_right (fits s) _ t in
            let v = and_right (not (has_cell n s)) _ u in
            let off : has_cell n s ≡ false = not-true _ (and_left (not (has_cell n s)) _ u) in
            let on : goes (w + 4 * s) ≡ true = and_left _ _ v in
            let is : to_square (w + 4 * s) ≡ f s = eqb-true _ _ (and_right (goes (w + 4 * s)) _ v) in
            let same : has_cell x s ≡ has_cell to (f s) = h (and_left _ _ t) in
            rw (e, off, on, is, same) (last (has_cell to (f s)) (has_cell y s)))
        | inr e ↦ elim (cases_Bool (has_cell n s)) [
          | inl k ↦ (
              let t = sym (cond-true (has_cell n s) _ _ k) ∙ sym (cond-false (has_cell m s) _ _ e) ∙ table in
              let v = and_right (also s) _ t in
              let on : goes (w + 4 * s) ≡ true = and_left _ _ v in
              let is : to_square (w + 4 * s) ≡ g s = eqb-true _ _ (and_right (goes (w + 4 * s)) _ v) in
              let same : has_cell y s ≡ has_cell to (g s) = i (and_left _ _ t) in
              rw (e, k, on, is, same) (first (has_cell to (g s)) (has_cell x s)))
          | inr k ↦ (
              let t = sym (cond-false (has_cell n s) _ _ k) ∙ sym (cond-false (has_cell m s) _ _ e) ∙ table in
              let off : goes (w + 4 * s) ≡ false = not-true _ t in
              rw (e, k, off) (none (has_cell x s) (has_cell y s)))
        ]
      ]
    where
      last : (p q : Bool) → ((p && true) || (q && false)) ≡ (true && p)
      last true q = refl
      last false true = refl
      last false false = refl

      first : (p q : Bool) → ((q && false) || (p && true)) ≡ (true && p)
      first true true = refl
      first true false = refl
      first false true = refl
      first false false = refl

      none : (p q : Bool) → ((p && false) || (q && false)) ≡ false
      none true true = refl
      none true false = refl
      none false true = refl
      none false false = refl

back_left_table : list_all (is_split 0 235802112 4042322160 (λ s. s - 5) (λ s. s - 4) (leb 5) (leb 4)) (range_with_len 0 32) ≡ true
unfolding goes_on_board beside way from_square to_square
back_left_table = refl

pub back_left : (w to s : ℕ) → w ≡ 0 → s < 32 → has_cell (bit_or (bit_and (to * 2 ^ 5 % 2 ^ 32) 235802112) (bit_and (to * 2 ^ 4 % 2 ^ 32) 4042322160)) s
    ≡ (goes_on_board (way (w + 4 * s)) (dark (from_square (w + 4 * s))) && has_cell to (to_square (w + 4 * s)))
back_left w to s e l =
    split 0 235802112 4042322160 (λ s. s - 5) (λ s. s - 4) (leb 5) (leb 4) s (at_below 32 (is_split 0 235802112 4042322160 (λ s. s - 5) (λ s. s - 4) (leb 5) (leb 4)) back_left_table s l)
    to (to * 2 ^ 5 % 2 ^ 32) (to * 2 ^ 4 % 2 ^ 32) (λ t. up to 5 s (omega arith) (leb-true _ _ t) l) (λ t. up to 4 s (omega arith) (leb-true _ _ t) l)
    ∙ ap (λ (v : ℕ). goes (v + 4 * s) && has_cell to (to_square (v + 4 * s))) (sym e)

back_right_table : list_all (is_split 1 252645120 1886417008 (λ s. s - 4) (λ s. s - 3) (leb 4) (leb 3)) (range_with_len 0 32) ≡ true
unfolding goes_on_board beside way from_square to_square
back_right_table = refl

pub back_right : (w to s : ℕ) → w ≡ 1 → s < 32 → has_cell (bit_or (bit_and (to * 2 ^ 4 % 2 ^ 32) 252645120) (bit_and (to * 2 ^ 3 % 2 ^ 32) 1886417008)) s
    ≡ (goes_on_board (way (w + 4 * s)) (dark (from_square (w + 4 * s))) && has_cell to (to_square (w + 4 * s)))
back_right w to s e l =
    split 1 252645120 1886417008 (λ s. s - 4) (λ s. s - 3) (leb 4) (leb 3) s (at_below 32 (is_split 1 252645120 1886417008 (λ s. s - 4) (λ s. s - 3) (leb 4) (leb 3)) back_right_table s l)
    to (to * 2 ^ 4 % 2 ^ 32) (to * 2 ^ 3 % 2 ^ 32) (λ t. up to 4 s (omega arith) (leb-true _ _ t) l) (λ t. up to 3 s (omega arith) (leb-true _ _ t) l)
    ∙ ap (λ (v : ℕ). goes (v + 4 * s) && has_cell to (to_square (v + 4 * s))) (sym e)

on_left_table : list_all (is_split 2 235802126 15790320 (λ s. 3 + s) (λ s. 4 + s) (λ s. true) (λ s. true)) (range_with_len 0 32) ≡ true
unfolding goes_on_board beside way from_square to_square
on_left_table = refl

pub on_left : (w to s : ℕ) → w ≡ 2 → s < 32 → has_cell (bit_or (bit_and (to / 2 ^ 3) 235802126) (bit_and (to / 2 ^ 4) 15790320)) s
    ≡ (goes_on_board (way (w + 4 * s)) (dark (from_square (w + 4 * s))) && has_cell to (to_square (w + 4 * s)))
on_left w to s e l =
    split 2 235802126 15790320 (λ s. 3 + s) (λ s. 4 + s) (λ s. true) (λ s. true) s (at_below 32 (is_split 2 235802126 15790320 (λ s. 3 + s) (λ s. 4 + s) (λ s. true) (λ s. true)) on_left_table s l)
    to (to / 2 ^ 3) (to / 2 ^ 4) (λ t. down to 3 s (omega arith) (omega arith)) (λ t. down to 4 s (omega arith) (omega arith))
    ∙ ap (λ (v : ℕ). goes (v + 4 * s) && has_cell to (to_square (v + 4 * s))) (sym e)

on_right_table : list_all (is_split 3 252645135 7368816 (λ s. 4 + s) (λ s. 5 + s) (λ s. true) (λ s. true)) (range_with_len 0 32) ≡ true
unfolding goes_on_board beside way from_square to_square
on_right_table = refl

pub on_right : (w to s : ℕ) → w ≡ 3 → s < 32 → has_cell (bit_or (bit_and (to / 2 ^ 4) 252645135) (bit_and (to / 2 ^ 5) 7368816)) s
    ≡ (goes_on_board (way (w + 4 * s)) (dark (from_square (w + 4 * s))) && has_cell to (to_square (w + 4 * s)))
on_right w to s e l =
    split 3 252645135 7368816 (λ s. 4 + s) (λ s. 5 + s) (λ s. true) (λ s. true) s (at_below 32 (is_split 3 252645135 7368816 (λ s. 4 + s) (λ s. 5 + s) (λ s. true) (λ s. true)) on_right_table s l)
    to (to / 2 ^ 4) (to / 2 ^ 5) (λ t. down to 4 s (omega arith) (omega arith)) (λ t. down to 5 s (omega arith) (omega arith))
    ∙ ap (λ (v : ℕ). goes (v + 4 * s) && has_cell to (to_square (v + 4 * s))) (sym e)
