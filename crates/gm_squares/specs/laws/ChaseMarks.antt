-- The masks of the squares from which men go each way mark the moves.
use Rattle.std.specs.Prelude.{◌≡◌, ◌+◌, ◌-◌, ◌*◌, ◌/◌, ◌%◌, ◌^◌, ◌<◌, ◌≤◌, ◌&&◌, ◌||◌, ◌++◌}
use Rattle.gm_pieces.specs.Common.{ℕ, Bool, true, false, not, eqb, eq-eqb, ne_eqb, leb, refl, sym, ap, ap₂, ◌∙◌, arith, nat_tests, inl, inr, bit_and, bit_or, bit_at, bit_at-zero, has_cell, has_and, has_or, and_false, cases_Bool, cases_eq, Contains, w32, or_lt, true≢false, Contains-append_left, Contains-append_right}
use Rattle.std.proofs.lemmas.Nat.Bits.{bit_at_not, bit_at-lt}
use Rattle.gm_board.specs.laws.NextCells.{cell_one, cell_none}
use Rattle.gm_pieces.specs.declared.marks.MarkedRun.{MarkedRun}
use Rattle.gm_pieces.specs.declared.marks.Marks.{Marks}
use Rattle.gm_pieces.specs.inner.Marking.{numbers, AreMarks}
use Rattle.gm_pieces.specs.laws.RunFacts.{IsPart, IsRun, join_parts, part_marks, run_has, run_part}
use Rattle.gm_squares.specs.Squares.{goes_on_board}
use Rattle.gm_squares.specs.declared.chase.Chase.{Chase}
use Rattle.gm_squares.specs.FoxHounds.{dark, way, to_square, from_square, can_go, can_move, toggled}
use Rattle.gm_squares.specs.laws.DarkFacts.{step}
use Rattle.gm_squares.specs.laws.MaskFacts.{toggled_here, toggled_other}

-- ---- masks
pub fox_here : (f k : ℕ) → has_cell (toggled 0 f) k ≡ eqb k f
fox_here f k = elim (cases_eq k f) [
  | inl e ↦ rw e (cell_one (toggled 0 f) f (let n = toggled_here 0 f in let z = bit_at-zero f in omega (arith, n, z)) ∙ sym (eq-eqb f f refl))
  | inr n ↦ cell_none (toggled 0 f) k (toggled_other 0 f k n ∙ bit_at-zero k) ∙ sym (ne_eqb k f n)
]

not_either : (x y : Bool) → not (x || y) ≡ (not x && not y)
not_either true y = refl
not_either false y = refl

turned : (v : ℕ) → v < 2 → eqb (1 - v) 1 ≡ not (eqb v 1)
turned v l = grind (arith, nat_tests)

-- the squares without a man
pub free_here : (h x c : ℕ) → bit_or h x < 2 ^ 32 → c < 32 → has_cell (4294967295 - bit_or h x) c ≡ (not (has_cell h c) && not (has_cell x c))
free_here h x c l k =
    ap (λ (v : ℕ). eqb v 1) (bit_at_not w32 (bit_or h x) c l k) ∙ turned (bit_at (bit_or h x) c) (bit_at-lt (bit_or h x) c)
    ∙ ap not (has_or h x c) ∙ not_either (has_cell h c) (has_cell x c)

pub fox_mask : (f x k : ℕ) → x ≡ toggled 0 f → has_cell x k ≡ eqb k f
fox_mask f x k e = ap (λ (v : ℕ). has_cell v k) e ∙ fox_here f k

pub free_mask : (b : Chase) (x : ℕ) → b.hounds < 2 ^ 32 → x < 2 ^ 32 → x ≡ toggled 0 b.fox
    → (c : ℕ) → c < 32 → has_cell (4294967295 - bit_or b.hounds x) c ≡ (not (has_cell b.hounds c) && not (eqb c b.fox))
free_mask b x l h e c k = free_here b.hounds x c (or_lt 32 b.hounds x l h) k ∙ ap (λ (t : Bool). not (has_cell b.hounds c) && not t) (fox_mask b.fox x c e)

-- ---- moves
abbrev goes : ℕ → Bool
goes m = goes_on_board (way m) (dark (from_square m))

pub from_is : (w s : ℕ) → w < 4 → from_square (w + 4 * s) ≡ s
unfolding from_square
from_is w s l = omega (arith, l)

pub way_is : (w s : ℕ) → w < 4 → (w + 4 * s) % 4 ≡ w
way_is w s l = omega (arith, l)

module _ (b : Chase) (w s : ℕ) (lw : w < 4) (ls : s < 32) (o r f : ℕ) (at : has_cell r s ≡ (goes (w + 4 * s) && has_cell f (to_square (w + 4 * s))))
    (free : (c : ℕ) → c < 32 → has_cell f c ≡ (not (has_cell b.hounds c) && not (eqb c b.fox))) where
  abbrev m : ℕ
  m = w + 4 * s

  to_free : goes m ≡ true → has_cell f (to_square m) ≡ (not (has_cell b.hounds (to_square m)) && not (eqb (to_square m) b.fox))
  to_free e = free (to_square m) (step m (omega (arith, lw, ls)) e).to_below

  pub fox_goes : b.hounds_move ≡ false → has_cell o s ≡ eqb s b.fox → has_cell (bit_and o r) s ≡ can_move b m
  unfolding can_move can_go
  fox_goes t h = has_and o r s ∙ ap₂ (λ (x y : Bool). x && y) h at ∙ elim (cases_Bool (goes m)) [
    | inl e ↦ (let same = to_free e in let from = from_is w s lw in rw (t, e, same, from) refl)
    | inr e ↦ rw (t, e) (and_false (eqb s b.fox))
  ]

  pub hounds_go : b.hounds_move ≡ true → 2 ≤ w → has_cell (bit_and b.hounds r) s ≡ can_move b m
  unfolding can_move can_go
  hounds_go t g = has_and b.hounds r s ∙ ap (λ (y : Bool). has_cell b.hounds s && y) at ∙ elim (cases_Bool (goes m)) [
    | inl e ↦ (
        let same = to_free e in
        let from = from_is w s lw in
        let on : leb 2 (m % 4) ≡ true = (let i = way_is w s lw in grind (arith, nat_tests, i, g)) in
        rw (t, e, same, from, on) refl)
    | inr e ↦ rw (t, e) (and_false (has_cell b.hounds s))
  ]

-- a hound does not go backwards
pub none_back : (b : Chase) (w s : ℕ) → w < 2 → b.hounds_move ≡ true → has_cell 0 s ≡ can_move b (w + 4 * s)
unfolding can_move
none_back b w s l t =
    let n = w + 4 * s in
    let off : leb 2 (n % 4) ≡ false = (let i = way_is w s (omega (arith, l)) in grind (arith, nat_tests, i, l)) in
    let can = can_go b.hounds_move b (from_square n) (to_square n) in
    cell_none 0 s (bit_at-zero s)
    ∙ sym (ap₂ (λ (x y : Bool). (goes n && (not x || y)) && can) t off ∙ ap (λ (x : Bool). x && can) (and_false (goes n)))

pub not_false : (t : Bool) → not t ≡ false → t ≡ true
not_false true e = refl
not_false false e = absurd (true≢false e)

-- ---- marks by ways
abbrev run_of : ℕ → ℕ → MarkedRun
run_of w a = record { first = w; step = 4; marks = a }

-- the numbers of the squares that four masks have, one mask for each way
abbrev pub by_ways : ℕ → ℕ → ℕ → ℕ → Marks
by_ways a b c d = record { a = run_of 0 a; b = run_of 1 b; c = run_of 2 c; d = run_of 3 d }

module _ (p : ℕ → Bool) where
  -- the numbers of a way
  abbrev HasWay : ℕ → ℕ → Type 0
  HasWay w a = (s : ℕ) → s < 32 → has_cell a s ≡ p (w + 4 * s)

  is_run : (w a : ℕ) → a < 2 ^ 32 → HasWay w a → IsRun (run_of w a) p w 4 32
  is_run w a l h = record { is_first = refl; is_step = refl; fits = l; has = h }

  part : (w a : ℕ) → w < 4 → a < 2 ^ 32 → HasWay w a → IsPart p 128 (λ m. m % 4) w (w + 1) (numbers (run_of w a))
  part w a lw l h =
      run_part (run_of w a) p w 4 32 128 (λ m. m % 4) w (w + 1) (is_run w a l h) (omega arith)
      (λ s j. let i = way_is w s lw in (omega (arith, j, lw), omega (arith, i), omega (arith, i)))

  has_number : (w a : ℕ) → a < 2 ^ 32 → HasWay w a → (m : ℕ) → m < 128 → m % 4 ≡ w → p m ≡ true → Contains (numbers (run_of w a)) m
  has_number w a la h m l i e = run_has (run_of w a) p w 4 32 m (m / 4) (is_run w a la h) (omega (arith, l)) (omega arith) (omega (arith, i)) e

  pub way_marks : (a b c d : ℕ) → a < 2 ^ 32 → b < 2 ^ 32 → c < 2 ^ 32 → d < 2 ^ 32 → HasWay 0 a → HasWay 1 b → HasWay 2 c → HasWay 3 d
      → AreMarks p 128 (by_ways a b c d)
  way_marks a b c d la lb lc ld ha hb hc hd =
      let key = λ (m : ℕ). m % 4 in
      let na = numbers (run_of 0 a) in
      let nb = numbers (run_of 1 b) in
      let nc = numbers (run_of 2 c) in
      let nd = numbers (run_of 3 d) in
      part_marks p 128 key 0 4 (by_ways a b c d) (na ++ (nb ++ (nc ++ nd))) refl
      (join_parts p 128 key 0 1 4 na (nb ++ (nc ++ nd)) (omega arith) (omega arith) (part 0 a (omega arith) la ha)
      (join_parts p 128 key 1 2 4 nb (nc ++ nd) (omega arith) (omega arith) (part 1 b (omega arith) lb hb)
      (join_parts p 128 key 2 3 4 nc nd (omega arith) (omega arith) (part 2 c (omega arith) lc hc) (part 3 d (omega arith) ld hd))))
      (λ m l e. elim (cases_eq (m % 4) 0) [
        | inl i ↦ Contains-append_left na (nb ++ (nc ++ nd)) m (has_number 0 a la ha m l i e)
        | inr n0 ↦ Contains-append_right na (nb ++ (nc ++ nd)) m (elim (cases_eq (m % 4) 1) [
          | inl i ↦ Contains-append_left nb (nc ++ nd) m (has_number 1 b lb hb m l i e)
          | inr n1 ↦ Contains-append_right nb (nc ++ nd) m (elim (cases_eq (m % 4) 2) [
            | inl i ↦ Contains-append_left nc nd m (has_number 2 c lc hc m l i e)
            | inr n2 ↦ Contains-append_right nc nd m (has_number 3 d ld hd m l (omega (arith, n0, n1, n2)) e)
          ])
        ])
      ])
