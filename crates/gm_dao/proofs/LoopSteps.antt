-- The steps of the loops over cells: what is skipped gives no move and no board.
use Rattle.gm_dao.proofs.Lower.{◌≡◌, ◌+◌, ◌-◌, ◌/◌, ◌%◌, ◌^◌, ◌<◌, ◌≤◌, ◌&&◌, ◌∷◌, ◌++◌, can_move, dao, slides_by_masks, AreMovesBelow, move_slide}
use Rattle.std.specs.Int.Bits.{or_zero_r}
use Rattle.gm_board.specs.laws.MaskChanges.{with_within}
use Rattle.gm_pieces.specs.laws.Skipped.{filter_skip}
use Rattle.std.specs.Prelude.{◌*◌}
use Rattle.gm_pieces.specs.Common.{ℕ, Bool, true, false, eqb, eq-eqb, List, [], refl, sym, ap, ap₂, ◌∙◌, subst, arith, inl, inr, bit_or, pow_mono, w32, filter, range_with_len, cases_eq, true≢false, bit_at_above, bit_at_set_same, bit_at_set_other, Cell, has_cell, bit_weight, none_left, board_of, from_point, from_back, to_back, filter_in, steps, all_steps, is_mine, false_from_ne_true, is_empty, is_taken, cell_at, own_cells}
use Rattle.gm_dao.proofs.MoveSteps.{move_by}

-- ---- moves
-- no move leaves a cell without a piece of the mover's
pub no_move_from : (a b m : ℕ) → a < 2 ^ 16 → has_cell a (from_point m) ≡ false → can_move (board_of 16 a b) m ≡ false
no_move_from a b m l e =
    false_from_ne_true _ (λ t. true≢false (sym (own_cells 16 a b l (from_point m) ∙ ap is_mine (move_slide (board_of 16 a b) m t).mine) ∙ e))

-- cells without the mover's pieces, s of them
pub moves_skip : (a b n s : ℕ) (ms : List ℕ) → a < 2 ^ 16 → ((i : ℕ) → i < s → has_cell a (n + i) ≡ false) → AreMovesBelow (board_of 16 a b) (16 * n) ms →
    AreMovesBelow (board_of 16 a b) (16 * (n + s)) ms
unfolding from_point
moves_skip a b n s ms l h e =
    let p = can_move (board_of 16 a b) in
    e
    ∙ sym (
    ap (λ (m : ℕ). filter p (range_with_len 0 m)) (let z : 16 * (n + s) ≡ 16 * n + 16 * s = omega arith in z)
    ∙ filter_skip p (16 * n) (16 * s) (λ i k.
    no_move_from a b (16 * n + i) l (ap (has_cell a) (let z : from_point (16 * n + i) ≡ n + i / 16 = omega arith in z) ∙ h (i / 16) (omega arith))))

-- the cells to which the piece on a cell slides are the goals of its moves
abbrev pub AreGoals : List Cell → ℕ → ℕ → Type 0
AreGoals b from g = (k : ℕ) → k < 16 → has_cell g k ≡ can_move b (16 * from + k)

-- what the code finds
pub goals_are : (a b free taken g from : ℕ) → a < 2 ^ 16 → from < 16 → has_cell a from ≡ true
    → ((k : ℕ) → k < 16 → has_cell free k ≡ is_empty (cell_at (board_of 16 a b) k)) →
    ((k : ℕ) → k < 16 → has_cell taken k ≡ is_taken (cell_at (board_of 16 a b) k))
    → ((k : ℕ) → k < 16 → has_cell g k ≡ slides_by_masks free taken from k) → AreGoals (board_of 16 a b) from g
goals_are a b free taken g from l w own f t h k j =
    move_by (board_of 16 a b) (16 * from + k) from k (has_cell free) (has_cell taken) true (has_cell g k) (sym (from_back from k j)) (sym (to_back from k j))
    (sym own ∙ own_cells 16 a b l from) refl (h k j) f t

-- goals that there are not, s of them
pub goals_skip : (b : List Cell) (from g n s : ℕ) (ms : List ℕ) → AreGoals b from g → n + s ≤ 16 → ((i : ℕ) → i < s → has_cell g (n + i) ≡ false) →
    AreMovesBelow b (16 * from + n) ms → AreMovesBelow b (16 * from + (n + s)) ms
goals_skip b from g n s ms h l none e =
    e
    ∙ sym (
    ap (λ (m : ℕ). filter (can_move b) (range_with_len 0 m)) (let z : 16 * from + (n + s) ≡ 16 * from + n + s = omega arith in z)
    ∙ filter_skip (can_move b) (16 * from + n) s (λ i k.
    ap (can_move b) (let z : 16 * from + n + i ≡ 16 * from + (n + i) = omega arith in z) ∙ sym (h (n + i) (omega arith)) ∙ none i k))

-- ---- slides by masks
-- three tests, of which the last two mean something only where the first is passed
pub by_three : (l p q x y z : Bool) → x ≡ l → (l ≡ true → y ≡ p) → (l ≡ true → z ≡ q) → ((x && y) && z) ≡ (l && (p && q))
by_three true p q x y z e f g = ap (λ (u : Bool). (u && y) && z) e ∙ ap₂ (λ (u v : Bool). u && v) (f refl) (g refl)
by_three false p q x y z e f g = ap (λ (u : Bool). (u && y) && z) e

-- ---- masks of the cells that pass a test
-- the mask has those of the first n cells that pass
pub record HasPassed (p : ℕ → Bool) (n g : ℕ) : Type 0 where
  pub within : g < 2 ^ n
  pub cells : (k : ℕ) → k < n → has_cell g k ≡ p k

one_more : (p : ℕ → Type 0) (n : ℕ) → ((k : ℕ) → k < n → p k) → p n → (k : ℕ) → k < n + 1 → p k
one_more p n h e k l = elim (cases_eq k n) [
  | inl q ↦ subst p (sym q) e
  | inr q ↦ h k (omega (arith, q, l))
]

wider : (g n : ℕ) → g < 2 ^ n → g < 2 ^ (n + 1)
wider g n l = let p : 2 ^ n ≤ 2 ^ (n + 1) = pow_mono (let q : n ≤ n + 1 = omega arith in q) in omega (arith, l, p)

-- one more cell, which passes or not
pub passed_more : (p : ℕ → Bool) (n g v : ℕ) (x : Bool) → n < 16 → HasPassed p n g → x ≡ p n → v ≡ bit_weight x → HasPassed p (n + 1)
    (bit_or g (v * 2 ^ n % 2 ^ 32))
passed_more p n g v true l h e w = rw w (record {
  within = with_within g n (n + 1) (wider g n h.within) (omega arith) (omega arith);
  cells = one_more (λ (k : ℕ). has_cell (bit_or g (1 * 2 ^ n % 2 ^ 32)) k ≡ p k) n
      (λ k j. ap (λ (u : ℕ). eqb u 1) (bit_at_set_other w32 g n (omega arith) k (λ q. omega (arith, q, j))) ∙ h.cells k j)
      (eq-eqb _ _ (bit_at_set_same w32 g n (omega arith)) ∙ e);
})
passed_more p n g v false l h e w =
    let none : 0 * 2 ^ n ≡ 0 = omega arith in
    rw (w, none, or_zero_r g) (record {
      within = wider g n h.within;
      cells = one_more (λ (k : ℕ). has_cell g k ≡ p k) n h.cells (ap (λ (u : ℕ). eqb u 1) (bit_at_above g n n h.within (omega arith)) ∙ e);
    })

-- ---- ends of loops
-- one more move
pub move_more : (b : List Cell) (from k : ℕ) (ms new : List ℕ) → can_move b (16 * from + k) ≡ true → AreMovesBelow b (16 * from + k) ms → new ≡ ms ++
    (16 * from + k) ∷ [] → AreMovesBelow b (16 * from + (k + 1)) new
move_more b from k ms new e h is =
    let m = 16 * from + k in
    is
    ∙ ap (λ (xs : List ℕ). xs ++ m ∷ []) h
    ∙ sym (filter_in (can_move b) m e)
    ∙ ap (λ (n : ℕ). filter (can_move b) (range_with_len 0 n)) (let z : m + 1 ≡ 16 * from + (k + 1) = omega arith in z)

-- no cell of a mask is left
pub end_at : (P : ℕ → Type 0) (mask n rest : ℕ) → n ≤ 16 → rest ≡ mask / 2 ^ n → rest ≡ 0
    → ((k : ℕ) → n + k ≤ 16 → ((i : ℕ) → i < k → has_cell mask (n + i) ≡ false) → P n → P (n + k)) → P n → P 16
end_at P mask n rest l e z skip h =
    subst P (let q : n + (16 - n) ≡ 16 = omega (arith, l) in q)
    (skip (16 - n) (omega (arith, l)) (λ i k. none_left mask n rest (n + i) e z (omega arith)) h)

-- no piece is left
pub moves_end : (a b n rest : ℕ) (ms : List ℕ) → a < 2 ^ 16 → n ≤ 16 → rest ≡ a / 2 ^ n → rest ≡ 0 → AreMovesBelow (board_of 16 a b) (16 * n) ms → ms ≡
    steps dao (board_of 16 a b)
moves_end a b n rest ms w l e z m =
    end_at (λ (k : ℕ). AreMovesBelow (board_of 16 a b) (16 * k) ms) a n rest l e z (λ k j none. moves_skip a b n k ms w none) m
    ∙ all_steps dao (board_of 16 a b) 256 refl
