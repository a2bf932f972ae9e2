-- How many cells a piece slides to: one in each direction in which the next cell is free.
use Rattle.gm_dao.proofs.Lower.{◌≡◌, ◌+◌, ◌^◌, ◌<◌, ◌&&◌, ◌∷◌, ◌++◌, can_move, contains_none}
use Rattle.std.specs.Prelude.{count_ones, ◌*◌}
use Rattle.std.specs.Int.Bits.{and_zero_r}
use Rattle.gm_pieces.specs.laws.MaskFacts.{own_pieces}
use Rattle.gm_dao.specs.declared.slides.TheConstants.{NEAR}
use Rattle.gm_dao.specs.inner.MaskSlides.{slides_over}
use Rattle.gm_dao.specs.laws.CountFacts.{same_number, total, total_same, total_add, passed}
use Rattle.std.specs.List.{AllByRecursion}
use Rattle.gm_game.proofs.Lists.{contains_cases}
use Rattle.gm_pieces.specs.Common.{ℕ, Bool, true, false, not, cond, List, [], length, refl, sym, ap, ◌∙◌, arith, inl, inr, bit_and, filter, subst, Contains, contains_range, range_with_len, cases_Bool, true≢false, list_all, get_or, has_cell, has_and, and_false, bit_weight, at_all, at_each, cond-true, ltb, ltb-true, at_below, and_le_r, same_list, same_list_true, Cell, Empty, Mine, Theirs, is_empty, is_taken, cell_at, board_of, own_cells, from_back, to_back, board_length, is_mine, cells_counted}
use Rattle.gm_dao.specs.DaoRules.{in_line, path, beyond}
use Rattle.gm_dao.proofs.MoveSteps.{all_more, move_by}

-- ---- along a way
-- the value at the cell that follows, if there is one
abbrev after : List ℕ → (ℕ → ℕ) → ℕ
after [] f = 0
after (e ∷ es) f = f e

-- the way to the cell that follows is a cell longer
abbrev longer : ℕ → ℕ → List ℕ → Bool
longer a c [] = true
longer a c (e ∷ []) = same_list (path a e) (path a c ++ e ∷ [])
longer a c (e ∷ f ∷ es) = false

abbrev ways : ℕ → ℕ → Bool
ways a c = cond (in_line a c) (longer a c (beyond a c)) true

ways_pass : at_all 16 16 ways ≡ true
unfolding in_line path beyond
ways_pass = refl

last_weight : (p : Bool) → bit_weight (p && true) + 0 ≡ bit_weight p
last_weight true = refl
last_weight false = refl

split_weight : (p q : Bool) → bit_weight (p && (not q && true)) + bit_weight (p && q) ≡ bit_weight p
split_weight true true = refl
split_weight true false = refl
split_weight false q = refl

-- a piece that passes a cell stops on it or goes on
stops_or_goes : (x : ℕ → Bool) (a c : ℕ) (es : List ℕ) → longer a c es ≡ true
    → bit_weight (list_all x (path a c) && list_all (λ k. not (x k)) es) + after es (λ e. bit_weight (list_all x (path a e))) ≡ bit_weight
    (list_all x (path a c))
stops_or_goes x a c [] h = last_weight (list_all x (path a c))
stops_or_goes x a c (e ∷ []) h =
    ap (λ (ps : List ℕ). bit_weight (list_all x (path a c) && (not (x e) && true)) + bit_weight (list_all x ps)) (same_list_true _ _ h)
    ∙ ap (λ (q : Bool). bit_weight (list_all x (path a c) && (not (x e) && true)) + bit_weight q) (all_more x (path a c) e)
    ∙ split_weight (list_all x (path a c)) (x e)
stops_or_goes x a c (e ∷ f ∷ es) h = absurd (true≢false (sym h))

-- ---- in all directions
-- the cells in line, those of them that follow one, and those next to a cell
abbrev in_lines : (ℕ → ℕ) → ℕ → ℕ → ℕ
in_lines F a c = cond (in_line a c) (F c) 0

abbrev followed : (ℕ → ℕ) → ℕ → ℕ → ℕ
followed F a c = cond (in_line a c) (after (beyond a c) F) 0

abbrev nexts : (ℕ → ℕ) → ℕ → ℕ → ℕ
nexts F a c = cond (has_cell (get_or NEAR a 0) c) (F c) 0

each_of : (P : ℕ → Type 0) (xs : List ℕ) → AllByRecursion P xs → (x : ℕ) → Contains xs x → P x
each_of P [] h x c = absurd (contains_none x c)
each_of P (y ∷ ys) h x c = elim (contains_cases y x ys c) [ inl e ↦ subst P e h.0 | inr d ↦ each_of P ys h.1 x d ]

-- each cell in line follows another or is next
reindex : (F : ℕ → ℕ) (a : ℕ) → a < 16 → total (in_lines F a) 16 ≡ total (followed F a) 16 + total (nexts F a) 16
unfolding in_line path beyond
reindex F a l =
    each_of (λ a. total (in_lines F a) 16 ≡ total (followed F a) 16 + total (nexts F a) 16) (range_with_len 0 16) (
      omega arith,
      (
        omega arith,
        (
          omega arith,
          (
            omega arith,
            (
              omega arith,
              (
                omega arith,
                (
                  omega arith,
                  (
                    omega arith,
                    (omega arith, (omega arith, (omega arith, (omega arith, (omega arith, (omega arith, (omega arith, (omega arith, tt)))))))),
                  ),
                ),
              ),
            ),
          ),
        ),
      ),
    )
    a (contains_range 16 a l)

one_cell : (x : ℕ → Bool) (a c : ℕ) → a < 16 → c < 16 → bit_weight (slides_over x a c) + followed (λ e. bit_weight (list_all x (path a e))) a c ≡ in_lines
    (λ e. bit_weight (list_all x (path a e))) a c
one_cell x a c l k = elim (cases_Bool (in_line a c)) [
  | inl t ↦ rw t (stops_or_goes x a c (beyond a c) (sym (cond-true _ _ _ t) ∙ at_each 16 16 ways ways_pass a c l k))
  | inr t ↦ rw t refl
]

-- ---- the cells next to a cell
abbrev near_passes : ℕ → ℕ → Bool
near_passes a c = cond (has_cell (get_or NEAR a 0) c) (same_list (path a c) (c ∷ [])) true

near_pass : at_all 16 16 near_passes ≡ true
unfolding path
near_pass = refl

one_near : (free a c : ℕ) → a < 16 → c < 16 → nexts (λ e. bit_weight (list_all (has_cell free) (path a e))) a c ≡ bit_weight (has_cell (bit_and free (get_or NEAR a 0)) c)
one_near free a c l k = elim (cases_Bool (has_cell (get_or NEAR a 0) c)) [
  | inl t ↦ (
      let p : path a c ≡ c ∷ [] = same_list_true _ _ (sym (cond-true _ _ _ t) ∙ at_each 16 16 near_passes near_pass a c l k) in
      cond-true _ _ _ t
      ∙ ap (λ (ps : List ℕ). bit_weight (list_all (has_cell free) ps)) p
      ∙ ap (λ (q : Bool). bit_weight (has_cell free c && q)) (sym t)
      ∙ ap bit_weight (sym (has_and free (get_or NEAR a 0) c)))
  | inr t ↦ (
      let n : has_cell (bit_and free (get_or NEAR a 0)) c ≡ has_cell free c && false = has_and free (get_or NEAR a 0) c ∙ ap (λ (q : Bool). has_cell free c && q) t in
      let z : bit_weight (has_cell free c && false) ≡ 0 = ap bit_weight (and_false (has_cell free c)) in
      let e : nexts (λ e. bit_weight (list_all (has_cell free) (path a e))) a c ≡ 0 = rw t refl in
      e ∙ sym (ap bit_weight n ∙ z))
]

-- the cells of a mask are as many as its ones
cells_of_mask : (g : ℕ) → g < 2 ^ 16 → length (filter (has_cell g) (range_with_len 0 16)) ≡ count_ones g
cells_of_mask g l =
    same_number (has_cell g) (λ (k : ℕ). is_mine (cell_at (board_of 16 g 0) k)) 16 (λ k m. own_cells 16 g 0 l k)
    ∙ cells_counted is_mine (board_of 16 g 0) 16 (board_length 16 g 0)
    ∙ own_pieces 16 g 0 l (omega arith) (and_zero_r g)

meet : (ones m n h sf s f found : ℕ) → ones ≡ m → n ≡ m → sf ≡ h → sf ≡ s + f → h ≡ f + n → found ≡ s → ones ≡ found
meet ones m n h sf s f found p q r t u v = omega (arith, p, q, r, t, u, v)

-- as many as there are free cells next to it
pub near_counted : (free a : ℕ) → a < 16 → count_ones (bit_and free (get_or NEAR a 0)) ≡ length (filter (slides_over (has_cell free) a) (range_with_len 0 16))
near_counted free a l =
    let x = has_cell free in
    let F : ℕ → ℕ = λ e. bit_weight (list_all x (path a e)) in
    let m = bit_and free (get_or NEAR a 0) in
    let fits : get_or NEAR a 0 < 2 ^ 16 = ltb-true _ _ (at_below 16 (λ (a : ℕ). ltb (get_or NEAR a 0) (2 ^ 16)) refl a l) in
    let small : m < 2 ^ 16 = omega (arith, fits, and_le_r free (get_or NEAR a 0)) in
    let cells = sym (cells_of_mask m small) ∙ passed (has_cell m) 16 in
    let near = total_same (nexts F a) (λ (c : ℕ). bit_weight (has_cell m c)) 16 (λ c k. one_near free a c l k) in
    let all = total_same (λ (c : ℕ). bit_weight (slides_over x a c) + followed F a c) (in_lines F a) 16 (λ c k. one_cell x a c l k) in
    let sums = total_add (λ (c : ℕ). bit_weight (slides_over x a c)) (followed F a) 16 in
    let again = reindex F a l in
    let found = passed (slides_over x a) 16 in
    meet _ _ _ _ _ _ _ _ cells near all sums again found

-- ---- the moves of a piece
free_taken : (v : Cell) → not (is_empty v) ≡ is_taken v
free_taken Empty = refl
free_taken Mine = refl
free_taken Theirs = refl

-- the moves of the piece on a cell
pub moves_over : (a b free from : ℕ) → a < 2 ^ 16 → has_cell a from ≡ true → ((k : ℕ) → k < 16 → has_cell free k ≡ is_empty (cell_at (board_of 16 a b) k))
    → (k : ℕ) → k < 16 → slides_over (has_cell free) from k ≡ can_move (board_of 16 a b) (16 * from + k)
moves_over a b free from l own f k j =
    move_by (board_of 16 a b) (16 * from + k) from k (has_cell free) (λ (k : ℕ). not (has_cell free k)) true (slides_over (has_cell free) from k)
    (sym (from_back from k j)) (sym (to_back from k j)) (sym own ∙ own_cells 16 a b l from) refl refl f
    (λ k l. ap not (f k l) ∙ free_taken (cell_at (board_of 16 a b) k))
