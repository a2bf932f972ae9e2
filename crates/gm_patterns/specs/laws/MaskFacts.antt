-- What the masks of the code say.
use Rattle.std.specs.Prelude.{◌≡◌, ◌+◌, ◌-◌, ◌*◌, ◌%◌, ◌^◌, ◌<◌, ◌≤◌, ◌&&◌, ◌||◌, Option, None, Some}
use Rattle.gm_pieces.specs.Common.{ℕ, w32, Bool, true, false, not, [], Contains-get_or, eqb, eqb-true, eq-eqb, leb-true, List, map, length, get_or, replicate, refl, sym, ap, ap₂, ◌∙◌, subst, arith, inl, inr, cases_lt, not-true, ext_get_or, length-replicate, pow_mono, bit_and, bit_or, bit_not, bit_at_above, bit_at_ones, one_shl, or_lt, and_le_l, and_left, and_right, has_cell, has_and, has_or, has_not, has_none, same_tests, Cell, Empty, cell_at, is_mine, is_theirs, number_of, turned}
use Rattle.gm_board.specs.laws.Pieces.{apart_below}
use Rattle.gm_board.specs.Pieces.{cell_by}
use Rattle.gm_board.specs.laws.Images.{board_get, board_length, image_apart, image_board, image_within}
use Rattle.gm_board.specs.Images.{board_of}
use Rattle.std.proofs.lemmas.List.{get_or_default, get_or-replicate}
use Rattle.std.proofs.lemmas.Nat.{xor_lt}
use Rattle.std.proofs.lemmas.Nat.Bits.{bit_at-zero, bit_at_ones_above}
use Rattle.gm_patterns.specs.Patterns.{lets, fits, without}
use Rattle.gm_patterns.specs.Steps.{cells_in, laid}
use Rattle.gm_patterns.specs.PatternGames.{PatternGame, legal, turn_by, swap_by, passed, steps_of, step_at, no_step}
use Rattle.gm_patterns.specs.PatternTables.{IsPatternGame, is_cell_name, is_turn, turn_mask}
use Rattle.gm_patterns.specs.laws.PatternFacts.{passes, fits_at, fits_from, has_without, laid_length, laid_cell}
use Rattle.gm_patterns.specs.laws.TableFacts.{tables_right, legal_in, have_few, step_right}
use Rattle.gm_patterns.specs.laws.StepFacts.{turn_permutation, turn_swap}
use Rattle.gm_patterns.specs.declared.pattern.Pattern.{Pattern}
use Rattle.gm_patterns.specs.declared.step.Step.{Step}

-- ---- cells of masks
past_cell : (n m k : ℕ) → m < 2 ^ n → n ≤ k → has_cell m k ≡ false
past_cell n m k l h = ap (λ (v : ℕ). eqb v 1) (bit_at_above m n k l h)

fits_32 : (n m : ℕ) → n ≤ 25 → m < 2 ^ n → m < 2 ^ 32
fits_32 n m few l = let most : n ≤ 32 = omega (arith, few) in let small : 2 ^ n ≤ 2 ^ 32 = pow_mono most in omega (arith, small, l)

-- ---- patterns
module _ (n a b : ℕ) (p : Pattern) (few : n ≤ 25) (la : a < 2 ^ n) (lb : b < 2 ^ n) (q : bit_and a b ≡ 0) where
  -- the cells on which something lies that may not
  wrong : ℕ
  wrong = bit_or (bit_or (bit_and a p.not_mine) (bit_and b p.not_theirs)) (bit_and (bit_and (bit_not w32 (bit_or a b)) (1 * 2 ^ n % 2 ^ 32 - 1)) p.not_empty)

  all_is : (k : ℕ) → has_cell (1 * 2 ^ n % 2 ^ 32 - 1) k ≡ has_cell (2 ^ n - 1) k
  all_is k = ap (λ (v : ℕ). has_cell (v - 1) k) (one_shl n 32 (omega (arith, few)))

  wrong_in : (k : ℕ) → k < n → not (has_cell wrong k) ≡ lets p k (cell_at (board_of n a b) k)
  unfolding wrong
  wrong_in k l = grind (
    arith,
    has_or,
    has_and,
    has_not (bit_or a b) k (fits_32 n (bit_or a b) few (or_lt n a b la lb)) (omega (arith, few, l)),
    all_is k,
    bit_at_ones n k l,
    apart_below n a b q k l,
    board_get n a b k l,
  )

  wrong_past : (k : ℕ) → n ≤ k → has_cell wrong k ≡ false
  unfolding wrong
  wrong_past k l = grind (arith, has_or, has_and, all_is k, bit_at_ones_above n k l, past_cell n a k la l, past_cell n b k lb l)

  -- a board has a pattern exactly if no cell is wrong
  pub fits_masks : fits p (board_of n a b) ≡ eqb (bit_or (bit_or (bit_and a p.not_mine) (bit_and b p.not_theirs)) (bit_and (bit_and (bit_not w32 (bit_or a b))
      (1 * 2 ^ n % 2 ^ 32 - 1)) p.not_empty)) 0
  unfolding wrong
  fits_masks =
      let long = board_length n a b in
      same_tests _ _
      (λ f. eq-eqb _ _ (has_none wrong (λ k. elim (cases_lt k n) [
        | inl l ↦ not-true _ (wrong_in k l ∙ fits_at p (board_of n a b) f k (subst (λ (m : ℕ). k < m) (sym long) l))
        | inr l ↦ wrong_past k l
      ])))
      (λ z. fits_from p (board_of n a b) (λ k l.
      sym (wrong_in k (subst (λ (m : ℕ). k < m) long l)) ∙ ap (λ (m : ℕ). not (has_cell m k)) (eqb-true wrong 0 z) ∙ ap (λ (v : ℕ). not (eqb v 1)) (bit_at-zero k)))

-- ---- a pattern laid on cells
-- a mask without some cells has no more cells
pub without_within : (n m c : ℕ) → m < 2 ^ n → without m c < 2 ^ n
without_within n m c l = let k = and_le_l m c in xor_lt n m (bit_and m c) l (omega (arith, l, k))

-- the mover's and the opponent's pieces, where those of a pattern are laid on the cells c of a board with the masks a and b
abbrev pub mine_laid : ℕ → ℕ → Pattern → ℕ
mine_laid a c p = bit_or (without a c) (without c p.not_mine)

abbrev pub theirs_laid : ℕ → ℕ → Pattern → ℕ
theirs_laid b c p = bit_or (without b c) (without (bit_and c p.not_mine) p.not_theirs)

mine_is : (a c : ℕ) (p : Pattern) (k : ℕ) → has_cell (mine_laid a c p) k ≡ (has_cell a k && not (has_cell c k) || has_cell c k && not (has_cell p.not_mine k))
mine_is a c p k = grind (arith, has_or, has_without)

theirs_is : (b c : ℕ) (p : Pattern) (k : ℕ)
    → has_cell (theirs_laid b c p) k ≡ (has_cell b k && not (has_cell c k) || has_cell c k && has_cell p.not_mine k && not (has_cell p.not_theirs k))
theirs_is b c p k = grind (arith, has_or, has_without, has_and)

module _ (n a b c : ℕ) (p : Pattern) (la : a < 2 ^ n) (lb : b < 2 ^ n) (lc : c < 2 ^ n) where
  pub mine_within : mine_laid a c p < 2 ^ n
  mine_within = or_lt n (without a c) (without c p.not_mine) (without_within n a c la) (without_within n c p.not_mine lc)

  pub theirs_within : theirs_laid b c p < 2 ^ n
  theirs_within =
      let k = and_le_l c p.not_mine in
      or_lt n (without b c) (without (bit_and c p.not_mine) p.not_theirs) (without_within n b c lb)
      (without_within n (bit_and c p.not_mine) p.not_theirs (omega (arith, lc, k)))

  module _ (q : bit_and a b ≡ 0) where
    -- no cell has pieces of both sides
    pub laid_apart : bit_and (mine_laid a c p) (theirs_laid b c p) ≡ 0
    laid_apart = has_none (bit_and (mine_laid a c p) (theirs_laid b c p)) (λ k. elim (cases_lt k n) [
      | inl l ↦ grind (arith, has_and (mine_laid a c p) (theirs_laid b c p) k, mine_is a c p k, theirs_is b c p k, apart_below n a b q k l)
      | inr l ↦ grind (arith, has_and (mine_laid a c p) (theirs_laid b c p) k, past_cell n (mine_laid a c p) k mine_within l)
    ])

-- the board of the masks
pub laid_masks : (n a b c : ℕ) (p : Pattern) → laid c p (board_of n a b) ≡ board_of n (mine_laid a c p) (theirs_laid b c p)
laid_masks n a b c p =
    let board = board_of n a b in
    let long = board_length n a b in
    let same = laid_length c p board in
    ext_get_or Empty (laid c p board) (board_of n (mine_laid a c p) (theirs_laid b c p))
    (same ∙ long ∙ sym (board_length n (mine_laid a c p) (theirs_laid b c p)))
    (λ k l.
    let ln : k < n = omega (arith, l, same, long) in
    grind (
      arith,
      laid_cell c p board k (omega (arith, l, same)),
      board_get n (mine_laid a c p) (theirs_laid b c p) k ln,
      board_get n a b k ln,
      mine_is a c p k,
      theirs_is b c p k,
    ))

-- the board without pieces
pub empty_board : (n : ℕ) → board_of n 0 0 ≡ replicate n Empty
empty_board n =
    ext_get_or Empty (board_of n 0 0) (replicate n Empty) (board_length n 0 0 ∙ sym (length-replicate n Empty))
    (λ k l. let ln : k < n = subst (λ (m : ℕ). k < m) (board_length n 0 0) l in
    let none : has_cell 0 k ≡ false = ap (λ (v : ℕ). eqb v 1) (bit_at-zero k) in
    board_get n 0 0 k ln ∙ ap₂ cell_by none none ∙ sym (get_or-replicate n k Empty Empty ln))

-- ---- the board passed
turn_board : (n : ℕ) (G : List (List ℕ)) (o : Option (List ℕ)) (a b : ℕ) → is_turn n G o ≡ true → board_of n (turn_mask o a) (turn_mask o b) ≡ turn_by o
    (board_of n a b)
turn_board n G None a b e = refl
turn_board n G (Some t) a b e = sym (image_board n t a b (turn_permutation n G t e))

within_by : (n : ℕ) (G : List (List ℕ)) (o : Option (List ℕ)) (m : ℕ) → is_turn n G o ≡ true → m < 2 ^ n → turn_mask o m < 2 ^ n
within_by n G None m e l = l
within_by n G (Some t) m e l = image_within n t m (turn_permutation n G t e).cells

pub apart_turned : (o : Option (List ℕ)) (a b : ℕ) → bit_and a b ≡ 0 → bit_and (turn_mask o a) (turn_mask o b) ≡ 0
apart_turned None a b e = e
apart_turned (Some t) a b e = image_apart t a b e

-- if the sides are exchanged, the board passed is the board turned with the sides exchanged, and else it is the board turned
pub passed_swapped : (g : PatternGame) (b : List Cell) → g.swapped ≡ true → passed g b ≡ map turned (turn_by g.turn b)
unfolding passed
passed_swapped g b s = ap (λ (x : Bool). turn_by g.turn (swap_by x b)) s ∙ turn_swap g.turn true b

pub passed_same : (g : PatternGame) (b : List Cell) → g.swapped ≡ false → passed g b ≡ turn_by g.turn b
unfolding passed
passed_same g b s = ap (λ (x : Bool). turn_by g.turn (swap_by x b)) s

module _ (n : ℕ) (g : PatternGame) (h : IsPatternGame n g) where
  pub turn_within : (m : ℕ) → m < 2 ^ n → turn_mask g.turn m < 2 ^ n
  turn_within m l = within_by n g.symmetries g.turn m (tables_right n g h).turn l

  -- the board of the turned masks is the board turned
  pub turned_board : (a b : ℕ) → turn_by g.turn (board_of n a b) ≡ board_of n (turn_mask g.turn a) (turn_mask g.turn b)
  turned_board a b = sym (turn_board n g.symmetries g.turn a b (tables_right n g h).turn)

  -- ---- steps
  -- there are at most 25 cells
  pub cells_few : n ≤ 25
  cells_few = (tables_right n g h).few

  -- a step changes cells of the board
  pub cells_within : (t m : ℕ) → m < length (steps_of n g t) → cells_in (step_at n g t m).after < 2 ^ n
  cells_within t m l = (step_right n g h t m l).within

  -- the name of a cell is short
  name_short : (k : ℕ) → k < n → length (get_or g.names k []) ≤ 31
  name_short k l =
      let right = tables_right n g h in
      let e = right.cell_names in
      let test = passes is_cell_name g.names (get_or g.names k []) right.named (Contains-get_or g.names k [] (omega (arith, e, l))) in
      leb-true _ _ (and_left _ _ (and_right _ _ test))

  -- it is named by cells of the board, whose names are short
  pub step_named : (t m : ℕ) → m < length (steps_of n g t)
      → ((step_at n g t m).from < length g.names) × ((step_at n g t m).to < length g.names) × (length (get_or g.names (step_at n g t m).from []) ≤ 31)
      × (length (get_or g.names (step_at n g t m).to []) ≤ 31)
  step_named t m l =
      let r = step_right n g h t m l in
      let from = r.from in
      let to = r.to in
      let e = (tables_right n g h).cell_names in
      (omega (arith, e, from), omega (arith, e, to), name_short _ r.from, name_short _ r.to)

-- a step as the code reads it
pub step_read : (steps : List Step) (m : ℕ) (d : Step) → m < length steps → get_or steps m no_step ≡ get_or steps m d
step_read steps m d l = get_or_default steps m no_step d l

-- a legal board has no more pieces than cells
pub legal_few : (n : ℕ) (g : PatternGame) (b : List Cell) → legal n g b ≡ true → number_of is_mine b + number_of is_theirs b ≤ n
legal_few n g b l = have_few n g _ _ (legal_in n g b l).numbers
