-- The index of a board by its masks, and the masks of an index.
use Rattle.std.proofs.Common.{◌≡◌, ℕ, zero, suc, ◌+◌, ◌-◌, ◌*◌, ◌/◌, ◌%◌, ◌^◌, ◌<◌, ◌≤◌, Bool, true, false, not, ◌&&◌, ◌||◌, eqb, List, [], ◌∷◌, map, reverse, length, w32, refl, sym, ap, ap₂, ◌∙◌, subst, arith, inl, inr, mod-lt, div-lt_iff_lt-mul, lt_trans}
use Rattle.std.proofs.lemmas.Bool.{cases_lt, true≢false}
use Rattle.std.proofs.lemmas.List.{reverse-reverse}
use Rattle.std.proofs.Math.Pow.{pow_mono}
use Rattle.std.proofs.lemmas.Nat.{and_le_r, or_lt, mul-lt}
use Rattle.std.proofs.lemmas.Nat.Bits.{bit_at_above, bit_at_ones}
use Rattle.std.specs.Int.{bit_not}
use Rattle.std.specs.Prelude.{bit_and, bit_or, count_ones}
use Rattle.gm_board.specs.declared.cell.Cell.{Cell}
use Rattle.gm_board.specs.declared.cell.Cell.TheVariants.{Empty, Mine, Theirs}
use Rattle.gm_board.specs.Arrangements.{mine_bits, their_bits, merge}
use Rattle.gm_board.specs.Binomials.{binomial}
use Rattle.gm_board.specs.Cells.{is_taken}
use Rattle.gm_board.specs.Images.{board_of}
use Rattle.gm_board.specs.Masks.{has_cell, tests_of, mask_of, mask_rank, mask_unrank}
use Rattle.gm_board.specs.Pieces.{cells_of, cell_by, AreApart, spread_mask, their_tests}
use Rattle.gm_board.specs.Ranks.{members, rank, unrank}
use Rattle.gm_board.specs.laws.Arrangements.{mine_bits_length, their_bits_length, pos_of_lt_mul}
use Rattle.gm_board.specs.laws.Binomials.{binomial_small}
use Rattle.gm_board.specs.laws.Images.{board_get, board_length, reverse_board}
use Rattle.gm_board.specs.laws.Lists.{and_true}
use Rattle.gm_board.specs.laws.MaskChanges.{has_and, has_or, has_not, has_none, without_within}
use Rattle.gm_board.specs.laws.Masks.{mask_below, mask_rank_at, mask_tests_small, members_small, tests_mask, tests_more, tests_none, tests_unrank}
use Rattle.gm_board.specs.laws.Pieces.{apart_below, cells_back, cells_length, cells_more, cells_none, mine_bits_cells}
use Rattle.gm_board.specs.laws.Ranks.{members_le, unrank_length}
use Rattle.gm_stacks.specs.Heights.{stackings, total, middle_heights, outer_heights, split_stackings, rank_split, unrank_split}
use Rattle.gm_stacks.specs.Stacks.{how_many, heights, is_filled, down, own_bits, placed, has_piece, owners, stacked_boards, stacked_index, stacked_board}
use Rattle.gm_stacks.specs.laws.Columns.{heights_length, heights_low, filled_many, same_heights, same_many}
use Rattle.gm_stacks.specs.laws.SplitRanks.{split_within, split_is, split_total, split_few}
use Rattle.gm_stacks.specs.laws.StackedBoards.{same_down, down_length, down_many, own_members, pieces_many, placed_taken, placed_length}

-- ---- masks as lists of tests
tests_down : (n m : ℕ) → tests_of n m ≡ down (has_cell m) n
tests_down zero m = tests_none m
tests_down (suc n) m = tests_more n m ∙ ap (λ (bs : List Bool). has_cell m n ∷ bs) (tests_down n m)

tests_at : (n : ℕ) (bs : List Bool) → length bs ≡ n → tests_of n (mask_of bs) ≡ bs
tests_at n bs e = ap (λ (k : ℕ). tests_of k (mask_of bs)) (sym e) ∙ tests_mask bs

-- a mask has as many cells as pass its test
ones_many : (n m : ℕ) → m < 2 ^ n → count_ones m ≡ how_many (has_cell m) n
ones_many n m l = sym (members_small n m l) ∙ ap members (tests_down n m) ∙ down_many (has_cell m) n

rank_of_tests : (bs : List Bool) → length bs ≤ 32 → mask_rank (mask_of bs) ≡ rank bs
rank_of_tests bs l = mask_rank_at (length bs) (mask_of bs) l (mask_below bs) ∙ ap rank (tests_mask bs)

-- ---- the cells without a piece
module _ (n taken : ℕ) (few : n ≤ 25) (l : taken < 2 ^ n) where
  -- the cells below n that a mask does not have
  pub free_within : bit_and (bit_not w32 taken) (2 ^ n - 1) < 2 ^ n
  free_within = let a = and_le_r (bit_not w32 taken) (2 ^ n - 1) in omega (arith, a, l)

  pub free_is : (k : ℕ) → k < n → has_cell (bit_and (bit_not w32 taken) (2 ^ n - 1)) k ≡ not (has_cell taken k)
  free_is k i =
      let wide : 2 ^ n ≤ 2 ^ 32 = pow_mono (let z : n ≤ 32 = omega (arith, few) in z) in
      has_and (bit_not w32 taken) (2 ^ n - 1) k
      ∙ ap₂ (λ (a b : Bool). a && b) (has_not taken k (omega (arith, l, wide)) (omega (arith, i, few))) (ap (λ (v : ℕ). eqb v 1) (bit_at_ones n k i))
      ∙ and_true (not (has_cell taken k))

-- a mask of n cells, and that of the others
pub record AreFree (n taken free : ℕ) : Type 0 where
  pub taken_within : taken < 2 ^ n
  pub within : free < 2 ^ n
  pub cells : (k : ℕ) → k < n → has_cell free k ≡ not (has_cell taken k)

module _ (n taken free : ℕ) (f : AreFree n taken free) where
  -- no piece is on the others
  pub free_apart : (mine : ℕ) → ((k : ℕ) → k < n → has_cell mine k ≡ true → has_cell taken k ≡ true) → bit_and free mine ≡ 0
  free_apart mine h = has_none (bit_and free mine) (λ k. has_and free mine k ∙ (elim (cases_lt k n) [
    | inl i ↦ ap (λ (b : Bool). b && has_cell mine k) (f.cells k i) ∙ never (has_cell taken k) (has_cell mine k) (h k i)
    | inr i ↦ ap (λ (v : ℕ). eqb v 1 && has_cell mine k) (bit_at_above free n k f.within i)
  ]))
    where
      never : (a b : Bool) → (b ≡ true → a ≡ true) → (not a && b) ≡ false
      never true b e = refl
      never false true e = absurd (true≢false (sym (e refl)))
      never false false e = refl

  free_tests : tests_of n free ≡ map not (tests_of n taken)
  free_tests = tests_down n free ∙ same_down (has_cell free) (λ k. not (has_cell taken k)) n f.cells ∙ turned (has_cell taken) n
      ∙ ap (map not) (sym (tests_down n taken))
    where
      turned : (p : ℕ → Bool) (n : ℕ) → down (λ k. not (p k)) n ≡ map not (down p n)
      turned p zero = refl
      turned p (suc n) = ap (λ (bs : List Bool). not (p n) ∷ bs) (turned p n)

  -- all but the others are as many as have a piece
  pub free_many : n - count_ones free ≡ count_ones taken
  free_many =
      let a = members_small n free f.within in
      let b = members_small n taken f.taken_within in
      let e = ap members free_tests in
      let m = both (tests_of n taken) in
      let s = ap length (tests_down n taken) ∙ down_length (has_cell taken) n in
      omega (arith, a, b, e, m, s)
    where
      both : (bs : List Bool) → members (map not bs) + members bs ≡ length bs
      both [] = refl
      both (true ∷ bs) = omega (arith, both bs)
      both (false ∷ bs) = omega (arith, both bs)

-- ---- the index of a board
module _ (n mine theirs free : ℕ) (few : n ≤ 25) (la : mine < 2 ^ n) (lb : theirs < 2 ^ n) (apart : bit_and mine theirs ≡ 0)
    (f : AreFree n (bit_or mine theirs) free) where
  abbrev taken : ℕ
  taken = bit_or mine theirs

  taken_is : (k : ℕ) → k < n → has_cell taken k ≡ has_piece (board_of n mine theirs) k
  taken_is k l = has_or mine theirs k ∙ by (has_cell mine k) (has_cell theirs k) ∙ ap is_taken (sym (board_get n mine theirs k l))
    where
      by : (a b : Bool) → (a || b) ≡ is_taken (cell_by a b)
      by true b = refl
      by false true = refl
      by false false = refl

  pub own_taken : (k : ℕ) → k < n → has_cell mine k ≡ true → has_cell taken k ≡ true
  own_taken k l e = has_or mine theirs k ∙ ap (λ (b : Bool). b || has_cell theirs k) e

  -- the pieces packed
  own_packed : their_bits (cells_of n free mine) ≡ owners (board_of n mine theirs)
  own_packed = packed n (λ k l. f.cells k l ∙ ap not (has_or mine theirs k)) (apart_below n mine theirs apart)
      ∙ ap own_bits (sym (reverse_board n mine theirs))
    where
      one : (m t : Bool) (cs ds : List Cell) → (m ≡ true → t ≡ false) → their_bits cs ≡ own_bits ds
          → their_bits (cell_by (not (m || t)) m ∷ cs) ≡ own_bits (cell_by m t ∷ ds)
      one true t cs ds a e = ap (λ (bs : List Bool). true ∷ bs) e
      one false true cs ds a e = ap (λ (bs : List Bool). false ∷ bs) e
      one false false cs ds a e = e

      packed : (m : ℕ) → ((k : ℕ) → k < m → has_cell free k ≡ not (has_cell mine k || has_cell theirs k)) → AreApart m mine theirs
          → their_bits (cells_of m free mine) ≡ own_bits (cells_of m mine theirs)
      packed zero h a = ap their_bits (cells_none free mine) ∙ sym (ap own_bits (cells_none mine theirs))
      packed (suc m) h a =
          ap their_bits (cells_more m free mine)
          ∙ ap (λ (b : Bool). their_bits (cell_by b (has_cell mine m) ∷ cells_of m free mine)) (h m (omega arith))
          ∙ one (has_cell mine m) (has_cell theirs m) (cells_of m free mine) (cells_of m mine theirs) (a m (omega arith))
          (packed m (λ k l. h k (omega arith)) (λ k l. a k (omega arith)))
          ∙ sym (ap own_bits (cells_more m mine theirs))

  packed_short : length (their_bits (cells_of n free mine)) ≤ 32
  packed_short =
      let a = their_bits_length (cells_of n free mine) in let b = cells_length n free mine in omega (arith, a, b, few)

  all_many : count_ones taken ≡ length (owners (board_of n mine theirs))
  all_many =
      ones_many n taken (or_lt n mine theirs la lb)
      ∙ same_many (has_cell taken) (has_piece (board_of n mine theirs)) n taken_is
      ∙ ap (how_many (has_piece (board_of n mine theirs))) (sym (board_length n mine theirs))
      ∙ sym (pieces_many (board_of n mine theirs))

  own_many : count_ones mine ≡ members (owners (board_of n mine theirs))
  own_many =
      sym (members_small n mine la)
      ∙ ap members (sym (mine_bits_cells n mine theirs))
      ∙ sym (own_members (cells_of n mine theirs))
      ∙ ap (λ (cs : List Cell). members (own_bits cs)) (sym (reverse_board n mine theirs))

  -- the index of a board by the ranks of its heights and of its packed pieces
  pub index_is : (w h k a b own : ℕ) → n ≡ h * w → a ≡ rank_split h k (heights w h (has_cell taken)) → b ≡ binomial (count_ones taken) (count_ones mine)
      → own ≡ mask_rank (mask_of (their_bits (cells_of n free mine))) → a * b + own ≡ stacked_index w h k (board_of n mine theirs)
  unfolding stacked_index
  index_is w h k a b own size ea eb eo =
      ap₂ (λ (x y : ℕ). x + y)
      (ap₂ (λ (x y : ℕ). x * y)
      (ea ∙ ap (rank_split h k) (same_heights w h (has_cell taken) (has_piece (board_of n mine theirs)) (λ i l. taken_is i (omega (arith, size, l)))))
      (eb ∙ ap₂ binomial all_many own_many))
      (eo ∙ rank_of_tests (their_bits (cells_of n free mine)) packed_short ∙ ap rank own_packed)

-- the rank of heights is small
pub rank_small : (w h k : ℕ) (p : ℕ → Bool) → h ≤ 6 → w ≤ 6 → k ≤ w → rank_split h k (heights w h p) < 117649
rank_small w h k p l j wide =
    let hs = heights w h p in
    let a = split_within h w k (total (outer_heights k hs)) (total (middle_heights k hs)) wide hs
    (record { columns = heights_length w h p; low = heights_low w h p; outer = refl; middle = refl }) in
    let b = split_few h w k (total (outer_heights k hs)) (total (middle_heights k hs)) l j wide in
    omega (arith, a, b)

-- a number of lists of heights times a number of ways fits
pub boards_fit : (w h k n m a b c : ℕ) → h ≤ 6 → w ≤ 6 → k ≤ w → a ≡ stackings h k m → b ≡ stackings h (w - k) n → c < 2 ^ 32 → a * b * c < 2 ^ 63
unfolding split_stackings
boards_fit w h k n m a b c l j wide ea eb small =
    let s = split_few h w k n m l j wide in
    let e : a * b ≡ stackings h k m * stackings h (w - k) n = ap₂ (λ (x y : ℕ). x * y) ea eb in
    let p = mul-lt (a * b) c 117650 (2 ^ 32) (omega (arith, s, e)) small in
    omega (arith, p)

-- a rank of heights times a number of ways fits
pub index_fits : (a b : ℕ) → a < 117649 → b < 2 ^ 32 → a * b < 2 ^ 63
index_fits a b l m = let p = mul-lt a b 117649 (2 ^ 32) l m in omega (arith, p)

-- and so does a rank
pub own_small : (n k own : ℕ) → n ≤ 32 → own < binomial n k → own < 2 ^ 32
own_small n k own l m = lt_trans m (binomial_small n k l)

-- a board has no more pieces than cells
pub count_few : (n m : ℕ) → m < 2 ^ n → count_ones m ≤ n
count_few n m l = let a = members_small n m l in let b = members_le (tests_of n m) in let s = ap length (tests_down n m) ∙ down_length (has_cell m) n in omega (arith, a, b, s)

-- ---- the masks of an index
-- the two ranks of an index, by the number of ways for the mover's pieces
pub record AreRanks (w h k n m own index ways : ℕ) : Type 0 where
  pub some : 0 < ways
  pub high : index / ways < split_stackings h w k n m
  pub low : index % ways < binomial (n + m) own

pub ranks : (w h k n m own index ways : ℕ) → index < stacked_boards w h k n m own → ways ≡ binomial (n + m) own → AreRanks w h k n m own index ways
unfolding stacked_boards
ranks w h k n m own index ways l e =
    let i : index < split_stackings h w k n m * ways = subst (λ (v : ℕ). index < split_stackings h w k n m * v) (sym e) l in
    let p : 0 < ways = pos_of_lt_mul index (split_stackings h w k n m) ways i in
    record { some = p; high = (div-lt_iff_lt-mul p).1 i; low = subst (λ (v : ℕ). index % ways < v) e (mod-lt index p) }

-- the mover's pieces of the tests of a board are those that are spread over the cells that have one
spread_placed : (ts os : List Bool) → their_tests (merge (map not ts) os) ≡ mine_bits (placed ts os)
spread_placed [] os = refl
spread_placed (true ∷ ts) [] = ap (λ (bs : List Bool). false ∷ bs) (spread_placed ts [])
spread_placed (true ∷ ts) (true ∷ os) = ap (λ (bs : List Bool). true ∷ bs) (spread_placed ts os)
spread_placed (true ∷ ts) (false ∷ os) = ap (λ (bs : List Bool). false ∷ bs) (spread_placed ts os)
spread_placed (false ∷ ts) os = ap (λ (bs : List Bool). false ∷ bs) (spread_placed ts os)

-- the tests that the first list passes and the second does not
but : List Bool → List Bool → List Bool
but [] bs = []
but (t ∷ ts) [] = []
but (t ∷ ts) (b ∷ bs) = (t && not b) ∷ but ts bs

down_but : (p q : ℕ → Bool) (n : ℕ) → down (λ k. p k && not (q k)) n ≡ but (down p n) (down q n)
unfolding but
down_but p q zero = refl
down_but p q (suc n) = ap (λ (bs : List Bool). (p n && not (q n)) ∷ bs) (down_but p q n)

their_but : (cs : List Cell) → their_tests cs ≡ but (map is_taken cs) (mine_bits cs)
unfolding but
their_but [] = refl
their_but (Mine ∷ cs) = ap (λ (bs : List Bool). false ∷ bs) (their_but cs)
their_but (Theirs ∷ cs) = ap (λ (bs : List Bool). true ∷ bs) (their_but cs)
their_but (Empty ∷ cs) = ap (λ (bs : List Bool). false ∷ bs) (their_but cs)

-- the masks of an index
pub record AreMasks (w h k n m own index mine theirs : ℕ) : Type 0 where
  pub mine_within : mine < 2 ^ (h * w)
  pub theirs_within : theirs < 2 ^ (h * w)
  pub apart : bit_and mine theirs ≡ 0
  pub board : board_of (h * w) mine theirs ≡ stacked_board w h k n m own index

module _ (w h k n m own index ways taken free packed : ℕ) (few : h * w ≤ 25) (wide : k ≤ w) (l : index < stacked_boards w h k n m own)
    (e : ways ≡ binomial (n + m) own) (f : AreFree (h * w) taken free)
    (c : (i : ℕ) → i < h * w → has_cell taken i ≡ is_filled w h (unrank_split h w k n m (index / ways)) i)
    (p : packed ≡ mask_unrank (n + m) own (index % ways)) where
  abbrev hs : List ℕ
  hs = unrank_split h w k n m (index / ways)

  abbrev ts : List Bool
  ts = down (is_filled w h hs) (h * w)

  abbrev os : List Bool
  os = unrank (n + m) own (index % ways)

  abbrev mine : ℕ
  mine = spread_mask (h * w) free packed

  abbrev theirs : ℕ
  theirs = bit_and taken (bit_not w32 mine)

  filled_all : how_many (is_filled w h hs) (h * w) ≡ n + m
  filled_all =
      let r = split_is h w k n m wide (index / ways) (ranks w h k n m own index ways l e).high in
      filled_many w h hs r.columns r.low ∙ split_total h w k n m wide hs r

  taken_many : count_ones taken ≡ n + m
  taken_many = ones_many (h * w) taken f.taken_within ∙ same_many (has_cell taken) (is_filled w h hs) (h * w) c ∙ filled_all

  -- as many cells have a piece
  pub free_pieces : h * w - count_ones free ≡ n + m
  free_pieces = free_many (h * w) taken free f ∙ taken_many

  taken_tests : tests_of (h * w) taken ≡ ts
  taken_tests = tests_down (h * w) taken ∙ same_down (has_cell taken) (is_filled w h hs) (h * w) c

  fit : length os ≡ members ts
  fit = unrank_length (n + m) own (index % ways) ∙ sym filled_all ∙ sym (down_many (is_filled w h hs) (h * w))

  cells_length_is : length (placed ts os) ≡ h * w
  cells_length_is = placed_length ts os ∙ down_length (is_filled w h hs) (h * w)

  mine_is : mine ≡ mask_of (mine_bits (placed ts os))
  unfolding spread_mask
  mine_is =
      let t = free_tests (h * w) taken free f ∙ ap (map not) taken_tests in
      let j : h * w - members (tests_of (h * w) free) ≡ n + m = ap (λ (x : ℕ). h * w - x) (members_small (h * w) free f.within) ∙ free_pieces in
      ap₂ (λ (bs : List Bool) (x : ℕ). mask_of (their_tests (merge bs (tests_of x packed)))) t j
      ∙ ap (λ (bs : List Bool). mask_of (their_tests (merge (map not ts) bs))) (ap (tests_of (n + m)) p ∙ tests_unrank (n + m) own (index % ways))
      ∙ ap mask_of (spread_placed ts os)

  -- the masks fit the board, and no cell is in both
  mine_within : mine < 2 ^ (h * w)
  mine_within = subst (λ (m : ℕ). m < 2 ^ (h * w)) (sym mine_is)
      (subst (λ (x : ℕ). mask_of (mine_bits (placed ts os)) < 2 ^ x) (mine_bits_length (placed ts os) ∙ cells_length_is) (mask_below (mine_bits (placed ts os))))

  without_is : (k : ℕ) → k < h * w → has_cell theirs k ≡ (has_cell taken k && not (has_cell mine k))
  without_is k i =
      let wide : 2 ^ (h * w) ≤ 2 ^ 32 = pow_mono (let z : h * w ≤ 32 = omega (arith, few) in z) in
      has_and taken (bit_not w32 mine) k ∙ ap (λ (b : Bool). has_cell taken k && b) (has_not mine k (omega (arith, mine_within, wide)) (omega (arith, i, few)))

  theirs_within : theirs < 2 ^ (h * w)
  theirs_within = without_within (h * w) taken (bit_not w32 mine) f.taken_within

  masks_apart : bit_and mine theirs ≡ 0
  masks_apart = has_none (bit_and mine theirs) (λ k. has_and mine theirs k ∙ (elim (cases_lt k (h * w)) [
    | inl i ↦ ap (λ (b : Bool). has_cell mine k && b) (without_is k i) ∙ never (has_cell mine k) (has_cell taken k)
    | inr i ↦ ap (λ (v : ℕ). eqb v 1 && has_cell theirs k) (bit_at_above mine (h * w) k mine_within i)
  ]))
    where
      never : (a b : Bool) → (a && (b && not a)) ≡ false
      never true true = refl
      never true false = refl
      never false b = refl

  theirs_is : theirs ≡ mask_of (their_tests (placed ts os))
  theirs_is =
      sym (mask_tests_small (h * w) theirs theirs_within)
      ∙ ap mask_of (tests_down (h * w) theirs
      ∙ same_down (has_cell theirs) (λ k. has_cell taken k && not (has_cell mine k)) (h * w) without_is
      ∙ down_but (has_cell taken) (has_cell mine) (h * w)
      ∙ ap₂ but (sym (tests_down (h * w) taken) ∙ taken_tests ∙ sym (placed_taken ts os fit))
      (sym (tests_down (h * w) mine) ∙ ap (tests_of (h * w)) mine_is
      ∙ tests_at (h * w) (mine_bits (placed ts os)) (mine_bits_length (placed ts os) ∙ cells_length_is))
      ∙ sym (their_but (placed ts os)))

  board_is : board_of (h * w) mine theirs ≡ stacked_board w h k n m own index
  unfolding stacked_board
  board_is =
      sym (reverse-reverse (board_of (h * w) mine theirs))
      ∙ ap reverse (reverse_board (h * w) mine theirs
      ∙ ap₂ (cells_of (h * w)) mine_is theirs_is
      ∙ cells_back (h * w) (placed ts os) cells_length_is
      ∙ ap (λ (v : ℕ). placed (down (is_filled w h (unrank_split h w k n m (index / v))) (h * w)) (unrank (n + m) own (index % v))) e)

  -- the masks of the mover's pieces spread over the cells with a piece, and of the others
  pub masks_are : (a : ℕ) → a ≡ mine → AreMasks w h k n m own index a (bit_and taken (bit_not w32 a))
  masks_are a q = subst (λ (x : ℕ). AreMasks w h k n m own index x (bit_and taken (bit_not w32 x))) (sym q)
      (record { mine_within = mine_within; theirs_within = theirs_within; apart = masks_apart; board = board_is })
