-- The numbering of boards whose pieces stand on one another is one to one.
use Rattle.std.proofs.Common.{◌≡◌, ℕ, zero, suc, ◌+◌, ◌-◌, ◌*◌, ◌/◌, ◌%◌, ◌^◌, ◌<◌, ◌≤◌, Bool, true, false, List, [], ◌∷◌, map, reverse, length, refl, sym, ap, ap₂, ◌∙◌, subst, arith, inl, inr, zero-add, mod-lt, div-lt_iff_lt-mul}
use Rattle.std.proofs.lemmas.Bool.{cases_lt}
use Rattle.std.specs.List.{range_with_len}
use Rattle.std.proofs.Math.Nat.{mod-add-div'}
use Rattle.std.proofs.lemmas.List.{ext_get_or, length-reverse, reverse-reverse, reverse-append}
use Rattle.std.proofs.lemmas.List.FromFn.{get_or-map-range_with_len, length-map-range_with_len, map-range_with_len_more}
use Rattle.std.proofs.lemmas.Nat.{div-mul-add, mod-mul-add, mul-lt}
use Rattle.gm_board.specs.declared.cell.Cell.{Cell}
use Rattle.gm_board.specs.declared.cell.Cell.TheVariants.{Empty, Mine, Theirs}
use Rattle.gm_board.specs.Arrangements.{mine_bits, their_bits}
use Rattle.gm_board.specs.Binomials.{binomial}
use Rattle.gm_board.specs.Cells.{is_taken, is_mine, is_theirs, cell_at, number_of}
use Rattle.gm_board.specs.Ranks.{members, rank, unrank}
use Rattle.gm_board.specs.laws.Arrangements.{pos_of_lt_mul, two_digits}
use Rattle.gm_board.specs.laws.Binomials.{binomial_small}
use Rattle.gm_board.specs.laws.CellCounts.{one_if, mine_members, their_members, number_reverse}
use Rattle.gm_board.specs.laws.Ranks.{rank_below, rank_unrank, unrank_rank, unrank_length, unrank_members}
use Rattle.gm_stacks.specs.Heights.{stackings, total, AreHeights, middle_heights, outer_heights, split_stackings, rank_split, unrank_split}
use Rattle.gm_stacks.specs.Stacks.{how_many, heights, is_filled, IsStacked, down, own_bits, placed, has_piece, owners, stacked_boards, stacked_index, stacked_heights, stacked_board}
use Rattle.gm_stacks.specs.laws.Columns.{heights_length, heights_low, heights_total, filled_are, heights_back, filled_many, filled_stacked, same_heights}
use Rattle.gm_stacks.specs.laws.SplitRanks.{middle_length, outer_length, middle_low, outer_low, IsSplit, total_parts, split_total, split_within, split_back, split_is, split_again, split_few, no_middle_stackings}

-- ---- cells, the last first
-- functions that agree below n have the same values there
pub same_down : {X : Type 0} (f g : ℕ → X) (n : ℕ) → ((k : ℕ) → k < n → f k ≡ g k) → down f n ≡ down g n
same_down f g zero h = refl
same_down {X} f g (suc n) h = ap₂ (λ (x : X) (xs : List X). x ∷ xs) (h n (omega arith)) (same_down f g n (λ k l. h k (omega arith)))

-- and the reverse
down_same : (f g : ℕ → Bool) (n : ℕ) → down f n ≡ down g n → (k : ℕ) → k < n → f k ≡ g k
down_same f g zero e k l = absurd (omega arith)
down_same f g (suc n) e k l = elim (cases_lt k n) [
  | inl i ↦ down_same f g n (let z : down f n ≡ down g n = cc in z) k i
  | inr i ↦ let z : f n ≡ g n = cc in let q : k ≡ n = omega arith in ap f q ∙ z ∙ ap g (sym q)
]

pub down_length : {X : Type 0} (f : ℕ → X) (n : ℕ) → length (down f n) ≡ n
down_length f zero = refl
down_length f (suc n) = ap suc (down_length f n)

map_down : (f : ℕ → Cell) (n : ℕ) → map is_taken (down f n) ≡ down (λ k. is_taken (f k)) n
map_down f zero = refl
map_down f (suc n) = ap (λ (bs : List Bool). is_taken (f n) ∷ bs) (map_down f n)

-- a board, the last cell first
pub reverse_down : (b : List Cell) → reverse b ≡ down (cell_at b) (length b)
reverse_down b = ap reverse cells ∙ turned (cell_at b) (length b)
  where
    cells : b ≡ map (cell_at b) (range_with_len 0 (length b))
    cells = ext_get_or Empty _ _ (sym (length-map-range_with_len (cell_at b) 0 (length b)))
        (λ k l. sym (get_or-map-range_with_len (cell_at b) 0 (length b) k k Empty l (zero-add k)))

    turned : (f : ℕ → Cell) (n : ℕ) → reverse (map f (range_with_len 0 n)) ≡ down f n
    turned f zero = refl
    turned f (suc n) =
        ap (λ (k : ℕ). reverse (map f (range_with_len 0 k))) (let z : suc n ≡ n + 1 = omega arith in z)
        ∙ ap reverse (map-range_with_len_more f 0 n n (zero-add n))
        ∙ reverse-append (map f (range_with_len 0 n)) (f n ∷ [])
        ∙ ap (λ (cs : List Cell). f n ∷ cs) (turned f n)

-- ---- pieces placed
-- the cells give back where pieces are and whose they are
pub placed_back : (cs : List Cell) → placed (map is_taken cs) (own_bits cs) ≡ cs
placed_back [] = refl
placed_back (Mine ∷ cs) = ap (λ (ds : List Cell). Mine ∷ ds) (placed_back cs)
placed_back (Theirs ∷ cs) = ap (λ (ds : List Cell). Theirs ∷ ds) (placed_back cs)
placed_back (Empty ∷ cs) = ap (λ (ds : List Cell). Empty ∷ ds) (placed_back cs)

pub placed_taken : (ts os : List Bool) → length os ≡ members ts → map is_taken (placed ts os) ≡ ts
placed_taken [] os e = refl
placed_taken (false ∷ ts) os e = ap (λ (bs : List Bool). false ∷ bs) (placed_taken ts os e)
placed_taken (true ∷ ts) [] e = absurd (omega arith)
placed_taken (true ∷ ts) (true ∷ os) e = ap (λ (bs : List Bool). true ∷ bs) (placed_taken ts os (omega arith))
placed_taken (true ∷ ts) (false ∷ os) e = ap (λ (bs : List Bool). true ∷ bs) (placed_taken ts os (omega arith))

pub placed_own : (ts os : List Bool) → length os ≡ members ts → own_bits (placed ts os) ≡ os
placed_own [] [] e = refl
placed_own [] (o ∷ os) e = absurd (omega arith)
placed_own (false ∷ ts) os e = placed_own ts os e
placed_own (true ∷ ts) [] e = absurd (omega arith)
placed_own (true ∷ ts) (true ∷ os) e = ap (λ (bs : List Bool). true ∷ bs) (placed_own ts os (omega arith))
placed_own (true ∷ ts) (false ∷ os) e = ap (λ (bs : List Bool). false ∷ bs) (placed_own ts os (omega arith))

pub placed_length : (ts os : List Bool) → length (placed ts os) ≡ length ts
placed_length [] os = refl
placed_length (false ∷ ts) os = ap suc (placed_length ts os)
placed_length (true ∷ ts) [] = ap suc (placed_length ts [])
placed_length (true ∷ ts) (o ∷ os) = ap suc (placed_length ts os)

-- ---- numbers of pieces
own_length : (cs : List Cell) → length (own_bits cs) ≡ members (mine_bits cs) + members (their_bits cs)
own_length [] = refl
own_length (Mine ∷ cs) = omega (arith, own_length cs)
own_length (Theirs ∷ cs) = omega (arith, own_length cs)
own_length (Empty ∷ cs) = own_length cs

-- the mover's pieces are as many in both lists
pub own_members : (cs : List Cell) → members (own_bits cs) ≡ members (mine_bits cs)
own_members [] = refl
own_members (Mine ∷ cs) = ap suc (own_members cs)
own_members (Theirs ∷ cs) = own_members cs
own_members (Empty ∷ cs) = own_members cs

-- one owner for each piece, and the mover's among them
pub owners_length : (b : List Cell) → length (owners b) ≡ number_of is_mine b + number_of is_theirs b
owners_length b =
    own_length (reverse b)
    ∙ ap₂ (λ (x y : ℕ). x + y) (mine_members (reverse b) ∙ number_reverse is_mine b) (their_members (reverse b) ∙ number_reverse is_theirs b)

pub owners_members : (b : List Cell) → members (owners b) ≡ number_of is_mine b
owners_members b = own_members (reverse b) ∙ mine_members (reverse b) ∙ number_reverse is_mine b

own_many : (f : ℕ → Cell) (n : ℕ) → length (own_bits (down f n)) ≡ how_many (λ k. is_taken (f k)) n
own_many f zero = refl
own_many f (suc n) = elim (f n) as (λ c. length (own_bits (c ∷ down f n)) ≡ one_if (is_taken c) + how_many (λ k. is_taken (f k)) n) [
  | Empty ↦ omega (arith, own_many f n)
  | Mine ↦ omega (arith, own_many f n)
  | Theirs ↦ omega (arith, own_many f n)
]

-- there is a piece for each cell that has one
pub pieces_many : (b : List Cell) → length (owners b) ≡ how_many (has_piece b) (length b)
pieces_many b = ap (λ (cs : List Cell). length (own_bits cs)) (reverse_down b) ∙ own_many (cell_at b) (length b)

-- as many tests are passed
pub down_many : (p : ℕ → Bool) (n : ℕ) → members (down p n) ≡ how_many p n
down_many p zero = refl
down_many p (suc n) = elim (p n) as (λ x. members (x ∷ down p n) ≡ one_if x + how_many p n) [
  | true ↦ omega (arith, down_many p n)
  | false ↦ omega (arith, down_many p n)
]

-- the heights have as many pieces as the board
pub all_pieces : (w h : ℕ) (b : List Cell) → length b ≡ h * w → number_of is_mine b + number_of is_theirs b ≡ total (heights w h (has_piece b))
all_pieces w h b e = sym (owners_length b) ∙ pieces_many b ∙ ap (how_many (has_piece b)) e ∙ sym (heights_total w h (has_piece b))

-- no part has more pieces than cells, and together they have all
pub record AreParts (w h k : ℕ) (p : ℕ → Bool) : Type 0 where
  pub all : total (heights w h p) ≡ total (outer_heights k (heights w h p)) + total (middle_heights k (heights w h p))
  pub middle : total (middle_heights k (heights w h p)) ≤ h * k
  pub outer : total (outer_heights k (heights w h p)) ≤ h * (w - k)

pub heights_parts : (w h k : ℕ) (p : ℕ → Bool) → k ≤ w → AreParts w h k p
heights_parts w h k p wide =
    let hs = heights w h p in
    let n = heights_length w h p in
    let inside : k ≤ length hs = omega (arith, n, wide) in
    let low = heights_low w h p in
    record {
      all = total_parts k hs inside;
      middle = subst (λ (x : ℕ). total (middle_heights k hs) ≤ h * x) (middle_length k hs inside) (total_low h (middle_heights k hs) (middle_low k hs inside h low));
      outer = subst (λ (x : ℕ). total (outer_heights k hs) ≤ h * x) (outer_length k hs inside ∙ ap (λ (x : ℕ). x - k) n)
          (total_low h (outer_heights k hs) (outer_low k hs inside h low));
    }
  where
    total_low : (h : ℕ) (xs : List ℕ) → AreHeights h xs → total xs ≤ h * length xs
    total_low h [] a = omega arith
    total_low h (x ∷ xs) a = omega (arith, a.0, total_low h xs a.1)

-- ---- the numbering
-- the board has h rows of w cells, m pieces on the k middle columns and n on the others, of which `mover` are the mover's, all stacked
pub record IsStackedBoard (w h k n m mover : ℕ) (b : List Cell) : Type 0 where
  pub cells : length b ≡ h * w
  pub all : number_of is_mine b + number_of is_theirs b ≡ n + m
  pub own : number_of is_mine b ≡ mover
  pub middle : total (middle_heights k (heights w h (has_piece b))) ≡ m
  pub stacked : IsStacked w h (has_piece b)

module _ (w h k n m own : ℕ) (wide : k ≤ w) where
  module _ (b : List Cell) (d : IsStackedBoard w h k n m own b) where
    many : length (owners b) ≡ n + m
    many = owners_length b ∙ d.all

    mine : members (owners b) ≡ own
    mine = owners_members b ∙ d.own

    high : total (heights w h (has_piece b)) ≡ n + m
    high = heights_total w h (has_piece b) ∙ ap (how_many (has_piece b)) (sym d.cells) ∙ sym (pieces_many b) ∙ many

    own_rank : rank (owners b) < binomial (n + m) own
    own_rank = subst (λ (x : ℕ). rank (owners b) < x) (ap₂ binomial many mine) (rank_below (owners b))

    split : IsSplit h w k n m (heights w h (has_piece b))
    split = record {
      columns = heights_length w h (has_piece b);
      low = heights_low w h (has_piece b);
      outer =
          let e = total_parts k (heights w h (has_piece b)) (let l = heights_length w h (has_piece b) in omega (arith, l, wide)) in
          let f = d.middle in
          omega (arith, e, f, high);
      middle = d.middle;
    }

    rank_high : rank_split h k (heights w h (has_piece b)) < split_stackings h w k n m
    rank_high = split_within h w k n m wide (heights w h (has_piece b)) split

    index_is : stacked_index w h k b ≡ rank_split h k (heights w h (has_piece b)) * binomial (n + m) own + rank (owners b)
    unfolding stacked_index
    index_is = ap (λ (x : ℕ). rank_split h k (heights w h (has_piece b)) * x + rank (owners b)) (ap₂ binomial many mine)

    -- the index of a board is below the number of boards
    pub stacked_below : stacked_index w h k b < stacked_boards w h k n m own
    unfolding stacked_boards
    stacked_below = subst (λ (x : ℕ). x < split_stackings h w k n m * binomial (n + m) own) (sym index_is) (two_digits _ _ _ _ rank_high own_rank)

    -- the index gives the heights back
    high_back : stacked_heights w h k n m own (stacked_index w h k b) ≡ heights w h (has_piece b)
    high_back =
        let hs = heights w h (has_piece b) in
        ap (unrank_split h w k n m) (ap (λ (x : ℕ). x / binomial (n + m) own) index_is ∙ div-mul-add (rank_split h k hs) (binomial (n + m) own) (rank (owners b)) own_rank)
        ∙ split_back h w k n m wide hs split

    -- and the board
    pub stacked_back : stacked_board w h k n m own (stacked_index w h k b) ≡ b
    unfolding stacked_board
    stacked_back =
        let hs = heights w h (has_piece b) in
        let taken : down (is_filled w h (stacked_heights w h k n m own (stacked_index w h k b))) (h * w) ≡ map is_taken (reverse b) =
        ap (λ (xs : List ℕ). down (is_filled w h xs) (h * w)) high_back
        ∙ same_down (is_filled w h hs) (has_piece b) (h * w) (λ k l. sym (filled_are w h (has_piece b) d.stacked k l))
        ∙ ap (down (has_piece b)) (sym d.cells)
        ∙ sym (map_down (cell_at b) (length b))
        ∙ ap (map is_taken) (sym (reverse_down b)) in
        let whose : unrank (n + m) own (stacked_index w h k b % binomial (n + m) own) ≡ owners b =
        ap (unrank (n + m) own) (ap (λ (x : ℕ). x % binomial (n + m) own) index_is ∙ mod-mul-add (rank_split h k hs) (binomial (n + m) own) (rank (owners b)) own_rank)
        ∙ ap₂ (λ (x y : ℕ). unrank x y (rank (owners b))) (sym many) (sym mine)
        ∙ unrank_rank (owners b) in
        ap reverse (ap₂ placed taken whose ∙ placed_back (reverse b)) ∙ reverse-reverse b

  module _ (i : ℕ) (l : i < stacked_boards w h k n m own) where
    ways : 0 < binomial (n + m) own
    unfolding stacked_boards
    ways = pos_of_lt_mul i (split_stackings h w k n m) (binomial (n + m) own) l

    abbrev hs : List ℕ
    hs = stacked_heights w h k n m own i

    abbrev os : List Bool
    os = unrank (n + m) own (i % binomial (n + m) own)

    abbrev ts : List Bool
    ts = down (is_filled w h hs) (h * w)

    -- the heights of an index
    pub high_below : i / binomial (n + m) own < split_stackings h w k n m
    unfolding stacked_boards
    high_below = (div-lt_iff_lt-mul ways).1 l

    pub high_is : IsSplit h w k n m hs
    high_is = split_is h w k n m wide (i / binomial (n + m) own) high_below

    high_total : total hs ≡ n + m
    high_total = split_total h w k n m wide hs high_is

    fit : length os ≡ members ts
    fit =
        unrank_length (n + m) own (i % binomial (n + m) own)
        ∙ sym high_total
        ∙ sym (filled_many w h hs high_is.columns high_is.low)
        ∙ sym (down_many (is_filled w h hs) (h * w))

    -- the cells of the board, the last first
    cells_are : reverse (stacked_board w h k n m own i) ≡ placed ts os
    unfolding stacked_board
    cells_are = reverse-reverse (placed ts os)

    cells_length : length (stacked_board w h k n m own i) ≡ h * w
    cells_length =
        sym (length-reverse (stacked_board w h k n m own i)) ∙ ap length cells_are ∙ placed_length ts os ∙ down_length (is_filled w h hs) (h * w)

    owners_are : owners (stacked_board w h k n m own i) ≡ os
    owners_are = ap own_bits cells_are ∙ placed_own ts os fit

    -- the cells with pieces are those of the heights
    pub filled_is : (c : ℕ) → c < h * w → has_piece (stacked_board w h k n m own i) c ≡ is_filled w h hs c
    filled_is = down_same (has_piece (stacked_board w h k n m own i)) (is_filled w h hs) (h * w)
        (ap (down (has_piece (stacked_board w h k n m own i))) (sym cells_length)
        ∙ sym (map_down (cell_at (stacked_board w h k n m own i)) (length (stacked_board w h k n m own i)))
        ∙ ap (map is_taken) (sym (reverse_down (stacked_board w h k n m own i)) ∙ cells_are)
        ∙ placed_taken ts os fit)

    heights_are : heights w h (has_piece (stacked_board w h k n m own i)) ≡ hs
    heights_are = same_heights w h (has_piece (stacked_board w h k n m own i)) (is_filled w h hs) filled_is ∙ heights_back w h hs high_is.columns high_is.low

    -- the board of an index is one whose pieces stand on one another
    pub stacked_is : IsStackedBoard w h k n m own (stacked_board w h k n m own i)
    stacked_is = record {
      cells = cells_length;
      all = sym (owners_length (stacked_board w h k n m own i)) ∙ ap length owners_are ∙ unrank_length (n + m) own (i % binomial (n + m) own);
      own = sym (owners_members (stacked_board w h k n m own i)) ∙ ap members owners_are ∙ unrank_members (n + m) own (i % binomial (n + m) own) (mod-lt i ways);
      middle = ap (λ (xs : List ℕ). total (middle_heights k xs)) heights_are ∙ high_is.middle;
      stacked = λ c j t. filled_is (c + w) j ∙ filled_stacked w h hs c j (sym (filled_is c (omega arith)) ∙ t);
    }

    -- and gives the index back
    pub stacked_again : stacked_index w h k (stacked_board w h k n m own i) ≡ i
    stacked_again =
        index_is (stacked_board w h k n m own i) stacked_is
        ∙ ap₂ (λ (x y : ℕ). x * binomial (n + m) own + y)
        (ap (rank_split h k) heights_are ∙ split_again h w k n m wide (i / binomial (n + m) own) high_below)
        (ap rank owners_are ∙ rank_unrank (n + m) own (i % binomial (n + m) own) (mod-lt i ways))
        ∙ (let e = mod-add-div' i (binomial (n + m) own) in omega (arith, e))

-- there are fewer than 2 ^ 64 boards
pub boards_few : (w h k n m own : ℕ) → h ≤ 6 → w ≤ 6 → k ≤ w → n + m ≤ 32 → stacked_boards w h k n m own < 2 ^ 64
unfolding stacked_boards
boards_few w h k n m own l j i p =
    let a = split_few h w k n m l j i in
    let b = mul-lt (split_stackings h w k n m) (binomial (n + m) own) (2 ^ 32) (2 ^ 32) (omega (arith, a)) (binomial_small (n + m) own p) in
    omega (arith, b)

-- with no middle columns apart they are as many as with this number of pieces
pub no_middle_boards : (w h k n m own : ℕ) → k ≡ 0 → m ≡ 0 → stacked_boards w h k n m own ≡ stackings h w n * binomial n own
unfolding stacked_boards
no_middle_boards w h k n m own e f =
    ap₂ (λ (x y : ℕ). split_stackings h w x n y * binomial (n + y) own) e f
    ∙ ap₂ (λ (x y : ℕ). x * binomial y own) (no_middle_stackings h w n) (let z : n + 0 ≡ n = omega arith in z)
