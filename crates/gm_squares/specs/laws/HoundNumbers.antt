-- The index of a board by the rank of the hounds' squares and the number of free squares below the fox, and the board by these.
use Rattle.std.specs.Prelude.{◌≡◌, ◌≢◌, ◌+◌, ◌-◌, ◌*◌, ◌/◌, ◌%◌, ◌^◌, ◌<◌, ◌≤◌, ◌∷◌, if◌then◌else◌}
use Rattle.gm_pieces.specs.Common.{ℕ, zero, suc, Bool, true, false, eqb, List, length, refl, sym, ap, ap₂, ◌∙◌, subst, arith, nat_tests, bit_at-pow_other, bit_at-pow_same, count_ones, has_cell, mask_rank, mask_unrank, members, rank, binomial_zero, pascal, mask_rank_at}
unfoldable use Rattle.gm_pieces.specs.Common.{arrangement_index, binomial}
use Rattle.gm_board.specs.Arrangements.{their_bits}
use Rattle.gm_board.specs.Masks.{tests_of}
use Rattle.gm_board.specs.Pieces.{cell_by, cells_of}
use Rattle.gm_board.specs.declared.cell.Cell.{Cell}
use Rattle.gm_board.specs.laws.Binomials.{binomial_none}
use Rattle.gm_board.specs.laws.Masks.{steady, members_ones, mask_unrank_below, mask_unrank_ones, mask_rank_unrank, mask_rank_below}
use Rattle.gm_board.specs.laws.NextCells.{cell_one, cell_none}
use Rattle.gm_board.specs.laws.Pieces.{cells_none, cells_more, free_length, free_count, their_count, mine_bits_cells}
use Rattle.gm_squares.specs.declared.chase.Chase.{Chase}
use Rattle.gm_squares.specs.FoxHounds.{legal, index, board}
use Rattle.gm_squares.specs.laws.ChaseFacts.{legal_in, legal_from}
use Rattle.gm_squares.specs.laws.ChaseNumbering.{men, numbered}

-- ---- the fox's place among the free squares
binomial_one : (n : ℕ) → binomial n 1 ≡ n
binomial_one zero = binomial_none 0
binomial_one (suc n) = let p = pascal n 0 in let z = binomial_zero n in let e = binomial_one n in omega (arith, p, z, e)

-- a square without the fox
members_past : (a b : Bool) (cs : List Cell) → b ≡ false → members (their_bits (cell_by a b ∷ cs)) ≡ members (their_bits cs)
members_past true b cs e = refl
members_past false false cs e = refl
members_past false true cs e = cc

rank_past : (a b : Bool) (cs : List Cell) → b ≡ false → rank (their_bits (cell_by a b ∷ cs)) ≡ rank (their_bits cs)
rank_past true b cs e = refl
rank_past false false cs e = refl
rank_past false true cs e = cc

-- the fox's square
rank_here : (a b : Bool) (cs : List Cell) → a ≡ false → b ≡ true
    → rank (their_bits (cell_by a b ∷ cs)) ≡ binomial (length (their_bits cs)) (suc (members (their_bits cs))) + rank (their_bits cs)
rank_here false true cs e f = refl
rank_here false false cs e f = cc
rank_here true b cs e f = cc

module _ (h f : ℕ) where
  abbrev bits_to : ℕ → List Bool
  bits_to n = their_bits (cells_of n h (2 ^ f))

  no_fox : (n : ℕ) → n ≢ f → has_cell (2 ^ f) n ≡ false
  no_fox n d = cell_none (2 ^ f) n (bit_at-pow_other f n d)

  members_more : (n : ℕ) → n ≢ f → members (bits_to (suc n)) ≡ members (bits_to n)
  members_more n d = ap (λ (cs : List Cell). members (their_bits cs)) (cells_more n h (2 ^ f)) ∙ members_past (has_cell h n) (has_cell (2 ^ f) n) _ (no_fox n d)

  rank_more : (n : ℕ) → n ≢ f → rank (bits_to (suc n)) ≡ rank (bits_to n)
  rank_more n d = ap (λ (cs : List Cell). rank (their_bits cs)) (cells_more n h (2 ^ f)) ∙ rank_past (has_cell h n) (has_cell (2 ^ f) n) _ (no_fox n d)

  members_before : (n : ℕ) → n ≤ f → members (bits_to n) ≡ 0
  members_before zero l = ap (λ (cs : List Cell). members (their_bits cs)) (cells_none h (2 ^ f))
  members_before (suc n) l = members_more n (λ e. omega (arith, e, l)) ∙ members_before n (omega (arith, l))

  rank_before : (n : ℕ) → n ≤ f → rank (bits_to n) ≡ 0
  rank_before zero l = ap (λ (cs : List Cell). rank (their_bits cs)) (cells_none h (2 ^ f))
  rank_before (suc n) l = rank_more n (λ e. omega (arith, e, l)) ∙ rank_before n (omega (arith, l))

  fox_rank : has_cell h f ≡ false → rank (bits_to (suc f)) ≡ f - members (tests_of f h)
  fox_rank e =
      ap (λ (cs : List Cell). rank (their_bits cs)) (cells_more f h (2 ^ f))
      ∙ rank_here (has_cell h f) (has_cell (2 ^ f) f) _ e (cell_one (2 ^ f) f (bit_at-pow_same f))
      ∙ ap₂ (λ (m r : ℕ). binomial (length (bits_to f)) (suc m) + r) (members_before f (omega arith)) (rank_before f (omega arith))
      ∙ (let z : binomial (length (bits_to f)) 1 + 0 ≡ length (bits_to f) = (let b = binomial_one (length (bits_to f)) in omega (arith, b)) in z)
      ∙ free_length f h (2 ^ f)

  fox_ranked : f < 32 → has_cell h f ≡ false → rank (bits_to 32) ≡ f - members (tests_of f h)
  fox_ranked l e =
      ap (λ (n : ℕ). rank (bits_to n)) (let z : 32 ≡ suc f + (31 - f) = omega (arith, l) in z)
      ∙ steady (λ n. rank (bits_to n)) (suc f) (31 - f) (λ i k. rank_more (suc f + i) (λ q. omega (arith, q)))
      ∙ fox_rank e

one_fox : binomial 28 1 ≡ 28
unfolding binomial
one_fox = refl

pub four_number : binomial 32 4 ≡ 35960
unfolding binomial
four_number = refl

-- the index of an arrangement by the hounds' rank and the fox's number
arranged : (b : Chase) → legal b ≡ true → (n : ℕ) → b.fox ≡ n + count_ones (b.hounds % 2 ^ b.fox)
    → arrangement_index (cells_of 32 b.hounds (2 ^ b.fox)) ≡ 28 * mask_rank b.hounds + n
unfolding arrangement_index
arranged b l n e =
    let h = legal_in b l in
    let p = men b l in
    let cs = cells_of 32 b.hounds (2 ^ b.fox) in
    let mine : rank (tests_of 32 b.hounds) ≡ mask_rank b.hounds = sym (mask_rank_at 32 b.hounds (omega arith) h.within) in
    let ways : binomial (length (their_bits cs)) (members (their_bits cs)) ≡ 28 =
    ap₂ binomial (free_count 32 4 1 b.hounds (2 ^ b.fox) p) (their_count 32 4 1 b.hounds (2 ^ b.fox) p) ∙ one_fox in
    let ones = members_ones b.fox b.hounds in
    let fox : rank (their_bits cs) ≡ n = fox_ranked b.hounds b.fox h.fox h.apart ∙ (let z : b.fox - members (tests_of b.fox b.hounds) ≡ n = omega (arith, e, ones) in z) in
    ap₂ (λ (x y : ℕ). x + y) (ap₂ (λ (x y : ℕ). x * y) (ap rank (mine_bits_cells 32 b.hounds (2 ^ b.fox)) ∙ mine) ways) fox
    ∙ (let z : mask_rank b.hounds * 28 + n ≡ 28 * mask_rank b.hounds + n = omega arith in z)

pub rank_small : (b : Chase) → legal b ≡ true → mask_rank b.hounds < 35960
rank_small b l =
    let h = legal_in b l in
    let r = subst (λ (k : ℕ). mask_rank b.hounds < binomial 32 k) h.four (mask_rank_below 32 b.hounds (omega arith) h.within) in
    omega (arith, r, four_number)

pub index_is : (b : Chase) → legal b ≡ true → (n : ℕ) → b.fox ≡ n + count_ones (b.hounds % 2 ^ b.fox)
    → 2 * (28 * mask_rank b.hounds + n) + (if b.hounds_move then 1 else 0) ≡ index b
unfolding index
index_is b l n e = ap (λ (v : ℕ). 2 * v + (if b.hounds_move then 1 else 0)) (sym (arranged b l n e))

-- ---- the board with an index
pub below : (t i : ℕ) → i < (if eqb t 0 then 2013760 else 0) → i < 2013760
below t i l = grind (arith, nat_tests, l)

odd : (n : ℕ) → n < 2 → (if eqb n 1 then 1 else 0) ≡ n
odd n l = grind (arith, nat_tests)

pub four_squares : (r : ℕ) → r < 35960 → count_ones (mask_unrank 32 4 r) ≡ 4
four_squares r l = mask_unrank_ones 32 4 r (omega (arith, l, four_number))

abbrev chase_of : ℕ → ℕ → ℕ → Chase
chase_of i hounds fox = record { hounds_move = eqb (i % 2) 1; hounds = hounds; fox = fox }

pub board_is : (i hounds fox : ℕ) → i < 2013760 → hounds ≡ mask_unrank 32 4 (i / 56) → fox < 32 → has_cell hounds fox ≡ false
    → fox ≡ i / 2 % 28 + count_ones (hounds % 2 ^ fox) → chase_of i hounds fox ≡ board i
board_is i hounds fox l e within free number =
    let b = chase_of i hounds fox in
    let r = i / 56 in
    let small : r < 35960 = omega (arith, l) in
    let few : r < binomial 32 4 = omega (arith, small, four_number) in
    let fits : hounds < 2 ^ 32 = subst (λ (m : ℕ). m < 2 ^ 32) (sym e) (mask_unrank_below 32 4 r) in
    let four : count_ones hounds ≡ 4 = ap count_ones e ∙ four_squares r small in
    let is_legal : legal b ≡ true = legal_from b (record { within = fits; four = four; fox = within; apart = free }) in
    let ranked : mask_rank hounds ≡ r = ap mask_rank e ∙ mask_rank_unrank 32 4 r (omega arith) few in
    let is = index_is b is_legal (i / 2 % 28) number in
    let turn = odd (i % 2) (omega arith) in
    let same : index b ≡ i = sym is ∙ (let z : 2 * (28 * mask_rank hounds + i / 2 % 28) + (if eqb (i % 2) 1 then 1 else 0) ≡ i = omega (arith, ranked, turn) in z) in
    sym (numbered.board_back b is_legal) ∙ ap board same
