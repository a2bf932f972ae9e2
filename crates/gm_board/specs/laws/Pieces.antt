-- What follows from the definitions of specs/Pieces.antt.
use Rattle.std.specs.Prelude.{bit_and}
use Rattle.std.specs.Int.{bit_at}
use Rattle.std.proofs.lemmas.Nat.{and_block}
use Rattle.std.proofs.lemmas.Nat.Bits.{bit_at-lt, bit_at_and, bit_at-zero}
use Rattle.gm_board.specs.declared.cell.Cell.{Cell}
use Rattle.gm_board.specs.declared.cell.Cell.TheVariants.{Empty, Mine, Theirs}
use Rattle.gm_board.specs.Ranks.{members}
use Rattle.gm_board.specs.Masks.{has_cell, tests_of, mask_of, bit_weight}
use Rattle.gm_board.specs.Pieces.{cell_by, HasPieces, their_tests, AreApart, cells_of, mine_mask, their_mask}
use Rattle.std.proofs.Common.{◌≡◌, ℕ, zero, suc, ◌+◌, ◌-◌, ◌*◌, ◌^◌, ◌<◌, min, Bool, true, false, eqb, List, [], ◌∷◌, length, refl, sym, ap, ap₂, ◌∙◌, subst, arith}
use Rattle.gm_board.specs.laws.Masks.{mask_cons, tests_none, tests_more, mask_below, mask_tests_small, tests_mask, members_small}
use Rattle.gm_board.specs.Arrangements.{mine_bits, their_bits, arrangement_index, arrangement, arrangements}
use Rattle.gm_board.specs.laws.Arrangements.{arrangement_is, index_below_at, back_at, mine_bits_length, their_bits_free}

-- a board without cells is empty
pub cells_none : (mine theirs : ℕ) → cells_of 0 mine theirs ≡ []
unfolding cells_of
cells_none mine theirs = refl

-- a board with one more cell
pub cells_more : (n mine theirs : ℕ) → cells_of (suc n) mine theirs ≡ cell_by (has_cell mine n) (has_cell theirs n) ∷ cells_of n mine theirs
unfolding cells_of
cells_more n mine theirs = refl

-- a board has one entry for each cell
pub cells_length : (n mine theirs : ℕ) → length (cells_of n mine theirs) ≡ n
unfolding cells_of
cells_length zero mine theirs = refl
cells_length (suc n) mine theirs = ap suc (cells_length n mine theirs)

mine_cons : (a b : Bool) (cs : List Cell) → mine_bits (cell_by a b ∷ cs) ≡ a ∷ mine_bits cs
mine_cons true b cs = refl
mine_cons false true cs = refl
mine_cons false false cs = refl

-- the mover's pieces of the cells are those of the mask
pub mine_bits_cells : (n mine theirs : ℕ) → mine_bits (cells_of n mine theirs) ≡ tests_of n mine
mine_bits_cells zero mine theirs = ap mine_bits (cells_none mine theirs) ∙ sym (tests_none mine)
mine_bits_cells (suc n) mine theirs =
    ap mine_bits (cells_more n mine theirs)
    ∙ mine_cons (has_cell mine n) (has_cell theirs n) (cells_of n mine theirs)
    ∙ ap (λ (bs : List Bool). has_cell mine n ∷ bs) (mine_bits_cells n mine theirs)
    ∙ sym (tests_more n mine)

-- the number of cells without the mover's pieces
pub free_length : (n mine theirs : ℕ) → length (their_bits (cells_of n mine theirs)) ≡ n - members (tests_of n mine)
free_length n mine theirs =
    their_bits_free (cells_of n mine theirs) ∙ ap₂ (λ (a b : ℕ). a - b) (cells_length n mine theirs) (ap members (mine_bits_cells n mine theirs))

apart_bits : (a b : ℕ) → a < 2 → b < 2 → min a b ≡ 0 → eqb a 1 ≡ true → eqb b 1 ≡ false
apart_bits zero b l k e f = cc
apart_bits (suc zero) zero l k e f = refl
apart_bits (suc zero) (suc b) l k e f = absurd (omega arith)
apart_bits (suc (suc a)) b l k e f = absurd (omega arith)

-- masks without a common bit have no cell in common
pub apart_below : (n mine theirs : ℕ) → bit_and mine theirs ≡ 0 → AreApart n mine theirs
apart_below n mine theirs e i l f =
    apart_bits (bit_at mine i) (bit_at theirs i) (bit_at-lt mine i) (bit_at-lt theirs i)
    (sym (bit_at_and mine theirs i) ∙ ap (λ (v : ℕ). bit_at v i) e ∙ bit_at-zero i) f

theirs_cons : (a b : Bool) (cs : List Cell) → (a ≡ true → b ≡ false) → their_tests (cell_by a b ∷ cs) ≡ b ∷ their_tests cs
theirs_cons true b cs h = ap (λ (x : Bool). x ∷ their_tests cs) (sym (h refl))
theirs_cons false true cs h = refl
theirs_cons false false cs h = refl

-- the opponent's pieces of the cells are those of the mask
pub their_tests_cells : (n mine theirs : ℕ) → AreApart n mine theirs → their_tests (cells_of n mine theirs) ≡ tests_of n theirs
their_tests_cells zero mine theirs h = ap their_tests (cells_none mine theirs) ∙ sym (tests_none theirs)
their_tests_cells (suc n) mine theirs h =
    ap their_tests (cells_more n mine theirs)
    ∙ theirs_cons (has_cell mine n) (has_cell theirs n) (cells_of n mine theirs) (h n (omega arith))
    ∙ ap (λ (bs : List Bool). has_cell theirs n ∷ bs) (their_tests_cells n mine theirs (λ i l. h i (omega arith)))
    ∙ sym (tests_more n theirs)

-- the opponent has as many pieces on all cells as on the cells without the mover's pieces
pub their_members : (cs : List Cell) → members (their_bits cs) ≡ members (their_tests cs)
their_members [] = refl
their_members (Mine ∷ cs) = their_members cs
their_members (Theirs ∷ cs) = ap suc (their_members cs)
their_members (Empty ∷ cs) = their_members cs

-- the board that two lists of tests give
by_tests : List Bool → List Bool → List Cell
by_tests [] ts = []
by_tests (m ∷ ms) [] = []
by_tests (m ∷ ms) (t ∷ ts) = cell_by m t ∷ by_tests ms ts

cells_by_tests : (n mine theirs : ℕ) → cells_of n mine theirs ≡ by_tests (tests_of n mine) (tests_of n theirs)
unfolding by_tests
cells_by_tests zero mine theirs = cells_none mine theirs ∙ sym (ap (λ (bs : List Bool). by_tests bs (tests_of 0 theirs)) (tests_none mine))
cells_by_tests (suc n) mine theirs =
    cells_more n mine theirs
    ∙ ap (λ (cs : List Cell). cell_by (has_cell mine n) (has_cell theirs n) ∷ cs) (cells_by_tests n mine theirs)
    ∙ sym (ap₂ by_tests (tests_more n mine) (tests_more n theirs))

by_tests_back : (cs : List Cell) → by_tests (mine_bits cs) (their_tests cs) ≡ cs
unfolding by_tests
by_tests_back [] = refl
by_tests_back (Mine ∷ cs) = ap (λ (ds : List Cell). Mine ∷ ds) (by_tests_back cs)
by_tests_back (Theirs ∷ cs) = ap (λ (ds : List Cell). Theirs ∷ ds) (by_tests_back cs)
by_tests_back (Empty ∷ cs) = ap (λ (ds : List Cell). Empty ∷ ds) (by_tests_back cs)

theirs_length : (cs : List Cell) → length (their_tests cs) ≡ length cs
theirs_length [] = refl
theirs_length (Mine ∷ cs) = ap suc (theirs_length cs)
theirs_length (Theirs ∷ cs) = ap suc (theirs_length cs)
theirs_length (Empty ∷ cs) = ap suc (theirs_length cs)

tests_at : (n : ℕ) (bs : List Bool) → length bs ≡ n → tests_of n (mask_of bs) ≡ bs
tests_at n bs e = ap (λ (k : ℕ). tests_of k (mask_of bs)) (sym e) ∙ tests_mask bs

-- the masks of a board give the board
pub cells_back : (n : ℕ) (cs : List Cell) → length cs ≡ n → cells_of n (mask_of (mine_bits cs)) (mask_of (their_tests cs)) ≡ cs
cells_back n cs e =
    cells_by_tests n (mask_of (mine_bits cs)) (mask_of (their_tests cs))
    ∙ ap₂ by_tests (tests_at n (mine_bits cs) (mine_bits_length cs ∙ e)) (tests_at n (their_tests cs) (theirs_length cs ∙ e))
    ∙ by_tests_back cs

mask_within : (n : ℕ) (bs : List Bool) → length bs ≡ n → mask_of bs < 2 ^ n
mask_within n bs e = subst (λ (k : ℕ). mask_of bs < 2 ^ k) e (mask_below bs)

-- the masks of a board have no cell in common
apart_cons : (a b : Bool) (xs bs : List Bool) → length xs ≡ length bs → bit_and (bit_weight a) (bit_weight b) ≡ 0 → bit_and (mask_of xs) (mask_of bs) ≡ 0
    → bit_and (mask_of (a ∷ xs)) (mask_of (b ∷ bs)) ≡ 0
apart_cons a b xs bs e f g =
    ap₂ bit_and (mask_cons a xs) (mask_cons b bs ∙ ap (λ (k : ℕ). bit_weight b * 2 ^ k + mask_of bs) (sym e))
    ∙ and_block (length xs) (bit_weight a) (bit_weight b) (mask_of xs) (mask_of bs) (mask_below xs)
    (subst (λ (k : ℕ). mask_of bs < 2 ^ k) (sym e) (mask_below bs))
    ∙ ap₂ (λ (x y : ℕ). x * 2 ^ length xs + y) f g
    ∙ (let z : 0 * 2 ^ length xs + 0 ≡ 0 = omega arith in z)

masks_apart : (cs : List Cell) → bit_and (mask_of (mine_bits cs)) (mask_of (their_tests cs)) ≡ 0
masks_apart [] = refl
masks_apart (Mine ∷ cs) = apart_cons true false (mine_bits cs) (their_tests cs) (mine_bits_length cs ∙ sym (theirs_length cs)) refl (masks_apart cs)
masks_apart (Theirs ∷ cs) = apart_cons false true (mine_bits cs) (their_tests cs) (mine_bits_length cs ∙ sym (theirs_length cs)) refl (masks_apart cs)
masks_apart (Empty ∷ cs) = apart_cons false false (mine_bits cs) (their_tests cs) (mine_bits_length cs ∙ sym (theirs_length cs)) refl (masks_apart cs)

-- the masks of a board have the board's pieces
pub has_pieces : (n m t : ℕ) (cs : List Cell) → length cs ≡ n → members (mine_bits cs) ≡ m → members (their_bits cs) ≡ t
    → HasPieces n m t (mask_of (mine_bits cs)) (mask_of (their_tests cs))
has_pieces n m t cs e f h =
    let a = mask_within n (mine_bits cs) (mine_bits_length cs ∙ e) in
    let b = mask_within n (their_tests cs) (theirs_length cs ∙ e) in
    record {
      mine_within = a;
      theirs_within = b;
      apart = masks_apart cs;
      mine_number = sym (members_small n (mask_of (mine_bits cs)) a) ∙ ap members (tests_at n (mine_bits cs) (mine_bits_length cs ∙ e)) ∙ f;
      their_number = sym (members_small n (mask_of (their_tests cs)) b) ∙ ap members (tests_at n (their_tests cs) (theirs_length cs ∙ e)) ∙ sym
          (their_members cs) ∙ h;
    }

-- what the masks of an index are
pub arrangement_pieces : (n m t i : ℕ) → i < arrangements n m t → HasPieces n m t (mine_mask n m t i) (their_mask n m t i)
unfolding mine_mask their_mask
arrangement_pieces n m t i l =
    let h = arrangement_is n m t i l in has_pieces n m t (arrangement n m t i) h.cells h.mine h.theirs

-- the board of the masks of an index
pub arrangement_cells : (n m t i : ℕ) → i < arrangements n m t → cells_of n (mine_mask n m t i) (their_mask n m t i) ≡ arrangement n m t i
unfolding mine_mask their_mask
arrangement_cells n m t i l = let h = arrangement_is n m t i l in cells_back n (arrangement n m t i) h.cells

-- the masks of an index give the index back
pub index_of_masks : (n m t i : ℕ) → i < arrangements n m t → arrangement_index (cells_of n (mine_mask n m t i) (their_mask n m t i)) ≡ i
index_of_masks n m t i l = ap arrangement_index (arrangement_cells n m t i l) ∙ (arrangement_is n m t i l).back

-- the number of the mover's pieces
pub mine_count : (n m t mine theirs : ℕ) → HasPieces n m t mine theirs → members (mine_bits (cells_of n mine theirs)) ≡ m
mine_count n m t mine theirs h = ap members (mine_bits_cells n mine theirs) ∙ members_small n mine h.mine_within ∙ h.mine_number

-- the number of cells without them
pub free_count : (n m t mine theirs : ℕ) → HasPieces n m t mine theirs → length (their_bits (cells_of n mine theirs)) ≡ n - m
free_count n m t mine theirs h = free_length n mine theirs ∙ ap (λ (k : ℕ). n - k) (members_small n mine h.mine_within ∙ h.mine_number)

-- the number of the opponent's pieces
pub their_count : (n m t mine theirs : ℕ) → HasPieces n m t mine theirs → members (their_bits (cells_of n mine theirs)) ≡ t
their_count n m t mine theirs h =
    their_members (cells_of n mine theirs)
    ∙ ap members (their_tests_cells n mine theirs (apart_below n mine theirs h.apart))
    ∙ members_small n theirs h.theirs_within
    ∙ h.their_number

-- the index of pieces is below the number of arrangements
pub pieces_index_below : (n m t mine theirs : ℕ) → HasPieces n m t mine theirs → arrangement_index (cells_of n mine theirs) < arrangements n m t
pieces_index_below n m t mine theirs h =
    index_below_at n m t (cells_of n mine theirs) (cells_length n mine theirs) (mine_count n m t mine theirs h) (their_count n m t mine theirs h)

cells_again : (n m t mine theirs : ℕ) → HasPieces n m t mine theirs → arrangement n m t (arrangement_index (cells_of n mine theirs)) ≡ cells_of n mine theirs
cells_again n m t mine theirs h =
    back_at n m t (cells_of n mine theirs) (cells_length n mine theirs) (mine_count n m t mine theirs h) (their_count n m t mine theirs h)

-- the index gives the mover's mask back
pub mine_again : (n m t mine theirs : ℕ) → HasPieces n m t mine theirs → mine_mask n m t (arrangement_index (cells_of n mine theirs)) ≡ mine
unfolding mine_mask
mine_again n m t mine theirs h =
    ap (λ (cs : List Cell). mask_of (mine_bits cs)) (cells_again n m t mine theirs h)
    ∙ ap mask_of (mine_bits_cells n mine theirs)
    ∙ mask_tests_small n mine h.mine_within

-- the index gives the opponent's mask back
pub theirs_again : (n m t mine theirs : ℕ) → HasPieces n m t mine theirs → their_mask n m t (arrangement_index (cells_of n mine theirs)) ≡ theirs
unfolding their_mask
theirs_again n m t mine theirs h =
    ap (λ (cs : List Cell). mask_of (their_tests cs)) (cells_again n m t mine theirs h)
    ∙ ap mask_of (their_tests_cells n mine theirs (apart_below n mine theirs h.apart))
    ∙ mask_tests_small n theirs h.theirs_within
