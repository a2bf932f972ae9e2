-- Masks: sets of cells as numbers, where the bit of weight 2 ^ c stands for cell c.
use Rattle.std.proofs.Common.{ℕ, zero, suc, ◌+◌, ◌^◌, Bool, true, false, eqb, List, [], ◌∷◌, length}
use Rattle.std.specs.Int.{bit_at}
use Rattle.gm_board.specs.Ranks.{rank, unrank}

-- whether the mask has the cell
abbrev pub has_cell : ℕ → ℕ → Bool
has_cell m c = eqb (bit_at m c) 1

-- for each cell below n, the highest first, whether the mask has it
unfoldable pub tests_of : ℕ → ℕ → List Bool
tests_of zero m = []
tests_of (suc n) m = has_cell m n ∷ tests_of n m

-- the mask of the cells that pass their tests, where the highest cell comes first
abbrev pub mask_of : List Bool → ℕ
mask_of [] = 0
mask_of (true ∷ bs) = 2 ^ length bs + mask_of bs
mask_of (false ∷ bs) = mask_of bs

-- the rank of a mask among the masks with equally many cells
unfoldable pub mask_rank : ℕ → ℕ
mask_rank m = rank (tests_of 32 m)

-- the mask of k cells below n with this rank
unfoldable pub mask_unrank : ℕ → ℕ → ℕ → ℕ
mask_unrank n k r = mask_of (unrank n k r)

-- the weight of a test in the mask
abbrev pub bit_weight : Bool → ℕ
bit_weight true = 1
bit_weight false = 0
