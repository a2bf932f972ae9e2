-- The pieces of both sides as masks, and the boards that they stand for.
use Rattle.std.proofs.Common.{◌≡◌, ℕ, zero, suc, ◌-◌, ◌^◌, ◌<◌, Bool, true, false, List, [], ◌∷◌}
use Rattle.std.specs.Prelude.{count_ones, bit_and}
use Rattle.gm_board.specs.declared.cell.Cell.{Cell}
use Rattle.gm_board.specs.declared.cell.Cell.TheVariants.{Empty, Mine, Theirs}
use Rattle.gm_board.specs.Ranks.{members}
use Rattle.gm_board.specs.Masks.{has_cell, tests_of, mask_of}
use Rattle.gm_board.specs.Arrangements.{mine_bits, merge, arrangement}

-- what is on a cell, by the tests of the mover's and of the opponent's pieces
abbrev pub cell_by : Bool → Bool → Cell
cell_by true t = Mine
cell_by false true = Theirs
cell_by false false = Empty

-- what is on the cells below n, the highest cell first
unfoldable pub cells_of : ℕ → ℕ → ℕ → List Cell
cells_of zero mine theirs = []
cells_of (suc n) mine theirs = cell_by (has_cell mine n) (has_cell theirs n) ∷ cells_of n mine theirs

-- the masks have m pieces of the mover's and t of the opponent's on n cells, no two on one cell
pub record HasPieces (n m t mine theirs : ℕ) : Type 0 where
  pub mine_within : mine < 2 ^ n
  pub theirs_within : theirs < 2 ^ n
  pub apart : bit_and mine theirs ≡ 0
  pub mine_number : count_ones mine ≡ m
  pub their_number : count_ones theirs ≡ t

-- for each cell, whether a piece of the opponent's is on it
abbrev pub their_tests : List Cell → List Bool
their_tests [] = []
their_tests (Mine ∷ cs) = false ∷ their_tests cs
their_tests (Theirs ∷ cs) = true ∷ their_tests cs
their_tests (Empty ∷ cs) = false ∷ their_tests cs

-- the mask of the mover's pieces in the arrangement with this index
unfoldable pub mine_mask : ℕ → ℕ → ℕ → ℕ → ℕ
mine_mask n m t i = mask_of (mine_bits (arrangement n m t i))

-- the mask of the opponent's pieces in the arrangement with this index
unfoldable pub their_mask : ℕ → ℕ → ℕ → ℕ → ℕ
their_mask n m t i = mask_of (their_tests (arrangement n m t i))

-- no cell below n is in both masks
abbrev pub AreApart : ℕ → ℕ → ℕ → Type 0
AreApart n mine theirs = (i : ℕ) → i < n → has_cell mine i ≡ true → has_cell theirs i ≡ false

-- the mask of the opponent's pieces on all cells, from their mask on the cells without the mover's pieces
unfoldable pub spread_mask : ℕ → ℕ → ℕ → ℕ
spread_mask n mine packed = mask_of (their_tests (merge (tests_of n mine) (tests_of (n - members (tests_of n mine)) packed)))
