-- Arrangements of the mover's and the opponent's pieces. A board here is a list of cells, the highest first.
use Rattle.std.proofs.Common.{◌≡◌, ℕ, ◌+◌, ◌-◌, ◌*◌, ◌/◌, ◌%◌, Bool, true, false, List, [], ◌∷◌, length}
use Rattle.gm_board.specs.declared.cell.Cell.{Cell}
use Rattle.gm_board.specs.declared.cell.Cell.TheVariants.{Empty, Mine, Theirs}
use Rattle.gm_board.specs.Binomials.{binomial}
use Rattle.gm_board.specs.Ranks.{members, rank, unrank}

-- for each cell, whether a piece of the mover's is on it
abbrev pub mine_bits : List Cell → List Bool
mine_bits [] = []
mine_bits (Mine ∷ cs) = true ∷ mine_bits cs
mine_bits (Theirs ∷ cs) = false ∷ mine_bits cs
mine_bits (Empty ∷ cs) = false ∷ mine_bits cs

-- for each cell without a piece of the mover's, whether a piece of the opponent's is on it
abbrev pub their_bits : List Cell → List Bool
their_bits [] = []
their_bits (Mine ∷ cs) = their_bits cs
their_bits (Theirs ∷ cs) = true ∷ their_bits cs
their_bits (Empty ∷ cs) = false ∷ their_bits cs

-- a cell without a piece of the mover's
abbrev pub their_cell : Bool → Cell
their_cell true = Theirs
their_cell false = Empty

-- the board with these pieces
abbrev pub merge : List Bool → List Bool → List Cell
merge [] ts = []
merge (true ∷ ms) ts = Mine ∷ merge ms ts
merge (false ∷ ms) [] = Empty ∷ merge ms []
merge (false ∷ ms) (t ∷ ts) = their_cell t ∷ merge ms ts

-- the index of an arrangement
unfoldable pub arrangement_index : List Cell → ℕ
arrangement_index cs = rank (mine_bits cs) * binomial (length (their_bits cs)) (members (their_bits cs)) + rank (their_bits cs)

-- the arrangement of m and t pieces on n cells with this index
unfoldable pub arrangement : ℕ → ℕ → ℕ → ℕ → List Cell
arrangement n m t i = merge (unrank n m (i / binomial (n - m) t)) (unrank (n - m) t (i % binomial (n - m) t))

-- the number of arrangements of m and t pieces on n cells
unfoldable pub arrangements : ℕ → ℕ → ℕ → ℕ
arrangements n m t = binomial n m * binomial (n - m) t

-- what holds for the arrangement with an index below their number
pub record IsArrangement (n m t i : ℕ) (cs : List Cell) : Type 0 where
  pub cells : length cs ≡ n
  pub mine : members (mine_bits cs) ≡ m
  pub theirs : members (their_bits cs) ≡ t
  pub back : arrangement_index cs ≡ i
