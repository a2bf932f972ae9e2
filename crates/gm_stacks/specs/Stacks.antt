-- Boards of h rows and w columns whose pieces stand on one another, and their indexes. Cell w*r + c is in row r and column c; the first row is the top row.
use Rattle.std.proofs.Common.{◌≡◌, ℕ, zero, suc, ◌+◌, ◌-◌, ◌*◌, ◌/◌, ◌%◌, ◌<◌, Bool, true, false, cond, leb, List, [], ◌∷◌, map, reverse, length, get_or}
use Rattle.std.specs.List.{range_with_len}
use Rattle.gm_board.specs.declared.cell.Cell.{Cell}
use Rattle.gm_board.specs.declared.cell.Cell.TheVariants.{Empty, Mine, Theirs}
use Rattle.gm_board.specs.Binomials.{binomial}
use Rattle.gm_board.specs.Cells.{is_taken, cell_at}
use Rattle.gm_board.specs.Ranks.{members, rank, unrank}
use Rattle.gm_stacks.specs.Heights.{split_stackings, rank_split, unrank_split}

-- ---- heights of columns
-- how many numbers below n pass a test
abbrev pub how_many : (ℕ → Bool) → ℕ → ℕ
how_many p zero = 0
how_many p (suc n) = cond (p n) 1 0 + how_many p n

-- how many of the h cells of column c pass a test
abbrev pub height_of : ℕ → ℕ → (ℕ → Bool) → ℕ → ℕ
height_of w h p c = how_many (λ r. p (r * w + c)) h

-- the same for each column
unfoldable pub heights : ℕ → ℕ → (ℕ → Bool) → List ℕ
heights w h p = map (height_of w h p) (range_with_len 0 w)

-- whether a cell is one of the lowest of its column, as many as the column is high
abbrev pub is_filled : ℕ → ℕ → List ℕ → ℕ → Bool
is_filled w h hs k = leb h (k / w + get_or hs (k % w) 0)

-- the cell below one that passes the test passes it too
abbrev pub IsStacked : ℕ → ℕ → (ℕ → Bool) → Type 0
IsStacked w h p = (k : ℕ) → k + w < h * w → p k ≡ true → p (k + w) ≡ true

-- ---- whose the pieces are
-- the values of a function below n, the last first
abbrev pub down : {X : Type 0} → (ℕ → X) → ℕ → List X
down f zero = []
down f (suc n) = f n ∷ down f n

-- for each cell with a piece, whether it is the mover's
abbrev pub own_bits : List Cell → List Bool
own_bits [] = []
own_bits (Mine ∷ cs) = true ∷ own_bits cs
own_bits (Theirs ∷ cs) = false ∷ own_bits cs
own_bits (Empty ∷ cs) = own_bits cs

-- a piece
abbrev pub piece : Bool → Cell
piece true = Mine
piece false = Theirs

-- the cells with these pieces: the first tests tell on which cells pieces are, and the others whose they are
abbrev pub placed : List Bool → List Bool → List Cell
placed [] os = []
placed (false ∷ ts) os = Empty ∷ placed ts os
placed (true ∷ ts) [] = Empty ∷ placed ts []
placed (true ∷ ts) (o ∷ os) = piece o ∷ placed ts os

-- ---- indexes: the rank of the heights, and the rank of the mover's pieces among all pieces
-- whether a piece is on a cell
abbrev pub has_piece : List Cell → ℕ → Bool
has_piece b k = is_taken (cell_at b k)

-- for each piece, the one on the highest cell first, whether it is the mover's
abbrev pub owners : List Cell → List Bool
owners b = own_bits (reverse b)

-- how many boards have m pieces on the k middle columns and n on the others, of which `own` are the mover's
unfoldable pub stacked_boards : ℕ → ℕ → ℕ → ℕ → ℕ → ℕ → ℕ
stacked_boards w h k n m own = split_stackings h w k n m * binomial (n + m) own

-- the index of a board among those with as many pieces on the k middle columns, on the others, and of each side
unfoldable pub stacked_index : ℕ → ℕ → ℕ → List Cell → ℕ
stacked_index w h k b = rank_split h k (heights w h (has_piece b)) * binomial (length (owners b)) (members (owners b)) + rank (owners b)

-- the heights of the board with an index
abbrev pub stacked_heights : ℕ → ℕ → ℕ → ℕ → ℕ → ℕ → ℕ → List ℕ
stacked_heights w h k n m own i = unrank_split h w k n m (i / binomial (n + m) own)

-- the board with an index
unfoldable pub stacked_board : ℕ → ℕ → ℕ → ℕ → ℕ → ℕ → ℕ → List Cell
stacked_board w h k n m own i =
    reverse (placed (down (is_filled w h (stacked_heights w h k n m own i)) (h * w)) (unrank (n + m) own (i % binomial (n + m) own)))

-- ---- left and right exchanged
-- the cell of the same row that is as far from the right as a cell is from the left
abbrev pub mirrored : ℕ → ℕ → ℕ
mirrored w k = k / w * w + (w - 1 - k % w)

-- for each cell, the cell whose piece comes there
abbrev pub mirror : ℕ → ℕ → List ℕ
mirror w h = map (mirrored w) (range_with_len 0 (h * w))
