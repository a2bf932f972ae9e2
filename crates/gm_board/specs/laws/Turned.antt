-- Boards with the sides exchanged.
use Rattle.gm_board.specs.declared.cell.Cell.{Cell}
use Rattle.gm_board.specs.declared.cell.Cell.TheVariants.{Empty, Mine, Theirs}
use Rattle.gm_board.specs.BoardMasks.{turned}
use Rattle.gm_board.specs.Permutations.{permute}
use Rattle.std.proofs.Common.{◌≡◌, ℕ, List, [], ◌∷◌, map, get_or, refl, ap, ap₂, ◌∙◌}
use Rattle.std.proofs.Math.ListN.{get_or-map}

-- a cell of a board with the sides exchanged
pub cell_turned : (b : List Cell) (k : ℕ) → get_or (map turned b) k Empty ≡ turned (get_or b k Empty)
cell_turned b k = get_or-map turned b k Empty

-- what is on a cell, as the other player sees it
pub turned_cell : (b : List Cell) (k : ℕ) (c : Cell) → get_or b k Empty ≡ c → get_or (map turned b) k Empty ≡ turned c
turned_cell b k c e = cell_turned b k ∙ ap turned e

-- the sides exchanged twice give the board back
pub turned_twice : (b : List Cell) → map turned (map turned b) ≡ b
turned_twice [] = refl
turned_twice (c ∷ b) = ap₂ (λ (x : Cell) (xs : List Cell). x ∷ xs) (twice c) (turned_twice b)
  where
    twice : (c : Cell) → turned (turned c) ≡ c
    twice Empty = refl
    twice Mine = refl
    twice Theirs = refl

-- the image of a board with the sides exchanged
pub permute_turned : (g : List ℕ) (b : List Cell) → permute Empty g (map turned b) ≡ map turned (permute Empty g b)
permute_turned [] b = refl
permute_turned (k ∷ g) b = ap₂ (λ (x : Cell) (xs : List Cell). x ∷ xs) (cell_turned b k) (permute_turned g b)
