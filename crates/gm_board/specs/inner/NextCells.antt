-- The cells of a mask one after another, the lowest first.
use Rattle.std.proofs.Common.{◌≡◌, ℕ, ◌+◌, ◌/◌, ◌^◌, ◌<◌, true, false}
use Rattle.gm_board.specs.Masks.{has_cell}

-- the next cell of the mask from `next` on is s places further, and `rest` has those after it
pub record IsNext (mask next s rest : ℕ) : Type 0 where
  pub has : has_cell mask (next + s) ≡ true
  pub none : (i : ℕ) → i < s → has_cell mask (next + i) ≡ false
  pub is_rest : rest ≡ mask / 2 ^ (next + s + 1)
