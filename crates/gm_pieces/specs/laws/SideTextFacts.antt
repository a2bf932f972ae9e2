-- The texts of boards have a byte for each cell, tell boards apart, and are plain; the texts of cells are plain too.
use Rattle.std.specs.Prelude.{◌≡◌, ◌+◌, ◌/◌, ◌%◌, ◌≤◌}
use Rattle.std.proofs.Common.{ℕ, true, eqb, List, length, refl, arith}
use Rattle.std.proofs.lemmas.List.{length-map}
use Rattle.gm_game.specs.Shown.{is_plain, IsPlain}
use Rattle.gm_game.proofs.PlainTexts.{plain_in, plain_map}
use Rattle.gm_board.specs.declared.cell.Cell.{Cell}
use Rattle.gm_board.specs.declared.cell.Cell.TheVariants.{Empty, Mine, Theirs}
use Rattle.gm_board.specs.Pieces.{cell_by}
use Rattle.gm_board.specs.laws.Lists.{and_both}
use Rattle.gm_board.specs.Squares.{cell_text}
use Rattle.gm_board.specs.laws.Marks.{map_once}
use Rattle.gm_pieces.specs.SideTexts.{cell_char, cells_text}

-- the text of a board has one byte for each cell
pub text_length : (b : List Cell) → length (cells_text b) ≡ length b
unfolding cells_text
text_length b = length-map b cell_char

-- the byte of a cell gives the cell back
pub cell_back : (c : Cell) → cell_by (eqb (cell_char c) 120) (eqb (cell_char c) 111) ≡ c
cell_back Empty = refl
cell_back Mine = refl
cell_back Theirs = refl

-- boards with the same text are the same
pub text_once : (a b : List Cell) → cells_text a ≡ cells_text b → a ≡ b
unfolding cells_text
text_once a b e = map_once cell_char (λ (v : ℕ). cell_by (eqb v 120) (eqb v 111)) cell_back a b e

-- the text of a board is plain
pub text_plain : (b : List Cell) → IsPlain (cells_text b)
unfolding cells_text
text_plain b = plain_map cell_char (λ c. elim c as (λ c. is_plain (cell_char c) ≡ true) [ Empty ↦ refl | Mine ↦ refl | Theirs ↦ refl ]) b

-- the text of a cell is plain, where its row and column are small enough
pub cell_plain : (s k : ℕ) → k / s ≤ 29 → k % s ≤ 77 → IsPlain (cell_text s k)
cell_plain s k row column = and_both _ _ (plain_in (97 + k / s) (omega arith) (omega arith))
    (and_both _ _ (plain_in (49 + k % s) (omega arith) (omega arith)) refl)
