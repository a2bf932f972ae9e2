-- Steps on the texts of boards.
use Rattle.gm_pieces.proofs.Lower.{◌≡◌, ◌+◌, ◌<◌, ◌∷◌, ◌++◌, ℕ, List, [], map, length, sym, ap, ap₂, ◌∙◌, arith, range_with_len}
use Rattle.std.specs.Prelude.{◌&&◌}
use Rattle.std.proofs.Common.{Bool, eqb, lt-ltb, get_or, refl, zero-add}
use Rattle.std.proofs.lemmas.List.{ext_get_or, get_or-map, map_push}
use Rattle.std.proofs.lemmas.List.FromFn.{map-range_with_len_more}
use Rattle.gm_board.specs.declared.cell.Cell.{Cell}
use Rattle.gm_board.specs.declared.cell.Cell.TheVariants.{Empty}
use Rattle.gm_board.specs.Masks.{has_cell}
use Rattle.gm_board.specs.Pieces.{cell_by}
use Rattle.gm_board.specs.laws.Images.{board_length, board_get}
use Rattle.gm_board.specs.laws.Marks.{IsRead}
use Rattle.gm_pieces.specs.SideTexts.{cell_char, cells_text}
use Rattle.gm_pieces.specs.laws.SideTextFacts.{text_length, cell_back}
use Rattle.gm_board.specs.Images.{board_of}

-- ---- boards
-- the text of no cell
pub text_none : (a b : ℕ) → cells_text (board_of 0 a b) ≡ []
unfolding cells_text board_of
text_none a b = refl

-- the text of one more cell
pub text_more : (n a b : ℕ) → cells_text (board_of (n + 1) a b) ≡ cells_text (board_of n a b) ++ cell_char (cell_by (has_cell a n) (has_cell b n)) ∷ []
unfolding cells_text board_of
text_more n a b =
    let f : ℕ → Cell = λ k. cell_by (has_cell a k) (has_cell b k) in
    ap (map cell_char) (map-range_with_len_more f 0 n n (zero-add n)) ∙ map_push cell_char (map f (range_with_len 0 n)) (f n)

-- one byte a cell
pub text_long : (n a b : ℕ) → length (cells_text (board_of n a b)) ≡ n
text_long n a b = text_length (board_of n a b) ∙ board_length n a b

-- a board with the text is the one that was read
pub read_all : (n : ℕ) (text : List ℕ) (a b : ℕ) (d : List Cell) → IsRead text 120 n a → IsRead text 111 n b → length d ≡ n → cells_text d ≡ text → board_of
    n a b ≡ d
unfolding cells_text
read_all n text a b d h k long e =
    ext_get_or Empty (board_of n a b) d (board_length n a b ∙ sym long)
    (λ i l.
    let j : i < n = omega (arith, l, board_length n a b) in
    let byte : get_or text i 0 ≡ cell_char (get_or d i Empty) = ap (λ (t : List ℕ). get_or t i 0) (sym e) ∙ get_or-map cell_char d i Empty 0
    (omega (arith, j, long)) in
    board_get n a b i j
    ∙ ap₂ cell_by
    (h i ∙ ap₂ (λ (x : Bool) (v : ℕ). x && eqb v 120) (lt-ltb i n j) byte)
    (k i ∙ ap₂ (λ (x : Bool) (v : ℕ). x && eqb v 111) (lt-ltb i n j) byte)
    ∙ cell_back (get_or d i Empty))
