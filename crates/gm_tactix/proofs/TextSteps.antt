-- Steps on the texts of boards.
use Rattle.gm_tactix.proofs.Lower.{◌≡◌, ◌&&◌, ℕ, Bool, false, eqb, List, length, get_or, refl, sym, ap, ap₂, ◌∙◌, arith, range_with_len, has_cell, true}
use Rattle.gm_pieces.specs.Common.{lt-ltb, get_or-map, IsRead, bit_at-zero}
use Rattle.gm_tactix.specs.laws.TextLaws.{counter_back}
use Rattle.gm_tactix.specs.laws.CounterMaskFacts.{same_mask}
use Rattle.std.proofs.lemmas.Simd.{map-map}
use Rattle.gm_board.specs.Pieces.{cell_by}
use Rattle.gm_pieces.specs.laws.MaskFacts.{same_map}
use Rattle.gm_tactix.specs.Texts.{counter_text, board_text}
use Rattle.gm_tactix.specs.inner.CounterMasks.{counters_of}
use Rattle.gm_board.specs.Images.{board_of}
use Rattle.gm_pieces.specs.SideTexts.{cell_char, cells_text as sides_text}

byte_is : (x : Bool) → cell_char (cell_by x false) ≡ counter_text x
byte_is true = refl
byte_is false = refl

-- counters are shown as the pieces of one side
pub text_is : (n mask : ℕ) → sides_text (board_of n mask 0) ≡ board_text (counters_of n mask)
unfolding sides_text board_of board_text counters_of
text_is n mask =
    map-map cell_char (λ (k : ℕ). cell_by (has_cell mask k) (has_cell 0 k)) (range_with_len 0 n)
    ∙ same_map (λ (k : ℕ). cell_char (cell_by (has_cell mask k) (has_cell 0 k))) (λ (k : ℕ). counter_text (has_cell mask k)) (range_with_len 0 n) (λ k c.
    ap (λ (y : Bool). cell_char (cell_by (has_cell mask k) y)) (ap (λ (v : ℕ). eqb v 1) (bit_at-zero k)) ∙ byte_is (has_cell mask k))
    ∙ sym (map-map counter_text (has_cell mask) (range_with_len 0 n))

-- the marks of a board's text are the board's counters
pub read_all : (n marks : ℕ) (b : List Bool) (text : List ℕ) → IsRead text 120 n marks → length b ≡ n → board_text b ≡ text → b ≡ counters_of n marks
unfolding board_text
read_all n marks b text h long e =
    sym (same_mask n marks b long (λ i k.
    let byte : get_or text i 0 ≡ counter_text (get_or b i false) =
    ap (λ (t : List ℕ). get_or t i 0) (sym e) ∙ get_or-map counter_text b i false 0 (omega (arith, k, long)) in
    h i ∙ ap₂ (λ (x y : Bool). x && y) (lt-ltb i n k) (ap (λ (v : ℕ). eqb v 120) byte ∙ counter_back (get_or b i false))))
