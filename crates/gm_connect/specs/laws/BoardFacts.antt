-- Boards of Connect Four: legal boards and images.
use Rattle.std.specs.Prelude.{◌≡◌, ◌+◌, ◌-◌, ◌/◌, ◌<◌, ◌≤◌, ◌||◌, ◌↔◌}
use Rattle.gm_pieces.specs.Common.{ℕ, Bool, true, false, not, List, length, get_or, refl, sym, ap, ap₂, ◌∙◌, arith, inl, inr, cond, eqb, eqb-true, eq-eqb, leb, leb-true, le-leb, ltb, lt-ltb, Contains, not-true, true≢false, cases_lt, cases_Bool, nat_tests, or_right, range_with_len, all_at, all_from, contains_range, range_below, Cell, Empty, Mine, Theirs, and_left, and_right, and_both, IsGroup, IsPermutationOf, group_from_table, image_length, filled_image, permute, is_mine, is_theirs, is_empty, is_taken, cell_at, image_number, image_cell, div-mul-add, mod-mul-add}
use Rattle.gm_board.specs.laws.Groups.{group_permutation}
use Rattle.gm_board.specs.laws.Permutations.{below_at}
use Rattle.gm_stacks.specs.Stacks.{IsStacked, has_piece, mirror}
use Rattle.gm_stacks.specs.laws.StackedBoards.{IsStackedBoard, all_pieces, heights_parts}
use Rattle.gm_connect.specs.declared.size.Size.{Size}
use Rattle.gm_connect.specs.ConnectFour.{mine, theirs, pieces, has_line, is_supported, all_stand, legal, end_by_last_move, mirrors, middle_pieces, middle_range, tier_of, outer_in, middle_in, pieces_in}
use Rattle.gm_connect.specs.Lines.{lines}
use Rattle.gm_connect.specs.Sizes.{columns, rows, middle, cells, middle_cells, outer_cells}
use Rattle.gm_connect.specs.laws.SizeFacts.{right, keeps_below}

-- ---- sizes
pub some_columns : (s : Size) → 0 < columns s
some_columns s = let a = leb-true 1 (columns s) (and_left _ _ (right s).narrow) in omega (arith, a)

-- there is a row
pub wide : (s : Size) → columns s ≤ cells s
wide s = leb-true _ _ (right s).wide

pub few_columns : (s : Size) → columns s ≤ 6
few_columns s = leb-true _ _ (and_right _ _ (right s).narrow)

pub few_rows : (s : Size) → rows s ≤ 6
few_rows s = leb-true _ _ (right s).low

pub few_cells : (s : Size) → cells s ≤ 25
few_cells s = leb-true _ _ (right s).few

-- the middle columns are among all
pub middle_inside : (s : Size) → middle s ≤ columns s
middle_inside s = leb-true _ _ (right s).inside

-- ---- pieces that stand on one another
empty_or_taken : (c : Cell) → is_taken c ≡ true → is_empty c ≡ false
empty_or_taken Empty e = absurd (true≢false (sym e))
empty_or_taken Mine e = refl
empty_or_taken Theirs e = refl

taken_or_empty : (c : Cell) → is_empty c ≡ false → is_taken c ≡ true
taken_or_empty Empty e = absurd (true≢false e)
taken_or_empty Mine e = refl
taken_or_empty Theirs e = refl

-- each piece stands on the bottom or on a piece
unfoldable pub Stand : Size → List Cell → Type 0
Stand s b = (k : ℕ) → k < cells s → is_taken (cell_at b k) ≡ true → is_supported s b k ≡ true

pub stand_in : (s : Size) (b : List Cell) → all_stand s b ≡ true → Stand s b
unfolding all_stand Stand
stand_in s b e k l t = ap (λ (x : Bool). x || is_supported s b k) (sym (empty_or_taken (cell_at b k) t))
    ∙ all_at (λ (k : ℕ). is_empty (cell_at b k) || is_supported s b k) (range_with_len 0 (cells s)) k e (contains_range (cells s) k l)

pub stand_from : (s : Size) (b : List Cell) → Stand s b → all_stand s b ≡ true
unfolding all_stand Stand
stand_from s b h = all_from (λ (k : ℕ). is_empty (cell_at b k) || is_supported s b k) (range_with_len 0 (cells s)) (λ k c. one k (range_below (cells s) k c))
  where
    one : (k : ℕ) → k < cells s → (is_empty (cell_at b k) || is_supported s b k) ≡ true
    one k l = elim (cases_Bool (is_empty (cell_at b k))) [
      | inl e ↦ ap (λ (x : Bool). x || is_supported s b k) e
      | inr e ↦ ap (λ (x : Bool). x || is_supported s b k) e ∙ h k l (taken_or_empty (cell_at b k) e)
    ]

pub not_le : (a b : ℕ) → b < a → leb a b ≡ false
not_le a b l = grind (arith, nat_tests)

pub not_below : (a b : ℕ) → b ≤ a → ltb a b ≡ false
not_below a b l = grind (arith, nat_tests)

-- the cell below a piece has one
pub stacked_in : (s : Size) (b : List Cell) → Stand s b → IsStacked (columns s) (rows s) (has_piece b)
unfolding Stand
stacked_in s b h k l t = ap (λ (x : Bool). x || is_taken (cell_at b (k + columns s))) (sym (not_le (cells s) (k + columns s) l))
    ∙ h k (omega arith) t

pub stacked_from : (s : Size) (b : List Cell) → IsStacked (columns s) (rows s) (has_piece b) → Stand s b
unfolding Stand
stacked_from s b h k l t = elim (cases_lt (k + columns s) (cells s)) [
  | inl i ↦ or_right (leb (cells s) (k + columns s)) (is_taken (cell_at b (k + columns s))) (h k i t)
  | inr i ↦ ap (λ (x : Bool). x || is_taken (cell_at b (k + columns s))) (le-leb _ _ i)
]

-- tests that agree on all cells let pieces stand on one another alike
pub stand_by : (s : Size) (b : List Cell) (p : ℕ → Bool) → ((k : ℕ) → k < cells s → p k ≡ has_piece b k) → (IsStacked (columns s) (rows s) p) ↔ (all_stand s b ≡ true)
stand_by s b p same = (
  λ h. stand_from s b (stacked_from s b (λ k l t. sym (same (k + columns s) l) ∙ h k l (same k (omega (arith, l)) ∙ t))),
  λ e k l t. same (k + columns s) l ∙ stacked_in s b (stand_in s b e) k l (sym (same k (omega (arith, l))) ∙ t),
)

-- ---- legal boards
pub record IsLegal (s : Size) (b : List Cell) : Type 0 where
  pub cells_are : length b ≡ cells s
  pub half : mine b ≡ pieces b / 2
  pub stand : Stand s b
  pub no_line : has_line s is_mine b ≡ false

-- what holds if the test is passed
pub legal_in : (s : Size) (b : List Cell) → legal s b ≡ true → IsLegal s b
unfolding legal
legal_in s b l =
    let r = and_right _ _ l in
    let t = and_right _ _ r in
    record { cells_are = eqb-true _ _ (and_left _ _ l); half = eqb-true _ _ (and_left _ _ r); stand = stand_in s b (and_left _ _ t); no_line = not-true _ (and_right _ _ t) }

pub legal_from : (s : Size) (b : List Cell) → IsLegal s b → legal s b ≡ true
unfolding legal
legal_from s b h = and_both _ _ (eq-eqb _ _ h.cells_are) (and_both _ _ (eq-eqb _ _ h.half) (and_both _ _ (stand_from s b h.stand) (ap not h.no_line)))

-- ---- tiers
-- what holds of the numbers of pieces in the middle columns and in the others
pub record AreParts (s : Size) (b : List Cell) : Type 0 where
  pub among : middle_pieces s b ≤ pieces b
  pub middle_few : middle_pieces s b ≤ middle_cells s
  pub outer_few : pieces b - middle_pieces s b ≤ outer_cells s

pub parts : (s : Size) (b : List Cell) → length b ≡ cells s → AreParts s b
unfolding middle_pieces
parts s b e =
    let all = all_pieces (columns s) (rows s) b e in
    let both = heights_parts (columns s) (rows s) (middle s) (has_piece b) (middle_inside s) in
    let a = both.all in
    let m = both.middle in
    let o = both.outer in
    record { among = omega (arith, all, a); middle_few = m; outer_few = omega (arith, all, a, o) }

-- a tier tells how many pieces both have
pub outer_back : (s : Size) (b : List Cell) → length b ≡ cells s → outer_in s (tier_of s b) ≡ pieces b - middle_pieces s b
outer_back s b e = let m = (parts s b e).middle_few in div-mul-add (pieces b - middle_pieces s b) (middle_range s) (middle_pieces s b) (omega (arith, m))

pub middle_back : (s : Size) (b : List Cell) → length b ≡ cells s → middle_in s (tier_of s b) ≡ middle_pieces s b
middle_back s b e = let m = (parts s b e).middle_few in mod-mul-add (pieces b - middle_pieces s b) (middle_range s) (middle_pieces s b) (omega (arith, m))

pub pieces_back : (s : Size) (b : List Cell) → length b ≡ cells s → pieces_in s (tier_of s b) ≡ pieces b
pieces_back s b e =
    ap₂ (λ (x y : ℕ). x + y) (outer_back s b e) (middle_back s b e)
    ∙ (let m = (parts s b e).among in let z : pieces b - middle_pieces s b + middle_pieces s b ≡ pieces b = omega (arith, m) in z)

-- a legal board is one of those that are numbered
pub legal_stacked : (s : Size) (b : List Cell) → IsLegal s b
    → IsStackedBoard (columns s) (rows s) (middle s) (outer_in s (tier_of s b)) (middle_in s (tier_of s b)) (pieces_in s (tier_of s b) / 2) b
unfolding middle_pieces
legal_stacked s b h = record {
  cells = h.cells_are;
  all = sym (pieces_back s b h.cells_are);
  own = h.half ∙ ap (λ (n : ℕ). n / 2) (sym (pieces_back s b h.cells_are));
  middle = sym (middle_back s b h.cells_are);
  stacked = stacked_in s b h.stand;
}

-- ---- images
-- left and right as they are, and exchanged
pub group : (s : Size) → IsGroup (cells s) (mirrors s)
group s = group_from_table (cells s) (mirrors s) (right s).group

pub mirror_permutation : (s : Size) → IsPermutationOf (cells s) (mirror (columns s) (rows s))
unfolding mirrors
mirror_permutation s = group_permutation (cells s) (mirrors s) (group s) (mirror (columns s) (rows s)) (1, omega arith, refl)

module _ (s : Size) (g : List ℕ) (b : List Cell) (c : Contains (mirrors s) g) (e : length b ≡ cells s) where
  image_line : (p : Cell → Bool) → has_line s p (permute Empty g b) ≡ has_line s p b
  unfolding has_line
  image_line p = filled_image Empty p (cells s) (mirrors s) (lines s) (group s) (right s).lines_kept g c b e

  image_own : mine (permute Empty g b) ≡ mine b
  image_own = image_number (cells s) (mirrors s) (group s) g b c is_mine e

  image_other : theirs (permute Empty g b) ≡ theirs b
  image_other = image_number (cells s) (mirrors s) (group s) g b c is_theirs e

  -- an image has as many pieces as the board
  pub image_pieces : pieces (permute Empty g b) ≡ pieces b
  image_pieces = omega (arith, image_own, image_other)

  -- an image has ended if the board has
  pub image_over : end_by_last_move s (permute Empty g b) ≡ end_by_last_move s b
  unfolding end_by_last_move
  image_over = rw (image_line is_theirs) refl

  below : (k : ℕ) → k < cells s → cond (ltb (k + columns s) (cells s)) (eqb (get_or g (k + columns s) 0) (get_or g k 0 + columns s))
      (leb (cells s) (get_or g k 0 + columns s)) ≡ true
  below k l = all_at _ (range_with_len 0 (cells s)) k (all_at (keeps_below s) (mirrors s) g (right s).below_kept c) (contains_range (cells s) k l)

  -- a cell of the image is supported if the cell from which its piece comes is
  pub image_supported : (k : ℕ) → k < cells s → is_supported s (permute Empty g b) k ≡ is_supported s b (get_or g k 0)
  image_supported k l = elim (cases_lt (k + columns s) (cells s)) [
    | inl i ↦
        let q = eqb-true _ _ (ap (λ (x : Bool). cond x (eqb (get_or g (k + columns s) 0) (get_or g k 0 + columns s))
        (leb (cells s) (get_or g k 0 + columns s))) (sym (lt-ltb (k + columns s) (cells s) i)) ∙ below k l) in
        let inside = below_at (cells s) g (group_permutation (cells s) (mirrors s) (group s) g c) (k + columns s) i in
        ap₂ (λ (x y : Bool). x || y) (not_le (cells s) (k + columns s) i ∙ sym (not_le (cells s) (get_or g k 0 + columns s) (omega (arith, q, inside))))
        (ap is_taken (image_cell (cells s) (mirrors s) (group s) g b c (k + columns s) i ∙ ap (cell_at b) q))
    | inr i ↦
        let q = leb-true _ _ (ap (λ (x : Bool). cond x (eqb (get_or g (k + columns s) 0) (get_or g k 0 + columns s))
        (leb (cells s) (get_or g k 0 + columns s))) (sym (not_below (k + columns s) (cells s) i)) ∙ below k l) in
        ap (λ (x : Bool). x || is_taken (cell_at (permute Empty g b) (k + columns s))) (le-leb _ _ i)
        ∙ sym (ap (λ (x : Bool). x || is_taken (cell_at b (get_or g k 0 + columns s))) (le-leb _ _ q))
  ]

  image_stand : Stand s b → Stand s (permute Empty g b)
  unfolding Stand
  image_stand h k l t =
      image_supported k l
      ∙ h (get_or g k 0) (below_at (cells s) g (group_permutation (cells s) (mirrors s) (group s) g c) k l)
      (ap is_taken (sym (image_cell (cells s) (mirrors s) (group s) g b c k l)) ∙ t)

  -- an image of a legal board is legal
  pub image_legal : legal s b ≡ true → legal s (permute Empty g b) ≡ true
  image_legal l =
      let h = legal_in s b l in
      legal_from s (permute Empty g b) (record {
        cells_are = image_length Empty (cells s) (mirrors s) (group s) g c b;
        half = image_own ∙ h.half ∙ ap (λ (n : ℕ). n / 2) (sym image_pieces);
        stand = image_stand h.stand;
        no_line = image_line is_mine ∙ h.no_line;
      })
