-- A piece that comes to lie on a cell: the pieces still stand on one another, and the cell is known from its column.
use Rattle.std.specs.Prelude.{◌≡◌, ◌+◌, ◌-◌, ◌*◌, ◌/◌, ◌%◌, ◌<◌, ◌≤◌, ◌≢◌, ◌||◌}
use Rattle.gm_pieces.specs.Common.{ℕ, Bool, true, false, List, map, length, set, inl, inr, refl, sym, ap, ap₂, ◌∙◌, arith, leb, leb-true, le-leb, ltb, lt-ltb, get_or_past, cases_eq, cases_lt, or_cases, or_right, get_or-set_same, get_or-set_other, true≢false, Cell, Empty, Mine, Theirs, turned, cell_at, is_empty, is_taken, empty_cell}
use Rattle.std.proofs.Common.{mod-lt, mul-le-mul_right}
use Rattle.std.proofs.lemmas.Nat.{div-add-mod', div-mul-add, mod-mul-add}
use Rattle.gm_board.specs.laws.Turned.{cell_turned}
use Rattle.gm_stacks.specs.Stacks.{has_piece}
use Rattle.gm_stacks.specs.laws.Columns.{filled_are, heights_at, how_many_le}
use Rattle.gm_connect.specs.declared.size.Size.{Size}
use Rattle.gm_connect.specs.ConnectFour.{is_supported, height, landing, topmost}
use Rattle.gm_connect.specs.Sizes.{columns, rows, cells}
use Rattle.gm_connect.specs.laws.BoardFacts.{some_columns, wide, Stand, stacked_in, not_le, not_below, IsLegal}

-- ---- a cell on which a piece can come to lie
pub record CanDrop (s : Size) (b : List Cell) (k : ℕ) : Type 0 where
  pub below : k < cells s
  pub free : cell_at b k ≡ Empty
  pub supported : is_supported s b k ≡ true

-- the board after a piece has come to lie on a cell, as the other player sees it
abbrev pub dropped : List Cell → ℕ → List Cell
dropped b k = map turned (set b k Mine)

-- whether no piece is above a cell
abbrev pub is_uncovered : Size → List Cell → ℕ → Bool
is_uncovered s b k = ltb k (columns s) || is_empty (cell_at b (k - columns s))

pub taken_empty : (c : Cell) → is_taken c ≡ true → c ≡ Empty → ⊥
taken_empty Empty e q = true≢false (sym e)
taken_empty Mine e q = cc
taken_empty Theirs e q = cc

pub taken_turned : (c : Cell) → is_taken (turned c) ≡ is_taken c
taken_turned Empty = refl
taken_turned Mine = refl
taken_turned Theirs = refl

empty_from : (c : Cell) → is_taken c ≡ false → c ≡ Empty
empty_from Empty e = refl
empty_from Mine e = absurd (true≢false e)
empty_from Theirs e = absurd (true≢false e)

module _ (s : Size) (b : List Cell) (k : ℕ) (n : length b ≡ cells s) (st : Stand s b) (d : CanDrop s b k) where
  pub inside : k < length b
  inside = let l = d.below in omega (arith, l, n)

  -- a cell with a piece still has one
  still_taken : (i : ℕ) → is_taken (cell_at b i) ≡ true → is_taken (cell_at (dropped b k) i) ≡ true
  still_taken i t = ap is_taken (cell_turned (set b k Mine) i) ∙ taken_turned (cell_at (set b k Mine) i) ∙ (elim (cases_eq i k) [
    | inl e ↦ ap is_taken (ap (cell_at (set b k Mine)) e ∙ get_or-set_same b k Mine Empty inside)
    | inr e ↦ ap is_taken (get_or-set_other b k i Mine Empty e) ∙ t
  ])

  still_supported : (i : ℕ) → is_supported s b i ≡ true → is_supported s (dropped b k) i ≡ true
  still_supported i t = elim (or_cases (leb (cells s) (i + columns s)) (is_taken (cell_at b (i + columns s))) t) [
    | inl e ↦ ap (λ (x : Bool). x || is_taken (cell_at (dropped b k) (i + columns s))) e
    | inr e ↦ or_right (leb (cells s) (i + columns s)) (is_taken (cell_at (dropped b k) (i + columns s))) (still_taken (i + columns s) e)
  ]

  -- pieces still stand on one another
  pub stand_after : Stand s (dropped b k)
  unfolding Stand
  stand_after i l t = elim (cases_eq i k) [
    | inl e ↦ still_supported i (ap (is_supported s b) e ∙ d.supported)
    | inr e ↦ still_supported i (st i l (sym (ap is_taken (get_or-set_other b k i Mine Empty e)) ∙ sym (taken_turned (cell_at (set b k Mine) i))
        ∙ sym (ap is_taken (cell_turned (set b k Mine) i)) ∙ t))
  ]

  -- no piece is above
  above : (cell : Cell) → (is_taken cell ≡ true → ⊥) → is_empty cell ≡ true
  above Empty h = refl
  above Mine h = absurd (h refl)
  above Theirs h = absurd (h refl)

  pub uncovered : is_uncovered s (dropped b k) k ≡ true
  unfolding Stand
  uncovered = elim (cases_lt k (columns s)) [
    | inl l ↦ ap (λ (x : Bool). x || is_empty (cell_at (dropped b k) (k - columns s))) (lt-ltb k (columns s) l)
    | inr l ↦
        let i = k - columns s in
        let pos = some_columns s in
        let low = d.below in
        let other : i ≢ k = (λ e. let z : ⊥ = omega (arith, e, pos, l) in z) in
        let back : i + columns s ≡ k = omega (arith, l) in
        let none : is_taken (cell_at b i) ≡ true → ⊥ = (λ t. falls i back low (st i (omega (arith, low)) t)) in
        or_right (ltb k (columns s)) (is_empty (cell_at (dropped b k) i))
        (ap is_empty (cell_turned (set b k Mine) i ∙ ap turned (get_or-set_other b k i Mine Empty other)) ∙ turned_empty (cell_at b i) (above (cell_at b i) none))
  ]
    where
      turned_empty : (c : Cell) → is_empty c ≡ true → is_empty (turned c) ≡ true
      turned_empty Empty e = refl
      turned_empty Mine e = absurd (true≢false (sym e))
      turned_empty Theirs e = absurd (true≢false (sym e))

      falls : (i : ℕ) → i + columns s ≡ k → k < cells s → is_supported s b i ≡ true → ⊥
      falls i back low t = elim (or_cases (leb (cells s) (i + columns s)) (is_taken (cell_at b (i + columns s))) t) [
        | inl e ↦ let a = leb-true (cells s) (i + columns s) e in omega (arith, a, back, low)
        | inr e ↦ taken_empty (cell_at b (i + columns s)) e (ap (cell_at b) back ∙ d.free)
      ]

-- ---- rows and columns
-- the cell below, by row and column
next_row : (w k : ℕ) → 0 < w → ((k + w) / w ≡ k / w + 1) × ((k + w) % w ≡ k % w)
next_row w k pos =
    let low = mod-lt k pos in
    let z : k + w ≡ (k / w + 1) * w + k % w = (let q = div-add-mod' k w in omega (arith, q)) in (
      ap (λ (v : ℕ). v / w) z ∙ div-mul-add (k / w + 1) w (k % w) low,
      ap (λ (v : ℕ). v % w) z ∙ mod-mul-add (k / w + 1) w (k % w) low,
    )

-- the bottom row is the last
last_row : (w h k : ℕ) → 0 < w → h * w ≤ k + w → h ≤ k / w + 1
last_row w h k pos l = elim (cases_lt (k / w + 1) h) [
  | inl i ↦ absurd (
      let up : (k / w + 1 + 1) * w ≤ h * w = mul-le-mul_right w (let z : k / w + 1 + 1 ≤ h = omega arith in z) in
      let q = div-add-mod' k w in
      let low = mod-lt k pos in
      omega (arith, up, q, low, l))
  | inr i ↦ i
]

-- a cell has a piece if it is among the lowest of its column, as many as the column has pieces
piece_at : (s : Size) (b : List Cell) (k : ℕ) → Stand s b → k < cells s → is_taken (cell_at b k) ≡ leb (rows s) (k / columns s + height s b (k % columns s))
piece_at s b k st l =
    filled_are (columns s) (rows s) (has_piece b) (stacked_in s b st) k l
    ∙ ap (λ (v : ℕ). leb (rows s) (k / columns s + v)) (heights_at (columns s) (rows s) (has_piece b) (k % columns s) (mod-lt k (some_columns s)))

-- the same of a cell whose row and column are known
piece_in : (s : Size) (b : List Cell) (k r c : ℕ) → Stand s b → k < cells s → k / columns s ≡ r → k % columns s ≡ c → is_taken (cell_at b k) ≡ leb (rows s) (r + height s b c)
piece_in s b k r c st l e f = piece_at s b k st l ∙ ap₂ (λ (i j : ℕ). leb (rows s) (i + height s b j)) e f

-- the row of a cell on which a piece can come to lie is known from the height of its column
row_of : (s : Size) (b : List Cell) (k : ℕ) → IsLegal s b → CanDrop s b k → k / columns s + height s b (k % columns s) + 1 ≡ rows s
row_of s b k h d =
    let w = columns s in
    let x = height s b (k % w) in
    let pos = some_columns s in
    let next = next_row w k pos in
    let free : k / w + x < rows s = elim (cases_lt (k / w + x) (rows s)) [
      | inl l ↦ l
      | inr l ↦ absurd (true≢false (sym (le-leb (rows s) (k / w + x) l) ∙ sym (piece_at s b k h.stand d.below) ∙ ap is_taken d.free))
    ] in
    let below : rows s ≤ k / w + x + 1 = elim (or_cases (leb (cells s) (k + w)) (is_taken (cell_at b (k + w))) d.supported) [
      | inl e ↦ let a = last_row w (rows s) k pos (leb-true (cells s) (k + w) e) in omega (arith, a)
      | inr e ↦
          let inside : k + w < cells s = elim (cases_lt (k + w) (cells s)) [
            | inl l ↦ l
            | inr l ↦ absurd (taken_empty (cell_at b (k + w)) e (get_or_past b (k + w) Empty (let n = h.cells_are in omega (arith, n, l))))
          ] in
          let a = leb-true (rows s) (k / w + 1 + x) (sym (piece_in s b (k + w) (k / w + 1) (k % w) h.stand inside next.0 next.1) ∙ e) in
          omega (arith, a)
    ] in
    omega (arith, free, below)

-- it is where a piece comes to lie that is dropped into its column
pub landing_is : (s : Size) (b : List Cell) (k : ℕ) → IsLegal s b → CanDrop s b k → landing s b (k % columns s) ≡ k
unfolding landing
landing_is s b k h d =
    let r = row_of s b k h d in
    let row : rows s - (height s b (k % columns s) + 1) ≡ k / columns s = omega (arith, r) in
    ap (λ (i : ℕ). i * columns s + k % columns s) row ∙ div-add-mod' k (columns s)

-- and this column has room
pub has_room : (s : Size) (b : List Cell) (k : ℕ) → IsLegal s b → CanDrop s b k → is_empty (cell_at b (k % columns s)) ≡ true
has_room s b k h d =
    let w = columns s in
    let c = k % w in
    let low = mod-lt k (some_columns s) in
    let few = wide s in
    let r = row_of s b k h d in
    let z : 0 * w + c ≡ c = omega arith in
    let t = piece_in s b c 0 c h.stand (omega (arith, low, few)) (ap (λ (v : ℕ). v / w) (sym z) ∙ div-mul-add 0 w c low) (ap (λ (v : ℕ). v % w) (sym z) ∙ mod-mul-add 0 w c low) in
    ap is_empty (empty_from (cell_at b c) (t ∙ not_le (rows s) (0 + height s b c) (omega (arith, r))))

-- a piece that is dropped into a column with room can come to lie where it does
pub lands_on : (s : Size) (b : List Cell) (c : ℕ) → IsLegal s b → c < columns s → is_empty (cell_at b c) ≡ true → CanDrop s b (landing s b c) × (landing s b c % columns s ≡ c)
unfolding landing
lands_on s b c h low e =
    let w = columns s in
    let x = height s b c in
    let r = rows s - (x + 1) in
    let k = r * w + c in
    let few = wide s in
    let z : 0 * w + c ≡ c = omega arith in
    let top = piece_in s b c 0 c h.stand (omega (arith, low, few)) (ap (λ (v : ℕ). v / w) (sym z) ∙ div-mul-add 0 w c low) (ap (λ (v : ℕ). v % w) (sym z) ∙ mod-mul-add 0 w c low) in
    let room : x < rows s = elim (cases_lt x (rows s)) [
      | inl l ↦ l
      | inr l ↦ absurd (taken_empty (cell_at b c) (top ∙ le-leb (rows s) (0 + x) (omega (arith, l))) (empty_cell _ e))
    ] in
    let up : (r + 1) * w ≤ rows s * w = mul-le-mul_right w (let z : r + 1 ≤ rows s = omega (arith, room) in z) in
    let inside : k < cells s = omega (arith, up, low) in
    let row = div-mul-add r w c low in
    let column = mod-mul-add r w c low in
    let next = next_row w k (some_columns s) in (
      record {
        below = inside;
        free = empty_from (cell_at b k) (piece_in s b k r c h.stand inside row column ∙ not_le (rows s) (r + x) (omega (arith, room)));
        supported = elim (cases_lt (k + w) (cells s)) [
          | inl l ↦ or_right (leb (cells s) (k + w)) (is_taken (cell_at b (k + w)))
              (piece_in s b (k + w) (r + 1) c h.stand l (next.0 ∙ ap (λ (v : ℕ). v + 1) row) (next.1 ∙ column) ∙ le-leb (rows s) (r + 1 + x) (omega (arith, room)))
          | inr l ↦ ap (λ (v : Bool). v || is_taken (cell_at b (k + w))) (le-leb (cells s) (k + w) l)
        ];
      },
      column,
    )

-- ---- the topmost piece of a column
-- a piece with none above it is the topmost of its column
pub topmost_is : (s : Size) (d : List Cell) (k : ℕ) → Stand s d → k < cells s → is_taken (cell_at d k) ≡ true → is_uncovered s d k ≡ true → topmost s d (k % columns s) ≡ k
unfolding topmost
topmost_is s d k st l t u =
    let w = columns s in
    let x = height s d (k % w) in
    let pos = some_columns s in
    let low = leb-true (rows s) (k / w + x) (sym (piece_at s d k st l) ∙ t) in
    let high : k / w + x ≤ rows s = elim (cases_lt k w) [
      | inl i ↦
          let row : k / w ≡ 0 = (let z : 0 * w + k ≡ k = omega arith in ap (λ (v : ℕ). v / w) (sym z) ∙ div-mul-add 0 w k i) in
          let a = how_many_le (λ r. has_piece d (r * w + k % w)) (rows s) in
          omega (arith, row, a)
      | inr i ↦
          let j = k - w in
          let back : j + w ≡ k = omega (arith, i) in
          let next = next_row w j pos in
          let row : k / w ≡ j / w + 1 = ap (λ (v : ℕ). v / w) (sym back) ∙ next.0 in
          let column : j % w ≡ k % w = sym next.1 ∙ ap (λ (v : ℕ). v % w) back in
          let clear : is_empty (cell_at d j) ≡ true = ap (λ (v : Bool). v || is_empty (cell_at d j)) (sym (not_below k w i)) ∙ u in
          let under : j / w + x < rows s = elim (cases_lt (j / w + x) (rows s)) [
            | inl m ↦ m
            | inr m ↦ absurd (taken_empty (cell_at d j)
                (piece_in s d j (j / w) (k % w) st (omega (arith, l, i)) refl column ∙ le-leb (rows s) (j / w + x) m) (empty_cell _ clear))
          ] in
          omega (arith, row, under)
    ] in
    let row : rows s - x ≡ k / w = omega (arith, low, high) in
    ap (λ (i : ℕ). i * w + k % w) row ∙ div-add-mod' k w

-- its column is that of the piece
pub topmost_column : (s : Size) (d : List Cell) (c : ℕ) → c < columns s → topmost s d c % columns s ≡ c
unfolding topmost
topmost_column s d c low = mod-mul-add (rows s - height s d c) (columns s) c low
