-- Moves of Connect Four: a piece is dropped into a column, and taken back.
use Rattle.std.specs.Prelude.{◌≡◌, ◌+◌, ◌%◌, ◌<◌, ◌≤◌, ◌≢◌, ◌||◌, if◌then◌else◌}
use Rattle.gm_pieces.specs.Common.{ℕ, Bool, true, false, List, map, length, set, None, Some, inl, inr, refl, sym, ap, ◌∙◌, arith, leb, cases_lt, or_cases, or_right, get_or-set_same, get_or-set_other, get_or_past, true≢false, length-map, Contains, Lose, Cell, Empty, Mine, Theirs, their_cell, turned, turned_cell, turned_twice, mine_turned, theirs_turned, permute_turned, filled_turned, cell_at, is_mine, is_theirs, is_empty, is_taken, image_set, image_cell, permute, IsMove, placed_left, set_and_back, all_cells}
use Rattle.std.proofs.Common.{mod-lt}
use Rattle.gm_board.specs.laws.Turned.{cell_turned}
use Rattle.gm_connect.specs.declared.size.Size.{Size}
use Rattle.gm_connect.specs.ConnectFour.{pieces, legal, has_line, is_supported, end_by_last_move, can_move, play, landing, topmost, can_have_led_here, undo, mirrors, tier_of, child_tiers_of, connect_four}
use Rattle.gm_connect.specs.Lines.{lines}
use Rattle.gm_connect.specs.Sizes.{columns, cells}
use Rattle.gm_connect.specs.laws.BoardFacts.{some_columns, Stand, IsLegal, legal_in, group, image_over, image_supported, image_legal}
use Rattle.gm_connect.specs.laws.DropFacts.{CanDrop, inside, stand_after, uncovered, taken_turned, landing_is, has_room, lands_on, topmost_is, topmost_column}
use Rattle.gm_connect.specs.laws.TierFacts.{middle_sum, one_at, middle_once, middle_after, tier_after}

-- ---- making a move
-- a move drops a piece onto a cell of its column
pub drop_in : (s : Size) (b : List Cell) (c : ℕ) → IsLegal s b → IsMove (connect_four s) b c → CanDrop s b (landing s b c) × (landing s b c % columns s ≡ c)
unfolding can_move
drop_in s b c h m = lands_on s b c h m.below m.can

-- this cell is on the board and free
pub landing_below : (s : Size) (b : List Cell) (c : ℕ) → legal s b ≡ true → IsMove (connect_four s) b c → landing s b c < cells s
landing_below s b c l m = (drop_in s b c (legal_in s b l) m).0.below

pub landing_free : (s : Size) (b : List Cell) (c : ℕ) → legal s b ≡ true → IsMove (connect_four s) b c → is_empty (cell_at b (landing s b c)) ≡ true
landing_free s b c l m = ap is_empty (drop_in s b c (legal_in s b l) m).0.free

-- ---- taking a move back
-- a cell with a piece of the opponent's is on the board
theirs_inside : (d : List Cell) (k : ℕ) → is_theirs (cell_at d k) ≡ true → k < length d
theirs_inside d k e = elim (cases_lt k (length d)) [
  | inl l ↦ l
  | inr l ↦ absurd (true≢false (sym e ∙ ap is_theirs (get_or_past d k Empty l)))
]

-- no piece of the opponent's is past the last cell
pub none_past : (s : Size) (d : List Cell) (k : ℕ) → legal s d ≡ true → cells s ≤ k → is_theirs (cell_at d k) ≡ false
none_past s d k l p = ap is_theirs (get_or_past d k Empty (let n = (legal_in s d l).cells_are in omega (arith, n, p)))

-- the piece that is taken back is on the board, and it is the mover's when the roles are swapped back
pub was_below : (s : Size) (d : List Cell) (c : ℕ) → legal s d ≡ true → can_have_led_here s d c ≡ true → topmost s d c < cells s
unfolding can_have_led_here
was_below s d c l e = let i = theirs_inside d (topmost s d c) e in let n = (legal_in s d l).cells_are in omega (arith, i, n)

pub was_own : (s : Size) (d : List Cell) (c : ℕ) → can_have_led_here s d c ≡ true → is_mine (cell_at (map turned d) (topmost s d c)) ≡ true
unfolding can_have_led_here
was_own s d c e = ap is_mine (turned_cell d (topmost s d c) Theirs (their_cell _ e))

-- a move can be taken back
module _ (s : Size) (b : List Cell) (c : ℕ) (h : IsLegal s b) (m : IsMove (connect_four s) b c) where
  there : topmost s (play s b c) c ≡ landing s b c
  there =
      let k = landing s b c in
      let d = (drop_in s b c h m).0 in
      let own : cell_at (play s b c) k ≡ Theirs = turned_cell (set b k Mine) k Mine (get_or-set_same b k Mine Empty (inside s b k h.cells_are h.stand d)) in
      ap (topmost s (play s b c)) (sym (drop_in s b c h m).1)
      ∙ topmost_is s (play s b c) k (stand_after s b k h.cells_are h.stand d) d.below (ap is_taken own) (uncovered s b k h.cells_are h.stand d)

  pub was_dropped : can_have_led_here s (play s b c) c ≡ true
  unfolding can_have_led_here
  was_dropped =
      let k = landing s b c in
      let d = (drop_in s b c h m).0 in
      ap (λ (i : ℕ). is_theirs (cell_at (play s b c) i)) there
      ∙ ap is_theirs (turned_cell (set b k Mine) k Mine (get_or-set_same b k Mine Empty (inside s b k h.cells_are h.stand d)))

  pub taken_back : undo s (play s b c) c ≡ b
  taken_back =
      ap (λ (i : ℕ). set (map turned (play s b c)) i Empty) there
      ∙ ap (λ (e : List Cell). set e (landing s b c) Empty) (turned_twice (set b (landing s b c) Mine))
      ∙ set_and_back b (landing s b c) Empty Mine (drop_in s b c h m).0.free

-- a move taken back and made again leads to the same board
module _ (s : Size) (d : List Cell) (c : ℕ) (h : IsLegal s d) (low : c < columns s) (e : can_have_led_here s d c ≡ true) (was : IsLegal s (undo s d c)) where
  theirs_there : cell_at d (topmost s d c) ≡ Theirs
  unfolding can_have_led_here
  theirs_there = their_cell _ e

  below_there : topmost s d c < cells s
  unfolding can_have_led_here
  below_there = let i = theirs_inside d (topmost s d c) e in let n = h.cells_are in omega (arith, i, n)

  -- where the piece was, one can come to lie
  back_in : CanDrop s (undo s d c) (topmost s d c)
  unfolding Stand
  back_in =
      let k = topmost s d c in
      let t = map turned d in
      let n : length t ≡ cells s = length-map d turned ∙ h.cells_are in
      let pos = some_columns s in
      let other : k + columns s ≢ k = (λ z. omega (arith, z, pos)) in
      let same : is_taken (cell_at (undo s d c) (k + columns s)) ≡ is_taken (cell_at d (k + columns s)) =
      ap is_taken (get_or-set_other t k (k + columns s) Empty Empty other ∙ cell_turned d (k + columns s)) ∙ taken_turned (cell_at d (k + columns s)) in
      record {
        below = below_there;
        free = get_or-set_same t k Empty Empty (let l = below_there in omega (arith, l, n));
        supported = elim (or_cases (leb (cells s) (k + columns s)) (is_taken (cell_at d (k + columns s))) (h.stand k below_there (ap is_taken theirs_there))) [
          | inl z ↦ ap (λ (x : Bool). x || is_taken (cell_at (undo s d c) (k + columns s))) z
          | inr z ↦ or_right (leb (cells s) (k + columns s)) (is_taken (cell_at (undo s d c) (k + columns s))) (same ∙ z)
        ];
      }

  pub dropped_again : play s (undo s d c) c ≡ d
  dropped_again =
      let k = topmost s d c in
      let there : landing s (undo s d c) c ≡ k = ap (landing s (undo s d c)) (sym (topmost_column s d c low)) ∙ landing_is s (undo s d c) k was back_in in
      ap (λ (i : ℕ). map turned (set (undo s d c) i Mine)) there
      ∙ ap (map turned) (set_and_back (map turned d) k Mine Empty (turned_cell d k Theirs theirs_there)) ∙ turned_twice d

-- ---- the board after a move
line_none : (x : Bool) → (if x then Some Lose else None) ≡ None → x ≡ false
line_none true e = absurd (let z : ⊥ = cc in z)
line_none false e = refl

-- a board has no more pieces than cells
pub few_pieces : (s : Size) (b : List Cell) → length b ≡ cells s → pieces b ≤ cells s
few_pieces s b n = let a = all_cells b in omega (arith, a, n)

-- a move leads to a legal board with one more piece
pub lands : (s : Size) (b : List Cell) (c : ℕ) → IsLegal s b → IsMove (connect_four s) b c → IsLegal s (play s b c) × (pieces (play s b c) ≡ pieces b + 1)
unfolding has_line end_by_last_move
lands s b c h m =
    let k = landing s b c in
    let p = (drop_in s b c h m).0 in
    let d = set b k Mine in
    let left = placed_left b k (inside s b k h.cells_are h.stand p) p.free in
    let x = mine_turned d in
    let y = theirs_turned d in
    let all : pieces (map turned d) ≡ pieces b + 1 = omega (arith, x, y, left.own, left.other) in (
      record {
        cells_are = length-map d turned ∙ left.cells ∙ h.cells_are;
        half = let half = h.half in omega (arith, x, y, left.own, left.other, half);
        stand = stand_after s b k h.cells_are h.stand p;
        no_line = filled_turned (lines s) d ∙ left.filled (lines s) ∙ line_none _ m.not_over;
      },
      all,
    )

-- that is of a child tier
pub lands_in : (s : Size) (b : List Cell) (c : ℕ) → IsLegal s b → IsMove (connect_four s) b c → Contains (child_tiers_of s (tier_of s b)) (tier_of s (play s b c))
lands_in s b c h m =
    let z = lands s b c h m in
    let k = landing s b c in
    tier_after s b (play s b c) (middle_sum s (one_at (k % columns s))) h.cells_are z.0.cells_are z.1
    (middle_after s b k h.cells_are h.stand (drop_in s b c h m).0) (middle_once s (k % columns s))

-- ---- images
-- a move of a board has an image among the moves of the image
pub image_move : (s : Size) (g : List ℕ) (b : List Cell) → Contains (mirrors s) g → legal s b ≡ true → (c : ℕ) → IsMove (connect_four s) b c
    → (n : ℕ) × IsMove (connect_four s) (permute Empty g b) n × (play s (permute Empty g b) n ≡ permute Empty g (play s b c))
unfolding can_move
image_move s g b t l c m =
    let h = legal_in s b l in
    let e = h.cells_are in
    let k = landing s b c in
    let d = (drop_in s b c h m).0 in
    let b' = permute Empty g b in
    let image = legal_in s b' (image_legal s g b t e l) in
    let y = image_set Empty (cells s) (mirrors s) (group s) g t b k Mine e d.below in
    let drop : CanDrop s b' y.0 = record {
      below = y.1;
      free = image_cell (cells s) (mirrors s) (group s) g b t y.0 y.1 ∙ ap (cell_at b) y.2 ∙ d.free;
      supported = image_supported s g b t e y.0 y.1 ∙ ap (is_supported s b) y.2 ∙ d.supported;
    } in (
      y.0 % columns s,
      record {
        below = mod-lt y.0 (some_columns s);
        not_over = image_over s g b t e ∙ m.not_over;
        can = has_room s b' y.0 image drop;
      },
      ap (λ (i : ℕ). map turned (set b' i Mine)) (landing_is s b' y.0 image drop) ∙ ap (map turned) (sym y.3) ∙ sym (permute_turned g (set b k Mine)),
    )
