-- Connect Four has the laws of a game.
use Rattle.std.specs.Prelude.{◌≡◌, ◌+◌, ◌-◌, ◌*◌, ◌/◌, ◌^◌, ◌<◌, ◌≤◌}
use Rattle.std.proofs.Common.{mod-lt, mul-le-mul_right}
use Rattle.gm_pieces.specs.Common.{ℕ, Bool, List, length, refl, sym, ap, ◌∙◌, subst, arith, inr, leb, leb-true, le-leb, cond-true, cond_both, IsNumbered, Empty, not, filter, range_with_len, length-range_with_len, steps, board_game, IsMoveGame, IsMoveSymmetric, permuted_group, replicate, position_of, at, ap₂, Cell, least_index, min, permute}
use Rattle.std.proofs.lemmas.List.Filters.{length-filter_both}
use Rattle.gm_board.specs.laws.Permutations.{permute_identity}
use Rattle.gm_stacks.specs.Stacks.{stacked_boards, mirror}
use Rattle.gm_stacks.specs.laws.StackedBoards.{stacked_below, stacked_back, stacked_again, boards_few}
use Rattle.gm_connect.specs.declared.size.Size.{Size}
use Rattle.gm_connect.specs.ConnectFour.{pieces, legal, can_move, play, can_have_led_here, undo, mirrors, middle_pieces, middle_range, tier_of, outer_in, middle_in, pieces_in, size_at, index_of, connect_four}
use Rattle.gm_connect.specs.Sizes.{columns, rows, middle, cells, outer_cells}
use Rattle.gm_connect.specs.laws.SizeFacts.{right}
use Rattle.gm_connect.specs.laws.BoardFacts.{few_cells, few_rows, few_columns, middle_inside, parts, outer_back, legal_in, legal_from, legal_stacked, group, image_pieces, image_over, image_legal}
use Rattle.gm_connect.specs.laws.MoveFacts.{was_dropped, taken_back, dropped_again, lands, lands_in, image_move}
use Rattle.gm_connect.specs.laws.TierFacts.{lower, ascending, tiers_few, image_middle}

-- ---- the numbering
-- the number of indexes of a tier that boards can have
size_is : (s : Size) (t : ℕ) → outer_in s t ≤ outer_cells s → size_at s t
    ≡ stacked_boards (columns s) (rows s) (middle s) (outer_in s t) (middle_in s t) (pieces_in s t / 2)
unfolding size_at
size_is s t l = cond-true _ _ _ (le-leb (outer_in s t) (outer_cells s) l)

-- no more pieces than there are cells
pieces_low : (s : Size) (t : ℕ) → outer_in s t ≤ outer_cells s → pieces_in s t ≤ cells s
pieces_low s t l =
    let m = mod-lt t (let z : 0 < middle_range s = omega arith in z) in
    let all = (right s).parts in
    omega (arith, l, m, all)

-- a tier that has an index has no more pieces than there are cells
pub tier_small : (s : Size) (t i : ℕ) → i < size_at s t → (outer_in s t ≤ outer_cells s) × (pieces_in s t ≤ cells s)
unfolding size_at
tier_small s t i = cond_both (leb (outer_in s t) (outer_cells s))
    (stacked_boards (columns s) (rows s) (middle s) (outer_in s t) (middle_in s t) (pieces_in s t / 2)) 0
    (λ z. i < z → (outer_in s t ≤ outer_cells s) × (pieces_in s t ≤ cells s))
    (λ e l. let o = leb-true (outer_in s t) (outer_cells s) e in (o, pieces_low s t o)) (λ e l. absurd (omega (arith, l)))

-- an index of a tier is one of its boards
pub index_in : (s : Size) (t i : ℕ) → i < size_at s t → (n m : ℕ) → n ≡ outer_in s t → m ≡ middle_in s t
    → i < stacked_boards (columns s) (rows s) (middle s) n m ((n + m) / 2)
index_in s t i l n m e f =
    subst (λ (x : ℕ). i < x) (size_is s t (tier_small s t i l).0
    ∙ ap₂ (λ (x y : ℕ). stacked_boards (columns s) (rows s) (middle s) x y ((x + y) / 2)) (sym e) (sym f)) l

-- the numbers of tiers are small
tier_fits_in : (s : Size) (b : List Cell) → length b ≡ cells s → tier_of s b < 2 ^ 64
tier_fits_in s b e =
    let p = parts s b e in
    let m = p.middle_few in
    let o = p.outer_few in
    let all = (right s).parts in
    let n = few_cells s in
    let up : (pieces b - middle_pieces s b) * middle_range s ≤ 25 * middle_range s = mul-le-mul_right (middle_range s) (omega (arith, o, all, n)) in
    omega (arith, up, m, all, n)

-- the empty board is the first of its tier
pub starts : (s : Size) → position_of (board_game (connect_four s)) (replicate (cells s) Empty) ≡ at 0 0
starts s = ap₂ at (right s).start_tier (right s).start_index

-- the least index is the lesser of two
pub lesser : (s : Size) (b : List Cell) → length b ≡ cells s → least_index (board_game (connect_four s)) b
    ≡ min (index_of s b) (index_of s (permute Empty (mirror (columns s) (rows s)) b))
unfolding mirrors
lesser s b e =
    let same : index_of s (permute Empty (range_with_len 0 (cells s)) b) ≡ index_of s b = ap (index_of s) (permute_identity Empty (cells s) b e) in
    ap (λ (x : ℕ). min (min (index_of s b) x) (index_of s (permute Empty (mirror (columns s) (rows s)) b))) same
    ∙ ap (λ (x : ℕ). min x (index_of s (permute Empty (mirror (columns s) (rows s)) b))) (let z : min (index_of s b) (index_of s b) ≡ index_of s b = omega arith in z)

-- the numbering is one to one
pub numbered : (s : Size) → IsNumbered (board_game (connect_four s))
unfolding size_at
numbered s = record {
  tier_fits = λ b l. tier_fits_in s b (legal_in s b l).cells_are;
  size_fits = λ b l. let t = tier_of s b in cond_both (leb (outer_in s t) (outer_cells s))
      (stacked_boards (columns s) (rows s) (middle s) (outer_in s t) (middle_in s t) (pieces_in s t / 2)) 0 (λ n. n < 2 ^ 64)
      (λ e. boards_few (columns s) (rows s) (middle s) (outer_in s t) (middle_in s t) (pieces_in s t / 2) (few_rows s) (few_columns s) (middle_inside s)
      (let a = pieces_low s t (leb-true (outer_in s t) (outer_cells s) e) in let m = few_cells s in omega (arith, a, m)))
      (λ e. omega arith);
  index_below = λ b l. let h = legal_in s b l in let t = tier_of s b in subst (λ n. index_of s b < n)
      (sym (size_is s t (let o = outer_back s b h.cells_are in let f = (parts s b h.cells_are).outer_few in omega (arith, o, f))))
      (stacked_below (columns s) (rows s) (middle s) (outer_in s t) (middle_in s t) (pieces_in s t / 2) (middle_inside s) b (legal_stacked s b h));
  board_back = λ b l. let t = tier_of s b in stacked_back (columns s) (rows s) (middle s) (outer_in s t) (middle_in s t) (pieces_in s t / 2) (middle_inside s) b
      (legal_stacked s b (legal_in s b l));
  index_back = λ t i l. let n = stacked_boards (columns s) (rows s) (middle s) (outer_in s t) (middle_in s t) (pieces_in s t / 2) in λ k e.
      stacked_again (columns s) (rows s) (middle s) (outer_in s t) (middle_in s t) (pieces_in s t / 2) (middle_inside s) i
      (cond_both (leb (outer_in s t) (outer_cells s)) n 0 (λ z. i < z → i < n) (λ e l. l) (λ e l. absurd (omega (arith, l))) l);
}

-- ---- the rules
-- a test lets no more numbers through than there are columns
few : (s : Size) (p : ℕ → Bool) → length (filter p (range_with_len 0 (columns s))) ≤ 128
few s p =
    let both = length-filter_both p (λ c. not (p c)) (λ c. refl) (range_with_len 0 (columns s)) in
    let n = length-range_with_len 0 (columns s) in
    let m = few_columns s in
    omega (arith, both, n, m)

-- the game's own laws
pub lawful : (s : Size) → IsMoveGame (connect_four s)
unfolding steps
lawful s = record {
  name_length = (right s).name_length;
  name_text = (right s).name_text;
  start_legal = (right s).start;
  numbers_fit = λ t. let m = few_columns s in omega (arith, m);
  moved_legal = λ b k l h. legal_from s (play s b k) (lands s b k (legal_in s b l) h).0;
  moved_tier = λ b k l h. inr (lands_in s b k (legal_in s b l) h);
  child_rank = λ t u c. lower s t u c;
  child_tiers_ascending = λ t. ascending s t;
  undone = λ b c l h. let z = legal_in s b l in (was_dropped s b c z h, taken_back s b c z h);
  redone = λ t d c l w i e h. dropped_again s d c (legal_in s d l) h.below w (legal_in s (undo s d c) i);
  moves_few = λ b l. few s (can_move s b);
  befores_few = λ t d l. few s (can_have_led_here s d);
  child_tiers_few = λ t. tiers_few s t;
}

-- left and right exchanged keeps moves and what ends the game
pub symmetric : (s : Size) → IsMoveSymmetric (connect_four s)
symmetric s = record {
  group = permuted_group Empty (cells s) (mirrors s) (legal s) (group s) (λ b l. (legal_in s b l).cells_are);
  keeps_legal = λ g b c l. image_legal s g b c (legal_in s b l).cells_are l;
  keeps_over = λ g b c l. image_over s g b c (legal_in s b l).cells_are;
  keeps_stuck = λ g b c l. refl;
  keeps_tier = λ g b c l. let e = (legal_in s b l).cells_are in
      ap₂ (λ (n m : ℕ). (n - m) * middle_range s + m) (image_pieces s g b c e) (image_middle s g b c e);
  keeps_move = λ g b k c l h. image_move s g b c l k h;
}
