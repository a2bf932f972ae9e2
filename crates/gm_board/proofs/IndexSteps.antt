-- An arrangement's index by the ranks of two masks, and its masks by two ranks.
use Rattle.gm_board.proofs.Lower.{◌≡◌, ℕ, ◌+◌, ◌-◌, ◌/◌, ◌%◌, ◌<◌, ◌≤◌, Bool, List, length, sym, ap, ap₂, ◌∙◌, subst, arith, binomial, members, rank, tests_of, mask_of, mask_rank, tests_mask, mask_below, mask_rank_at, their_bits, HasPieces, cells_of}
use Rattle.std.proofs.Common.{mod-lt, div-lt_iff_lt-mul, ◌*◌}
use Rattle.gm_board.specs.Ranks.{unrank}
use Rattle.gm_board.specs.laws.Masks.{tests_unrank}
use Rattle.gm_board.specs.Arrangements.{merge, arrangement_index, arrangement, arrangements}
use Rattle.gm_board.specs.laws.Arrangements.{mine_bits_merge, pos_of_lt_mul}
use Rattle.gm_board.specs.Pieces.{their_tests, mine_mask, their_mask, spread_mask}
use Rattle.gm_board.specs.laws.Ranks.{unrank_members}
use Rattle.gm_board.specs.laws.Pieces.{free_count, mine_bits_cells, their_count}
use Rattle.gm_board.specs.Masks.{mask_unrank}

rank_of_tests : (bs : List Bool) → length bs ≤ 32 → mask_rank (mask_of bs) ≡ rank bs
rank_of_tests bs l = mask_rank_at (length bs) (mask_of bs) l (mask_below bs) ∙ ap rank (tests_mask bs)

-- the index is made of the rank of the one mask, the ways for the other, and its rank when packed
pub index_is : (n m t mine theirs a w p : ℕ) → n ≤ 32 → HasPieces n m t mine theirs → a ≡ mask_rank mine → w ≡ binomial (n - m) t → p ≡ mask_rank
    (mask_of (their_bits (cells_of n mine theirs)))
    → a * w + p ≡ arrangement_index (cells_of n mine theirs)
unfolding arrangement_index
index_is n m t mine theirs a w p l h ea ew ep =
    let cs = cells_of n mine theirs in
    let free = free_count n m t mine theirs h in
    ap₂ (λ (x y : ℕ). x + y)
    (ap₂ (λ (x y : ℕ). x * y)
    (ea ∙ mask_rank_at n mine l h.mine_within ∙ ap rank (sym (mine_bits_cells n mine theirs)))
    (ew ∙ ap₂ binomial (sym free) (sym (their_count n m t mine theirs h))))
    (ep ∙ rank_of_tests (their_bits cs) (omega (arith, free)))

-- the number of ways to place the opponent's pieces, and the rank of the mover's
pub record AreDigits (n m t i w : ℕ) : Type 0 where
  pub ways : 0 < w
  pub mine_rank : i / w < binomial n m
  pub their_rank : i % w < w

-- what an index has by the number of ways
pub digits_are : (n m t i w : ℕ) → i < arrangements n m t → w ≡ binomial (n - m) t → AreDigits n m t i w
unfolding arrangements
digits_are n m t i w l e =
    let k : i < binomial n m * w = subst (λ (v : ℕ). i < binomial n m * v) (sym e) l in
    let p : 0 < w = pos_of_lt_mul i (binomial n m) w k in
    record { ways = p; mine_rank = (div-lt_iff_lt-mul p).1 k; their_rank = mod-lt i p }

-- the mover's mask is that of the first rank
pub mine_mask_is : (n m t i w mine : ℕ) → w ≡ binomial (n - m) t → mine ≡ mask_unrank n m (i / w) → mine ≡ mine_mask n m t i
unfolding mine_mask arrangement mask_unrank
mine_mask_is n m t i w mine e f =
    f
    ∙ ap (λ (v : ℕ). mask_of (unrank n m (i / v))) e
    ∙ ap mask_of (sym (mine_bits_merge (unrank n m (i / binomial (n - m) t)) (unrank (n - m) t (i % binomial (n - m) t))))

-- the opponent's mask is that of the second rank, spread
pub their_mask_is : (n m t i w mine packed theirs : ℕ) → w ≡ binomial (n - m) t → i / w < binomial n m → mine ≡ mask_unrank n m (i / w) → packed ≡
    mask_unrank (n - m) t (i % w)
    → theirs ≡ spread_mask n mine packed → theirs ≡ their_mask n m t i
unfolding their_mask arrangement spread_mask
their_mask_is n m t i w mine packed theirs e l f g h =
    let q : tests_of n mine ≡ unrank n m (i / w) = ap (tests_of n) f ∙ tests_unrank n m (i / w) in
    let r : n - members (tests_of n mine) ≡ n - m = ap (λ (bs : List Bool). n - members bs) q ∙ ap (λ (k : ℕ). n - k) (unrank_members n m (i / w) l) in
    h
    ∙ ap₂ (λ (bs : List Bool) (k : ℕ). mask_of (their_tests (merge bs (tests_of k packed)))) q r
    ∙ ap (λ (us : List Bool). mask_of (their_tests (merge (unrank n m (i / w)) us))) (ap (tests_of (n - m)) g ∙ tests_unrank (n - m) t (i % w))
    ∙ ap (λ (v : ℕ). mask_of (their_tests (merge (unrank n m (i / v)) (unrank (n - m) t (i % v))))) e
