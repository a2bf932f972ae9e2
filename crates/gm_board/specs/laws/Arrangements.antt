-- What follows from the definitions of specs/Arrangements.antt.
use Rattle.std.proofs.lemmas.Nat.{div-mul-add, mod-mul-add, mul-lt}
use Rattle.std.proofs.Math.Nat.{mod-add-div'}
use Rattle.gm_board.specs.declared.cell.Cell.{Cell}
use Rattle.gm_board.specs.declared.cell.Cell.TheVariants.{Empty, Mine, Theirs}
use Rattle.gm_board.specs.Binomials.{binomial}
use Rattle.gm_board.specs.Ranks.{members, rank, unrank}
use Rattle.std.proofs.Common.{◌≡◌, ℕ, zero, suc, ◌+◌, ◌-◌, ◌*◌, ◌/◌, ◌%◌, ◌<◌, ◌≤◌, Bool, true, false, List, [], ◌∷◌, length, refl, sym, ap, ◌∙◌, subst, arith, mul-le-mul_right, mod-lt, mul-zero, ◌^◌, div-lt_iff_lt-mul}
use Rattle.gm_board.specs.laws.Binomials.{binomial_small}
use Rattle.gm_board.specs.laws.Ranks.{members_le, rank_below, unrank_length, unrank_members, rank_unrank, unrank_rank}
use Rattle.gm_board.specs.Arrangements.{mine_bits, their_bits, merge, arrangement_index, arrangement, arrangements, IsArrangement}

-- the two lists of tests of a board give the board back
pub merge_bits : (cs : List Cell) → merge (mine_bits cs) (their_bits cs) ≡ cs
merge_bits [] = refl
merge_bits (Mine ∷ cs) = ap (λ (ds : List Cell). Mine ∷ ds) (merge_bits cs)
merge_bits (Theirs ∷ cs) = ap (λ (ds : List Cell). Theirs ∷ ds) (merge_bits cs)
merge_bits (Empty ∷ cs) = ap (λ (ds : List Cell). Empty ∷ ds) (merge_bits cs)

-- the mover's tests: one for each cell
pub mine_bits_length : (cs : List Cell) → length (mine_bits cs) ≡ length cs
mine_bits_length [] = refl
mine_bits_length (Mine ∷ cs) = ap suc (mine_bits_length cs)
mine_bits_length (Theirs ∷ cs) = ap suc (mine_bits_length cs)
mine_bits_length (Empty ∷ cs) = ap suc (mine_bits_length cs)

-- the opponent's tests: one for each cell without a piece of the mover's
pub their_bits_length : (cs : List Cell) → length (their_bits cs) + members (mine_bits cs) ≡ length cs
their_bits_length [] = refl
their_bits_length (Mine ∷ cs) = omega (arith, their_bits_length cs)
their_bits_length (Theirs ∷ cs) = omega (arith, their_bits_length cs)
their_bits_length (Empty ∷ cs) = omega (arith, their_bits_length cs)

-- the board of two lists of tests gives the mover's tests back
pub mine_bits_merge : (ms ts : List Bool) → mine_bits (merge ms ts) ≡ ms
mine_bits_merge [] ts = refl
mine_bits_merge (true ∷ ms) ts = ap (λ (bs : List Bool). true ∷ bs) (mine_bits_merge ms ts)
mine_bits_merge (false ∷ ms) [] = ap (λ (bs : List Bool). false ∷ bs) (mine_bits_merge ms [])
mine_bits_merge (false ∷ ms) (true ∷ ts) = ap (λ (bs : List Bool). false ∷ bs) (mine_bits_merge ms ts)
mine_bits_merge (false ∷ ms) (false ∷ ts) = ap (λ (bs : List Bool). false ∷ bs) (mine_bits_merge ms ts)

-- the board of two lists of tests gives the opponent's tests back
pub their_bits_merge : (ms ts : List Bool) → length ts + members ms ≡ length ms → their_bits (merge ms ts) ≡ ts
their_bits_merge [] [] e = refl
their_bits_merge [] (t ∷ ts) e = absurd (omega arith)
their_bits_merge (true ∷ ms) ts e = their_bits_merge ms ts (omega arith)
their_bits_merge (false ∷ ms) [] e = absurd (omega (arith, members_le ms))
their_bits_merge (false ∷ ms) (true ∷ ts) e = ap (λ (bs : List Bool). true ∷ bs) (their_bits_merge ms ts (omega arith))
their_bits_merge (false ∷ ms) (false ∷ ts) e = ap (λ (bs : List Bool). false ∷ bs) (their_bits_merge ms ts (omega arith))

-- a number of two digits is below that of their ranges
pub two_digits : (a n b w : ℕ) → a < n → b < w → a * w + b < n * w
two_digits a n b w l k = let h : suc a * w ≤ n * w = mul-le-mul_right w l in omega arith

-- a product above a number has no factor 0
pub pos_of_lt_mul : (i a w : ℕ) → i < a * w → 0 < w
pos_of_lt_mul i a zero l = absurd (omega (arith, mul-zero a))
pos_of_lt_mul i a (suc w) l = omega arith

-- the number of cells that are free for the opponent
pub their_bits_free : (cs : List Cell) → length (their_bits cs) ≡ length cs - members (mine_bits cs)
their_bits_free cs = omega (arith, their_bits_length cs)

-- an index is below the number of arrangements
pub arrangement_index_below : (cs : List Cell) → arrangement_index cs < arrangements (length cs) (members (mine_bits cs)) (members (their_bits cs))
unfolding arrangement_index arrangements
arrangement_index_below cs =
    let a : rank (mine_bits cs) < binomial (length cs) (members (mine_bits cs)) =
    subst (λ (n : ℕ). rank (mine_bits cs) < binomial n (members (mine_bits cs))) (mine_bits_length cs) (rank_below (mine_bits cs)) in
    subst (λ (f : ℕ). arrangement_index cs < binomial (length cs) (members (mine_bits cs)) * binomial f (members (their_bits cs))) (their_bits_free cs)
    (two_digits _ _ _ _ a (rank_below (their_bits cs)))

-- the index of a board gives the board back
pub arrangement_back : (cs : List Cell) → arrangement (length cs) (members (mine_bits cs)) (members (their_bits cs)) (arrangement_index cs) ≡ cs
unfolding arrangement_index arrangement
arrangement_back cs =
    rw (
      ← their_bits_free cs,
      div-mul-add (rank (mine_bits cs)) (binomial (length (their_bits cs)) (members (their_bits cs))) (rank (their_bits cs)) (rank_below (their_bits cs)),
      mod-mul-add (rank (mine_bits cs)) (binomial (length (their_bits cs)) (members (their_bits cs))) (rank (their_bits cs)) (rank_below (their_bits cs)),
      ← mine_bits_length cs,
      unrank_rank (mine_bits cs),
      unrank_rank (their_bits cs),
    )
    (merge_bits cs)

-- each index below the number of arrangements is the index of its arrangement
pub arrangement_is : (n m t i : ℕ) → i < arrangements n m t → IsArrangement n m t i (arrangement n m t i)
unfolding arrangement_index arrangement arrangements
arrangement_is n m t i l =
    let w = binomial (n - m) t in
    let ms = unrank n m (i / w) in
    let ts = unrank (n - m) t (i % w) in
    let pos : 0 < w = pos_of_lt_mul i (binomial n m) w l in
    let a : i / w < binomial n m = (div-lt_iff_lt-mul pos).1 l in
    let b : i % w < w = mod-lt i pos in
    let em : members ms ≡ m = unrank_members n m (i / w) a in
    let et : members ts ≡ t = unrank_members (n - m) t (i % w) b in
    let lm : length ms ≡ n = unrank_length n m (i / w) in
    let lt : length ts ≡ n - m = unrank_length (n - m) t (i % w) in
    let fm : mine_bits (merge ms ts) ≡ ms = mine_bits_merge ms ts in
    let ft : their_bits (merge ms ts) ≡ ts = their_bits_merge ms ts (omega (arith, members_le ms)) in
    record {
      cells = sym (mine_bits_length (merge ms ts)) ∙ ap length fm ∙ lm;
      mine = ap members fm ∙ em;
      theirs = ap members ft ∙ et;
      back = rw (fm, ft, lt, et, rank_unrank n m (i / w) a, rank_unrank (n - m) t (i % w) b) (omega (arith, mod-add-div' i w));
    }

-- an index is below the number of arrangements, with the numbers of cells and pieces as a game has them
pub index_below_at : (n m t : ℕ) (cs : List Cell) → length cs ≡ n → members (mine_bits cs) ≡ m → members (their_bits cs) ≡ t → arrangement_index cs <
    arrangements n m t
index_below_at n m t cs e f h =
    rw (← e, ← f, ← h) (arrangement_index_below cs)

-- the index of a board gives the board back, with the numbers of cells and pieces as a game has them
pub back_at : (n m t : ℕ) (cs : List Cell) → length cs ≡ n → members (mine_bits cs) ≡ m → members (their_bits cs) ≡ t → arrangement n m t
    (arrangement_index cs) ≡ cs
back_at n m t cs e f h =
    rw (← e, ← f, ← h) (arrangement_back cs)

-- the number of arrangements of a board of up to 32 cells fits 64 bits
pub arrangements_fit : (n m t : ℕ) → n ≤ 32 → arrangements n m t < 2 ^ 64
unfolding arrangements
arrangements_fit n m t l =
    let h : n - m ≤ 32 = omega arith in
    let p = mul-lt (binomial n m) (binomial (n - m) t) (2 ^ 32) (2 ^ 32) (binomial_small n m l) (binomial_small (n - m) t h) in omega arith
