-- Heights of columns: in how many ways pieces can stand on columns, and the ranks of lists of heights.
use Rattle.std.proofs.Common.{ℕ, zero, suc, ◌+◌, ◌-◌, ◌*◌, ◌/◌, ◌%◌, ◌≤◌, cond, ltb, List, [], ◌∷◌, ◌++◌, length, take, drop}

-- f s + f (s - 1) + .., as many terms as the first number says, but none past f 0
abbrev pub sum_down : (ℕ → ℕ) → ℕ → ℕ → ℕ
sum_down f zero s = 0
sum_down f (suc x) zero = f 0
sum_down f (suc x) (suc s) = f (suc s) + sum_down f x s

-- f 0 + f 1 + .. + f (n - 1)
abbrev pub sum_up : (ℕ → ℕ) → ℕ → ℕ
sum_up f zero = 0
sum_up f (suc n) = sum_up f n + f n

-- in how many ways s pieces can stand on k columns, at most h on each: the first column has no piece, or one, or two ..
unfoldable pub stackings : ℕ → ℕ → ℕ → ℕ
stackings h zero zero = 1
stackings h zero (suc s) = 0
stackings h (suc k) s = sum_down (stackings h k) (suc h) s

-- how many pieces stand on columns of these heights
abbrev pub total : List ℕ → ℕ
total [] = 0
total (x ∷ xs) = x + total xs

-- each height is at most h
abbrev pub AreHeights : ℕ → List ℕ → Type 0
AreHeights h [] = Unit {0}
AreHeights h (x ∷ xs) = (x ≤ h) × AreHeights h xs

-- the rank of a list of heights among those as long with the same total: before it come those whose first height is less
unfoldable pub rank_heights : ℕ → List ℕ → ℕ
rank_heights h [] = 0
rank_heights h (x ∷ xs) = sum_down (stackings h (length xs)) x (x + total xs) + rank_heights h xs

-- the first height by a rank, where f has the ways to place what is left on the other columns
abbrev pub first_height : (ℕ → ℕ) → ℕ → ℕ → ℕ → ℕ
first_height f zero s r = 0
first_height f (suc x) zero r = 0
first_height f (suc x) (suc s) r = cond (ltb r (f (suc s))) 0 (suc (first_height f x s (r - f (suc s))))

-- the list of k heights of this total that has this rank
unfoldable pub unrank_heights : ℕ → ℕ → ℕ → ℕ → List ℕ
unrank_heights h zero s r = []
unrank_heights h (suc k) s r =
    first_height (stackings h k) h s r
    ∷ unrank_heights h k (s - first_height (stackings h k) h s r) (r - sum_down (stackings h k) (first_height (stackings h k) h s r) s)

-- ---- the middle columns and the others
-- how many of w columns are to the left of the k middle ones
abbrev pub side : ℕ → ℕ → ℕ
side w k = (w - k) / 2

-- the heights of the k middle columns
unfoldable pub middle_heights : ℕ → List ℕ → List ℕ
middle_heights k hs = take k (drop (side (length hs) k) hs)

-- the heights of the others, from the left
unfoldable pub outer_heights : ℕ → List ℕ → List ℕ
outer_heights k hs = take (side (length hs) k) hs ++ drop (side (length hs) k + k) hs

-- the heights of all columns, from those of the middle ones and of the others
unfoldable pub all_heights : List ℕ → List ℕ → List ℕ
all_heights ms os = take (length os / 2) os ++ (ms ++ drop (length os / 2) os)

-- in how many ways n pieces can stand on the others of w columns, and m pieces on the k middle ones
unfoldable pub split_stackings : ℕ → ℕ → ℕ → ℕ → ℕ → ℕ
split_stackings h w k n m = stackings h k m * stackings h (w - k) n

-- the rank of a list of heights among those with as many pieces on the middle columns and on the others: first by the middle columns, then by the others
unfoldable pub rank_split : ℕ → ℕ → List ℕ → ℕ
rank_split h k hs =
    rank_heights h (middle_heights k hs) * stackings h (length (outer_heights k hs)) (total (outer_heights k hs)) + rank_heights h (outer_heights k hs)

-- the list of w heights that has this rank
unfoldable pub unrank_split : ℕ → ℕ → ℕ → ℕ → ℕ → ℕ → List ℕ
unrank_split h w k n m r = all_heights (unrank_heights h k m (r / stackings h (w - k) n)) (unrank_heights h (w - k) n (r % stackings h (w - k) n))
