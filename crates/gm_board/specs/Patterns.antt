-- Patterns: sets of cells, such as the lines of a board, and tests on the cells of each.
use Rattle.std.proofs.Common.{ℕ, Bool, ◌&&◌, cond, ltb, List, [], ◌∷◌, get_or}
use Rattle.std.specs.List.{list_any, list_all}
use Rattle.gm_board.specs.Permutations.{permute, same_list}

-- the numbers of a list in ascending order
abbrev pub sort_in : ℕ → List ℕ → List ℕ
sort_in x [] = x ∷ []
sort_in x (y ∷ ys) = cond (ltb y x) (y ∷ sort_in x ys) (x ∷ y ∷ ys)

-- the whole list sorted
abbrev pub sort : List ℕ → List ℕ
sort [] = []
sort (x ∷ xs) = sort_in x (sort xs)

-- whether all cells of a pattern pass the test
abbrev pub fills : {X : Type 0} → X → (X → Bool) → List X → List ℕ → Bool
fills d p xs l = list_all (λ k. p (get_or xs k d)) l

-- whether some pattern is filled
abbrev pub has_filled : {X : Type 0} → X → List (List ℕ) → (X → Bool) → List X → Bool
has_filled d L p xs = list_any (fills d p xs) L

-- each permutation takes each pattern to a pattern; each cell is below n
abbrev pub keeps_patterns : ℕ → List (List ℕ) → List (List ℕ) → Bool
keeps_patterns n G L = list_all (λ g. list_all (λ l. list_any (same_list (sort (permute 0 l g))) L) L) G && list_all (list_all (λ k. ltb k n)) L
