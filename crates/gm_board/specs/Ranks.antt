-- Ranks of subsets and of arrangements. A subset is a list of bits, the highest cell first.
use Rattle.std.proofs.Common.{ℕ, zero, suc, ◌+◌, ◌-◌, Bool, true, false, cond, ltb, List, [], ◌∷◌, length}
use Rattle.gm_board.specs.Binomials.{binomial}

-- the number of members
abbrev pub members : List Bool → ℕ
members [] = 0
members (true ∷ bs) = suc (members bs)
members (false ∷ bs) = members bs

-- the rank of a subset: each member, at cell c with j members below it, adds C(c, j + 1)
abbrev pub rank : List Bool → ℕ
rank [] = 0
rank (true ∷ bs) = binomial (length bs) (suc (members bs)) + rank bs
rank (false ∷ bs) = rank bs

-- the subset of k of n cells with this rank
abbrev pub unrank : ℕ → ℕ → ℕ → List Bool
unrank zero k r = []
unrank (suc n) zero r = false ∷ unrank n zero r
unrank (suc n) (suc k) r = cond (ltb r (binomial n (suc k))) (false ∷ unrank n (suc k) r) (true ∷ unrank n k (r - binomial n (suc k)))
