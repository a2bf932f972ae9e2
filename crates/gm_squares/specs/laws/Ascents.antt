-- Ascending lists by place.
use Rattle.std.specs.Prelude.{◌<◌, ◌≤◌, ◌∷◌}
use Rattle.gm_pieces.specs.Common.{ℕ, zero, suc, List, [], length, get_or, arith, IsAscending, Contains-get_or}
use Rattle.gm_pieces.specs.laws.Listed.{ascending_above}

later_ascend : (x : ℕ) (xs : List ℕ) → IsAscending (x ∷ xs) → IsAscending xs
later_ascend x [] up = tt
later_ascend x (y ∷ ys) up = up.1

-- no number is above a later one
pub ascending_at : (xs : List ℕ) (k j : ℕ) → IsAscending xs → k ≤ j → j < length xs → get_or xs k 0 ≤ get_or xs j 0
ascending_at [] k j up l h = absurd (omega (arith, h))
ascending_at (x ∷ xs) zero zero up l h = omega arith
ascending_at (x ∷ xs) zero (suc j) up l h =
    let a = ascending_above x xs up (get_or xs j 0) (Contains-get_or xs j 0 (omega (arith, h))) in omega (arith, a)
ascending_at (x ∷ xs) (suc k) zero up l h = absurd (omega (arith, l))
ascending_at (x ∷ xs) (suc k) (suc j) up l h = ascending_at xs k j (later_ascend x xs up) (omega (arith, l)) (omega (arith, h))
