-- The children that a list of masks stands for.
use Rattle.gm_counters.proofs.Lower.{◌≡◌, ℕ, suc, ◌+◌, ◌<◌, ◌≤◌, List, [], ◌∷◌, length, get_or, arith, Position}
use Rattle.std.proofs.Common.{sum_by, ◌*◌}
use Rattle.std.proofs.lemmas.List.Sums.{sum_by-cons}
use Rattle.std.proofs.Math.Nat.{mul-suc}

-- short lists make a small sum
pub sum_small : (n : ℕ) (ds : List (List Position)) → ((k : ℕ) → k < length ds → length (get_or ds k []) ≤ n) → sum_by length ds ≤ n * length ds
sum_small n [] f = omega arith
sum_small n (d ∷ ds) f =
    let e = sum_by-cons (length {A = Position}) d ds in
    let here : length d ≤ n = f 0 (omega arith) in
    let rest = sum_small n ds (λ k l. f (suc k) (omega arith)) in
    let m : n * length (d ∷ ds) ≡ n * length ds + n = mul-suc n (length ds) in
    omega arith
