-- Blocks of a tier, one after another.
use Rattle.gm_immediate.proofs.Lower.{◌≡◌, ℕ, ◌+◌, List, [], ◌∷◌, ◌++◌, length, Some, subst, arith, AllZip, ◌-◌, ◌≤◌, ◌∙◌}
use Rattle.std.proofs.Common.{zero, suc, slice_get}
use Rattle.std.specs.List.{range_with_len}

-- an item that goes with the numbers from n on has the property of its number
pub zip_at : {X : Type 0} (R : ℕ → X → Type 0) (n : ℕ) (xs : List X) → AllZip R (range_with_len n (length xs)) xs → (k : ℕ) (x : X)
    → slice_get xs k ≡ Some x → R (n + k) x
zip_at {X} R n [] h k x e = absurd (cc)
zip_at {X} R n (y ∷ ys) h zero x e =
    let same : y ≡ x = cc in
    let here : n ≡ n + 0 = omega arith in
    subst (R (n + 0)) same (subst (λ (m : ℕ). R m y) here h.0)
zip_at {X} R n (y ∷ ys) h (suc k) x e =
    let next : n + 1 + k ≡ n + suc k = omega arith in
    subst (λ (m : ℕ). R m x) next (zip_at R (n + 1) ys h.1 k x e)
