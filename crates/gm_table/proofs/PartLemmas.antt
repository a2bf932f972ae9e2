-- What is known of some parts of the records.
use Rattle.gm_table.proofs.Lower.{ℕ, zero, suc, List, [], ◌∷◌, Option, None, Some, IfSome, get_or, set, replicate}

-- of no part
pub none_known : {X : Type 0} (P : ℕ → X → Type 0) (n k : ℕ) → IfSome (get_or (replicate n None) k None) (P k)
none_known P zero k = tt
none_known P (suc n) zero = tt
none_known P (suc n) (suc k) = none_known (λ (j : ℕ). P (suc j)) n k

-- of one more
pub one_known : {X : Type 0} (P : ℕ → X → Type 0) (found : List (Option X)) (part : ℕ) (first : X) → ((k : ℕ) → IfSome (get_or found k None) (P k))
    → P part first → (k : ℕ) → IfSome (get_or (set found part (Some first)) k None) (P k)
one_known P [] part first before is k = before k
one_known P (o ∷ os) zero first before is zero = is
one_known P (o ∷ os) zero first before is (suc k) = before (suc k)
one_known P (o ∷ os) (suc part) first before is zero = before 0
one_known P (o ∷ os) (suc part) first before is (suc k) = one_known (λ (j : ℕ). P (suc j)) os part first (λ (j : ℕ). before (suc j)) is k
