-- The children that a list of masks stands for.
use Rattle.gm_shard.proofs.Lower.{◌≡◌, ℕ, ◌+◌, ◌<◌, List, [], length, get_or, refl, ap, ◌∙◌, arith, set, Position, Rules}
use Rattle.std.proofs.Common.{◌∷◌, zero, suc, replicate}
use Rattle.gm_game.specs.Rules.{at}
use Rattle.gm_game.specs.Children.{canonical_children_of}
use Rattle.gm_game.specs.inner.Masks.{picked}
use Rattle.gm_game.proofs.MaskLemmas.{picked_none}
use Rattle.gm_shard.specs.inner.Masks.{children_of_masks}

pub zero_plus : (k : ℕ) → 0 + k ≡ k
zero_plus k = omega arith

pub length-masks : (r : Rules) (tier i : ℕ) (ms : List ℕ) → length (children_of_masks r tier i ms) ≡ length ms
length-masks r tier i [] = refl
length-masks r tier i (m ∷ ms) = let e = length-masks r tier (suc i) ms in omega arith

-- one of them
pub masks_at : (r : Rules) (tier i : ℕ) (ms : List ℕ) (k : ℕ) → k < length ms
    → get_or (children_of_masks r tier i ms) k [] ≡ picked (canonical_children_of r (at tier (i + k))) (get_or ms k 0)
masks_at r tier i [] k l = absurd (omega arith)
masks_at r tier i (m ∷ ms) zero l = let e : i ≡ i + 0 = omega arith in ap (λ (j : ℕ). picked (canonical_children_of r (at tier j)) m) e
masks_at r tier i (m ∷ ms) (suc k) l =
    let e : suc i + k ≡ i + suc k = omega arith in
    masks_at r tier (suc i) ms k (omega arith) ∙ ap (λ (j : ℕ). picked (canonical_children_of r (at tier j)) (get_or ms k 0)) e

-- one of them changed
pub masks_set : (r : Rules) (tier i : ℕ) (ms : List ℕ) (k m : ℕ) → k < length ms
    → children_of_masks r tier i (set ms k m) ≡ set (children_of_masks r tier i ms) k (picked (canonical_children_of r (at tier (i + k))) m)
masks_set r tier i [] k m l = absurd (omega arith)
masks_set r tier i (n ∷ ms) zero m l = let e : i ≡ i + 0 = omega arith in
    ap (λ (j : ℕ). picked (canonical_children_of r (at tier j)) m ∷ children_of_masks r tier (suc i) ms) e
masks_set r tier i (n ∷ ms) (suc k) m l =
    let e : suc i + k ≡ i + suc k = omega arith in
    ap (λ (ds : List (List Position)). picked (canonical_children_of r (at tier i)) n ∷ ds)
    (masks_set r tier (suc i) ms k m (omega arith)
    ∙ ap (λ (j : ℕ). set (children_of_masks r tier (suc i) ms) k (picked (canonical_children_of r (at tier j)) m)) e)

-- no bit is set
pub masks_none : (r : Rules) (tier i n : ℕ) → children_of_masks r tier i (replicate n 0) ≡ replicate {A = List Position} n []
masks_none r tier i zero = refl
masks_none r tier i (suc n) =
    ap (λ (d : List Position). d ∷ children_of_masks r tier (suc i) (replicate n 0)) (picked_none 0 (canonical_children_of r (at tier i)))
    ∙ ap (λ (ds : List (List Position)). [] ∷ ds) (masks_none r tier (suc i) n)
