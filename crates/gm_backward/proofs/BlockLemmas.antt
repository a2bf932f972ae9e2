-- Blocks of a tier, one after another.
use Rattle.gm_backward.proofs.Lower.{◌≡◌, ℕ, zero, suc, ◌+◌, inl, inr, List, [], ◌∷◌, ◌++◌, length, drop, slice_get, Some, subst, arith, ◌-◌, ◌≤◌, ◌∙◌, ap, sym, replicate, length-append, Rules, at, Start, AreStarts, slice_get_within}
use Rattle.std.proofs.Common.{take}
use Rattle.std.proofs.lemmas.List.{length-replicate, take_all, get_or-replicate}
use Rattle.gm_game.specs.Rules.{AreHoles}
use Rattle.gm_counters.specs.inner.Begin.{IsStart}
use Rattle.gm_table.proofs.Dealt.{append_cases}
use Rattle.std.proofs.lemmas.Option.{get_or_from_slice_get}
use Rattle.gm_counters.specs.declared.status.Start.TheVariants.{Hole}

-- the starts of a range, and those of the range that goes on if it ends
pub starts_more : (r : Rules) (tier lo : ℕ) (xs ys : List Start) → length xs ≡ lo → AreStarts r tier 0 xs → AreStarts r tier lo ys
    → AreStarts r tier 0 (xs ++ ys)
starts_more r tier lo xs ys long before more k x e = elim (append_cases xs ys k x e) [
  | inl h ↦ before k x h
  | inr (j, i, q) ↦ (let here : lo + j ≡ 0 + k = omega arith in subst (λ (m : ℕ). IsStart r (at tier m) x) here (more j x q))
]

-- the starts of a range that goes on with holes
pub starts_holes : (r : Rules) (tier lo n len from to : ℕ) (xs ys : List Start) → len ≡ length xs → length xs ≤ n → lo + length xs ≡ from → lo + n ≡ to
    → ys ≡ take n xs ++ replicate (n - len) Hole → AreHoles r tier from to → AreStarts r tier lo xs → (length ys ≡ n) × AreStarts r tier lo ys
starts_holes r tier lo n len from to xs ys is few begin end e holes before =
    let m = n - len in
    let same : ys ≡ xs ++ replicate m Hole = e ∙ ap (λ (zs : List Start). zs ++ replicate m Hole) (take_all n xs few) in
    let long = ap length same ∙ length-append xs (replicate m Hole) in
    let more = length-replicate m Hole in (
      omega arith,
      subst (AreStarts r tier lo) (sym same) (λ k x got. elim (append_cases xs (replicate m Hole) k x got) [
        | inl h ↦ before k x h
        | inr (j, i, q) ↦
            let within = slice_get_within (replicate m Hole) j x q in
            let hole : Hole ≡ x = sym (get_or-replicate m j Hole Hole (omega arith)) ∙ get_or_from_slice_get (replicate m Hole) j x Hole q in
            subst (IsStart r (at tier (lo + k))) hole (holes (lo + k) (omega arith) (omega arith))
      ]),
    )

-- an item of a part of a list is in the list
take_get : {X : Type 0} (n k : ℕ) (xs : List X) (x : X) → slice_get (take n xs) k ≡ Some x → slice_get xs k ≡ Some x
take_get zero k xs x e = absurd (cc)
take_get (suc n) k [] x e = absurd (cc)
take_get (suc n) zero (y ∷ ys) x e = e
take_get (suc n) (suc k) (y ∷ ys) x e = take_get n k ys x e

drop_get : {X : Type 0} (lo k : ℕ) (xs : List X) (x : X) → slice_get (drop lo xs) k ≡ Some x → slice_get xs (lo + k) ≡ Some x
drop_get zero k xs x e = (let same : k ≡ 0 + k = omega arith in subst (λ (m : ℕ). slice_get xs m ≡ Some x) same e)
drop_get (suc lo) k [] x e = absurd (cc)
drop_get (suc lo) k (y ∷ ys) x e = (let same : suc (lo + k) ≡ suc lo + k = omega arith in
    subst (λ (m : ℕ). slice_get (y ∷ ys) m ≡ Some x) same (drop_get lo k ys x e))

-- the starts of a part of a tier
pub starts_part : (r : Rules) (tier lo n : ℕ) (xs : List Start) → AreStarts r tier 0 xs → AreStarts r tier lo (take n (drop lo xs))
starts_part r tier lo n xs all k x e =
    let same : 0 + (lo + k) ≡ lo + k = omega arith in
    subst (λ (m : ℕ). IsStart r (at tier m) x) same (all (lo + k) x (drop_get lo k xs x (take_get n k (drop lo xs) x e)))
