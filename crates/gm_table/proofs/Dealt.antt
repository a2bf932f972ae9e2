-- Blocks that are dealt out, and what is found of them, item by item.
use Rattle.gm_table.proofs.Lower.{◌≡◌, ℕ, zero, suc, ◌+◌, ◌-◌, ◌/◌, ◌%◌, ◌<◌, ◌⊎◌, inl, inr, List, [], ◌∷◌, ◌++◌, length, slice_get, Some, sym, ap, subst, ◌∙◌, arith}
use Rattle.std.specs.List.{AllZip, range_with_len}
use Rattle.std.proofs.Math.Nat.{div-lt_iff_lt-mul, mod-lt}
use Rattle.std.proofs.lemmas.Nat.{mul-add-lt, mod-mul-add, div-mul-add, div-add-mod'}
use Rattle.std.proofs.lemmas.Slice.Zip.{AllZip-long}
use Rattle.std.proofs.lemmas.List.FromFn.{length-range_with_len}
use Rattle.gm_table.specs.inner.Dealing.{block_in}
use Rattle.std.proofs.Common.{◌*◌}

-- an item of two lists, one after the other, is in one of them
pub append_cases : {X : Type 0} (xs ys : List X) (k : ℕ) (x : X) → slice_get (xs ++ ys) k ≡ Some x → (slice_get xs k ≡ Some x) ⊎
    ((j : ℕ) × (k ≡ length xs + j) × (slice_get ys j ≡ Some x))
append_cases [] ys k x e = inr (k, (let same : k ≡ 0 + k = omega arith in same), e)
append_cases (z ∷ zs) ys zero x e = inl e
append_cases (z ∷ zs) ys (suc k) x e = elim (append_cases zs ys k x e) [
  | inl h ↦ inl h
  | inr (j, i, q) ↦ inr (j, (let more : suc k ≡ suc (length zs) + j = omega arith in more), q)
]

-- each item of a list has a property at its place, and so has one more at the end
abbrev pub EachAt : {X : Type 0} → (ℕ → X → Type 0) → List X → Type 0
EachAt {X} P xs = (k : ℕ) (x : X) → slice_get xs k ≡ Some x → P k x

pub none_at : {X : Type 0} (P : ℕ → X → Type 0) → EachAt P []
none_at {X} P k x e = absurd (cc)

pub one_at : {X : Type 0} (P : ℕ → X → Type 0) (xs : List X) (x : X) → P (length xs) x → EachAt P xs → EachAt P (xs ++ x ∷ [])
one_at {X} P xs x is before k y e = elim (append_cases xs (x ∷ []) k y e) [
  | inl h ↦ before k y h
  | inr (zero, i, q) ↦ (let same : x ≡ y = cc in let here : length xs ≡ k = omega arith in subst (P k) same (subst (λ (j : ℕ). P j x) here is))
  | inr (suc j, i, q) ↦ absurd (cc)
]

-- where the block with this number is found
pub dealt : (rows block : ℕ) → block < rows * 32 → (block % 32 * rows + block / 32 < rows * 32) × (block_in rows (block % 32 * rows + block / 32) ≡ block)
dealt rows block within =
    let row : block / 32 < rows = (div-lt_iff_lt-mul (omega arith)).1 within in
    let class : block % 32 < 32 = mod-lt block {m = 32} (omega arith) in
    let inside : block % 32 * rows + block / 32 < rows * 32 = mul-add-lt (block % 32) rows (block / 32) 32 class row in
    let place = block % 32 * rows + block / 32 in
    let low : place % rows ≡ block / 32 = mod-mul-add (block % 32) rows (block / 32) row in
    let high : place / rows ≡ block % 32 = div-mul-add (block % 32) rows (block / 32) row in
    (inside, ap (λ (a : ℕ). a * 32 + place / rows) low ∙ ap (λ (b : ℕ). block / 32 * 32 + b) high ∙ div-add-mod' block 32)

-- a list that goes with the numbers below n, item by item
pub zip_whole : {X : Type 0} (R : ℕ → X → Type 0) (n : ℕ) (numbers : List ℕ) (xs items : List X) → numbers ≡ range_with_len 0 (n - 0) → AllZip R numbers xs
    → items ≡ xs → (length items ≡ n) × AllZip R (range_with_len 0 (length items)) items
zip_whole {X} R n numbers xs items places zip same =
    let same_end : n - 0 ≡ n = omega arith in
    let z = subst (λ (ys : List X). AllZip R (range_with_len 0 n) ys) (sym same) (subst (λ (is : List ℕ). AllZip R is xs)
    (places ∙ ap (range_with_len 0) same_end) zip) in
    let long : length items ≡ n = AllZip-long R (range_with_len 0 n) items z ∙ length-range_with_len 0 n in
    (long, subst (λ (m : ℕ). AllZip R (range_with_len 0 m) items) (sym long) z)
