-- Counting pairs by tile.
use Rattle.gm_frontier.proofs.Lower.{◌≡◌, ◌≢◌, ℕ, ◌+◌, ◌/◌, ◌<◌, ◌≤◌, ◌^◌, inl, inr, Bool, true, if◌then◌else◌, List, [], ◌∷◌, length, get_or, refl, sym, ap, ◌∙◌, arith, NoteData, tile_count}
use Rattle.std.proofs.Common.{◌==◌, eqb-true, eq-eqb, get_or-set_same, get_or-set_other, set}
use Rattle.std.proofs.lemmas.Bool.{cases_Bool}

-- one more pair
pub count_first : (width k : ℕ) (x : NoteData × ℕ) (xs : List (NoteData × ℕ)) → x.1 / width ≡ k → tile_count width k (x ∷ xs) ≡ tile_count width k xs + 1
count_first width k x xs e =
    let b : (x.1 / width == k) ≡ true = eq-eqb (x.1 / width) k e in
    let h : tile_count width k (x ∷ xs) ≡ 1 + tile_count width k xs = ap (λ (c : Bool). (if c then 1 else 0) + tile_count width k xs) b in
    omega arith

pub count_other : (width k : ℕ) (x : NoteData × ℕ) (xs : List (NoteData × ℕ)) → x.1 / width ≢ k → tile_count width k (x ∷ xs) ≡ tile_count width k xs
count_other width k x xs e = elim (cases_Bool (x.1 / width == k)) [
  | inl b ↦ absurd (e (eqb-true (x.1 / width) k b))
  | inr b ↦ (let h : tile_count width k (x ∷ xs) ≡ 0 + tile_count width k xs = ap (λ (c : Bool). (if c then 1 else 0) + tile_count width k xs) b in omega arith)
]

pub counts_few : (width k : ℕ) (xs : List (NoteData × ℕ)) → tile_count width k xs ≤ length xs
counts_few width k [] = omega arith
counts_few width k (x ∷ xs) = let rest = counts_few width k xs in elim (cases_Bool (x.1 / width == k)) [
  | inl b ↦ (let h = count_first width k x xs (eqb-true (x.1 / width) k b) in omega arith)
  | inr b ↦ (let h = count_other width k x xs (λ e. (let t = eq-eqb (x.1 / width) k e in cc)) in omega arith)
]

-- one turn of the count: what is counted and what is still to come are all pairs
pub counted_more : (width : ℕ) (counts new : List ℕ) (x : NoteData × ℕ) (rest all : List (NoteData × ℕ)) (n : ℕ) → length counts ≡ n → x.1 / width < n
    → new ≡ set counts (x.1 / width) (get_or counts (x.1 / width) 0 + 1)
    → ((k : ℕ) → k < n → get_or counts k 0 + tile_count width k (x ∷ rest) ≡ tile_count width k all) → (k : ℕ) → k < n
    → get_or new k 0 + tile_count width k rest ≡ tile_count width k all
counted_more width counts new x rest all n same inside e before k l =
    let here = before k l in
    let now : get_or new k 0 ≡ get_or (set counts (x.1 / width) (get_or counts (x.1 / width) 0 + 1)) k 0 = ap (λ (xs : List ℕ). get_or xs k 0) e in
    elim (cases_Bool (x.1 / width == k)) [
      | inl b ↦ (let q : x.1 / width ≡ k = eqb-true (x.1 / width) k b in
          let h = count_first width k x rest q in
          let lt : k < length counts = omega arith in
          let w : get_or (set counts (x.1 / width) (get_or counts (x.1 / width) 0 + 1)) k 0 ≡ get_or counts k 0 + 1 =
          ap (λ (i : ℕ). get_or (set counts i (get_or counts i 0 + 1)) k 0) q ∙ (rw get_or-set_same refl) in
          omega arith)
      | inr b ↦ (let q : x.1 / width ≢ k = λ e. (let t = eq-eqb (x.1 / width) k e in cc) in
          let h = count_other width k x rest q in
          let p : k ≢ x.1 / width = λ e. q (sym e) in
          let w : get_or (set counts (x.1 / width) (get_or counts (x.1 / width) 0 + 1)) k 0 ≡ get_or counts k 0 = rw get_or-set_other refl in
          omega arith)
    ]

-- and it fits
pub room_left : (width : ℕ) (counts : List ℕ) (x : NoteData × ℕ) (rest all : List (NoteData × ℕ)) (n : ℕ) → x.1 / width < n
    → ((k : ℕ) → k < n → get_or counts k 0 + tile_count width k (x ∷ rest) ≡ tile_count width k all)
    → length all < 2 ^ 64 → get_or counts (x.1 / width) 0 + 1 < 2 ^ 64
room_left width counts x rest all n inside before few =
    let here = before (x.1 / width) inside in
    let h = count_first width (x.1 / width) x rest refl in
    let most = counts_few width (x.1 / width) all in
    omega arith
