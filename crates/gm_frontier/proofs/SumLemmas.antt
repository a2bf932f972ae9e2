-- Sums over lists without repeats, and over the pieces of a list.
use Rattle.gm_frontier.proofs.Lower.{◌≡◌, ℕ, zero, suc, ◌+◌, ◌<◌, ◌≤◌, ◌↔◌, ◌⊎◌, inl, inr, List, [], ◌∷◌, ◌++◌, length, get_or, take, drop, refl, sym, ap, subst, ◌∙◌, arith, sum_by, Contains, drop_all, contains_none, contains_first, contains_later, contains_cases, HasNoRepeats, numbers_from, NoteData, piece_of}
use Rattle.std.proofs.lemmas.List.{take_more, take-append-drop}
use Rattle.std.proofs.lemmas.List.Sums.{sum_by-cons, sum_by-append}
use Rattle.std.proofs.Common.{drop-drop, ◌*◌}

-- ys is zs with x at some place
data IsWithOne {X : Type 0} (x : X) : List X → List X → Type 0 where
  here : {zs : List X} → IsWithOne x (x ∷ zs) zs
  past : {y : X} {ys zs : List X} → IsWithOne x ys zs → IsWithOne x (y ∷ ys) (y ∷ zs)

taken_out : {X : Type 0} (x : X) (ys : List X) → Contains ys x → (zs : List X) × IsWithOne x ys zs
taken_out x [] h = absurd (contains_none x h)
taken_out {X} x (y ∷ ys) h = elim (contains_cases y x ys h)
    [ inl e ↦ (ys, subst (λ z. IsWithOne x (z ∷ ys) ys) (sym e) here) | inr i ↦ (let (zs, w) = taken_out x ys i in (y ∷ zs, past w)) ]

sum_with : {X : Type 0} (f : X → ℕ) (x : X) (ys zs : List X) → IsWithOne x ys zs → sum_by f ys ≡ f x + sum_by f zs
sum_with f x ys zs (here {zs = vs}) = sum_by-cons f x vs
sum_with f x ys zs (past {y = y} {ys = us} {zs = vs} w) = let a = sum_by-cons f y us in let b = sum_by-cons f y vs in
    let e = sum_with f x us vs w in omega arith

cases_with : {X : Type 0} (x : X) (ys zs : List X) → IsWithOne x ys zs → (d : X) → Contains ys d → (x ≡ d) ⊎ Contains zs d
cases_with x ys zs (here {zs = vs}) d h = contains_cases x d vs h
cases_with x ys zs (past {y = y} {ys = us} {zs = vs} w) d h =
    elim (contains_cases y d us h) [
      | inl e ↦ inr (subst (λ z. Contains (y ∷ vs) z) e (contains_first y vs))
      | inr i ↦ elim (cases_with x us vs w d i) [ inl e ↦ inl e | inr j ↦ inr (contains_later y d vs j) ]
    ]

-- over fewer members, once each, the sum is no greater
pub sum_within : {X : Type 0} (f : X → ℕ) (xs ys : List X) → HasNoRepeats xs → ((d : X) → Contains xs d → Contains ys d) → sum_by f xs ≤ sum_by f ys
sum_within f [] ys n h = omega arith
sum_within f (x ∷ xs) ys n h =
    let (zs, w) = taken_out x ys (h x (contains_first x xs)) in
    let all = sum_with f x ys zs w in
    let first = sum_by-cons f x xs in
    let rest = sum_within f xs zs n.1 (λ z i. elim (cases_with x ys zs w z (h z (contains_later x z xs i)))
    [ inl e ↦ absurd (n.0 (subst (λ u. Contains xs u) (sym e) i)) | inr j ↦ j ]) in
    omega arith

-- and over the same ones it is the same
pub sum_same : {X : Type 0} (f : X → ℕ) (xs ys : List X) → HasNoRepeats xs → HasNoRepeats ys → ((d : X) → Contains xs d ↔ Contains ys d)
    → sum_by f xs ≡ sum_by f ys
sum_same f xs ys n m h =
    let a = sum_within f xs ys n (λ d i. (h d).0 i) in
    let b = sum_within f ys xs m (λ d i. (h d).1 i) in
    omega arith

-- numbers from k on
pub numbers_in : (k n i : ℕ) → Contains (numbers_from k n) i → (k ≤ i) × (i < k + n)
numbers_in k zero i h = absurd (contains_none i h)
numbers_in k (suc n) i h = elim (contains_cases k i (numbers_from (suc k) n) h) [
  | inl e ↦ (omega arith, omega arith)
  | inr t ↦ (let (a, b) = numbers_in (suc k) n i t in (omega arith, omega arith))
]

pub numbers_once : (k n : ℕ) → HasNoRepeats (numbers_from k n)
numbers_once k zero = tt
numbers_once k (suc n) = ((λ h. (let (a, b) = numbers_in (suc k) n k h in omega arith)), numbers_once (suc k) n)

-- what is added up over the pieces of a list is added up over the list
module _ (g : List NoteData → ℕ) (none : g [] ≡ 0) (joined : (xs ys : List NoteData) → g (xs ++ ys) ≡ g xs + g ys) (n : ℕ) (notes : List NoteData) where
  from_piece : (k m : ℕ) → length notes ≤ (k + m) * n → sum_by (λ p. g (piece_of p n notes)) (numbers_from k m) ≡ g (drop (k * n) notes)
  from_piece k zero l = let past : length notes ≤ k * n = subst (λ (j : ℕ). length notes ≤ j * n) (let e : k + 0 ≡ k = omega arith in e) l in
      sym (ap g (drop_all (k * n) notes past) ∙ none)
  from_piece k (suc m) l =
      let rest = drop (k * n) notes in
      let first = sum_by-cons (λ (p : ℕ). g (piece_of p n notes)) k (numbers_from (suc k) m) in
      let same : suc k + m ≡ k + suc m = omega arith in
      let later = from_piece (suc k) m (subst (λ (j : ℕ). length notes ≤ j * n) (sym same) l) in
      let next : suc k * n ≡ k * n + n = grind arith in
      let left : drop (suc k * n) notes ≡ drop n rest = ap (λ (j : ℕ). drop j notes) next ∙ sym (drop-drop n (k * n) notes) in
      let both : g rest ≡ g (take n rest) + g (drop n rest) = ap g (sym (take-append-drop n rest)) ∙ joined (take n rest) (drop n rest) in
      let there : g (drop (suc k * n) notes) ≡ g (drop n rest) = ap g left in
      omega arith

  pub sum_pieces : (m : ℕ) → length notes ≤ m * n → sum_by (λ p. g (piece_of p n notes)) (numbers_from 0 m) ≡ g notes
  sum_pieces m l = from_piece 0 m (let e : 0 + m ≡ m = omega arith in subst (λ (j : ℕ). length notes ≤ j * n) (sym e) l)
      ∙ ap (λ (j : ℕ). g (drop j notes)) (let z : 0 * n ≡ 0 = grind arith in z)

-- one more element of a sum
pub sum_more : {X : Type 0} (f : X → ℕ) (xs : List X) (i : ℕ) (x d : X) → i < length xs → x ≡ get_or xs i d
    → sum_by f (take (i + 1) xs) ≡ sum_by f (take i xs) + f x
sum_more {X} f xs i x d l e =
    let front : take (i + 1) xs ≡ take i xs ++ x ∷ [] = take_more xs i d l ∙ ap (λ (y : X). take i xs ++ y ∷ []) (sym e) in
    let last : sum_by f (x ∷ []) ≡ f x + sum_by f [] = sum_by-cons f x [] in
    let none : sum_by {X = X} f [] ≡ 0 = refl in
    ap (sum_by f) front ∙ sum_by-append f (take i xs) (x ∷ []) ∙ ap (λ (m : ℕ). sum_by f (take i xs) + m) (let h : sum_by f (x ∷ []) ≡ f x = omega arith in h)
