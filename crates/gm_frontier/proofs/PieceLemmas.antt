-- Parts and pieces of a list of notes.
use Rattle.gm_frontier.proofs.Lower.{◌≡◌, ℕ, suc, ◌+◌, ◌-◌, ◌<◌, ◌≤◌, inl, inr, min, List, [], ◌∷◌, ◌++◌, length, get_or, take, drop, sym, ap, subst, ◌∙◌, arith, Some, Contains, flat_map, drop_all, take_all, length-append, Contains-append_cases, slice_get-get_or, cases_lt, contains_none, contains_cases}
use Rattle.std.proofs.Math.Seq.{drop-cons, take-nil}
use Rattle.std.proofs.lemmas.List.{take_more, length-drop, get_or_append_left, take_min, flat_map_more, get_or-append_right, get_or_read}
use Rattle.std.proofs.lemmas.Option.{get_or_from_slice_get, slice_get_within}
use Rattle.std.specs.List.{slice_get}

-- what is in a part is there in the parts from it on
pub found_in_part : {A : Type 0} (xss : List (List A)) (i j : ℕ) (xs : List A) (x d : A) → i < length xss → xs ≡ get_or xss i xs → slice_get xs j ≡ Some x
    → get_or (flat_map (λ part. part) (drop i xss)) j d ≡ x
found_in_part {A} xss i j xs x d l e s =
    let front : drop i xss ≡ xs ∷ drop (suc i) xss = drop-cons xss i xs l ∙ ap (λ (ys : List A). ys ∷ drop (suc i) xss) (sym e) in
    ap (λ (yss : List (List A)). get_or (flat_map (λ part. part) yss) j d) front
    ∙ get_or_append_left xs (flat_map (λ part. part) (drop (suc i) xss)) d j (slice_get_within xs j x s)
    ∙ get_or_from_slice_get xs j x d s

-- so the whole has it if it was looked for
pub found_in_whole : {A : Type 0} (xss : List (List A)) (i j k : ℕ) (xs : List A) (x : A) → k < length (flat_map (λ part. part) xss) → i < length xss
    → xs ≡ get_or xss i xs
    → ((d : A) → get_or (flat_map (λ part. part) xss) k d ≡ get_or (flat_map (λ part. part) (drop i xss)) j d) → slice_get xs j ≡ Some x
    → slice_get (flat_map (λ part. part) xss) k ≡ Some x
found_in_whole xss i j k xs x within l e same s =
    slice_get-get_or (flat_map (λ part. part) xss) k x within ∙ ap Some (same x ∙ found_in_part xss i j xs x x l e s)

-- parts that have something left aren't all passed
pub parts_left : {A : Type 0} (xss : List (List A)) (i j : ℕ) → j < length (flat_map (λ part. part) (drop i xss)) → i < length xss
parts_left {A} xss i j l = elim (cases_lt i (length xss)) [
  | inl h ↦ h
  | inr h ↦ (let e : length (flat_map (λ part. part) (drop i xss)) ≡ 0 = ap (λ (yss : List (List A)). length (flat_map (λ part. part) yss))
      (drop_all i xss h) in absurd (omega arith))
]

-- what is in a list
pub listed_at : {A : Type 0} (xs : List A) (k : ℕ) (x y : A) → k < length xs → x ≡ get_or xs k x → y ≡ x → slice_get xs k ≡ Some y
listed_at xs k x y l e s = slice_get-get_or xs k x l ∙ ap Some (sym e ∙ sym s)

-- one place of a list holds one thing
pub same_at : {A : Type 0} (xs : List A) (i : ℕ) (x y : A) → i < length xs → x ≡ get_or xs i x → y ≡ get_or xs i y → x ≡ y
same_at xs i x y l e s = get_or_read xs i x l e y ∙ sym s

-- so its length is read twice
pub same_length : {A : Type 0} (xss : List (List A)) (i m n j : ℕ) (xs ys : List A) → i < length xss → xs ≡ get_or xss i xs → ys ≡ get_or xss i ys
    → m ≡ length xs → n ≡ length ys → m ≤ j → n ≤ j
same_length xss i m n j xs ys l e s a b h = let same : length xs ≡ length ys = ap length (same_at xss i xs ys l e s) in omega arith

pub same_within : {A : Type 0} (xss : List (List A)) (i m j : ℕ) (xs ys : List A) → i < length xss → xs ≡ get_or xss i xs → ys ≡ get_or xss i ys
    → m ≡ length xs → j < m → j < length ys
same_within xss i m j xs ys l e s a h = let same : length xs ≡ length ys = ap length (same_at xss i xs ys l e s) in omega arith

-- past one part, what is looked for stands that much earlier in the parts after it
module _ {A : Type 0} (xss : List (List A)) (i j n : ℕ) (xs : List A) (here : i < length xss) (is : xs ≡ get_or xss i xs) (count : n ≡ length xs)
    (past : n ≤ j) where
  part_first : drop i xss ≡ xs ∷ drop (i + 1) xss
  part_first = let next : suc i ≡ i + 1 = omega arith in drop-cons xss i xs here ∙ ap (λ (ys : List A). ys ∷ drop (suc i) xss) (sym is)
      ∙ ap (λ (m : ℕ). xs ∷ drop m xss) next

  whole_first : flat_map (λ part. part) (drop i xss) ≡ xs ++ flat_map (λ part. part) (drop (i + 1) xss)
  whole_first = ap (λ (yss : List (List A)). flat_map (λ part. part) yss) part_first

  pub passed_left : j < length (flat_map (λ part. part) (drop i xss)) → j - n < length (flat_map (λ part. part) (drop (i + 1) xss))
  passed_left l =
      let rest = flat_map (λ part. part) (drop (i + 1) xss) in
      let whole : length (flat_map (λ part. part) (drop i xss)) ≡ length xs + length rest = ap length whole_first ∙ length-append xs rest in
      omega arith

  pub passed_same : (d : A) → get_or (flat_map (λ part. part) (drop i xss)) j d ≡ get_or (flat_map (λ part. part) (drop (i + 1) xss)) (j - n) d
  passed_same d =
      let rest = flat_map (λ part. part) (drop (i + 1) xss) in
      ap (λ (ys : List A). get_or ys j d) whole_first ∙ get_or-append_right xs rest n j d (sym count) past

-- the piece from one number up to another, both cut at the length
pub stretch_piece : {A : Type 0} (xs : List A) (p n most from to : ℕ) → length xs ≤ most → from ≡ min (min p most) (length xs)
    → to ≡ min (min (from + n) most) (length xs) → take (to - from) (drop from xs) ≡ take n (drop p xs)
stretch_piece {A} xs p n most from to l f t = elim (cases_lt p (length xs)) [
  | inl h ↦ (let here : from ≡ p = omega arith in
      let left = length-drop p xs in
      let count : to - from ≡ min n (length (drop p xs)) = omega arith in
      ap (λ (m : ℕ). take m (drop from xs)) count ∙ ap (λ (m : ℕ). take (min n (length (drop p xs))) (drop m xs)) here ∙ take_min n (drop p xs))
  | inr h ↦ (let past : length xs ≤ from = omega arith in
      ap (take (to - from)) (drop_all from xs past) ∙ nothing (to - from) n ∙ ap (take n) (sym (drop_all p xs h)))
]
  where
    nothing : (m n : ℕ) → take {A = A} m [] ≡ take n []
    nothing m n = simp take-nil

-- one more turn of a loop that joins what f gives of each element
pub joined_more : {X A : Type 0} (f : X → List A) (xs : List X) (i : ℕ) (x d : X) (old before new part : List A) → i < length xs → x ≡ get_or xs i d
    → before ≡ old ++ flat_map f (take i xs) → new ≡ before ++ part → part ≡ f x → new ≡ old ++ flat_map f (take (i + 1) xs)
joined_more {X} {A} f xs i x d old before new part l e b n p =
    let front : take (i + 1) xs ≡ take i xs ++ x ∷ [] = take_more xs i d l ∙ ap (λ (y : X). take i xs ++ y ∷ []) (sym e) in
    n ∙ ap (λ (ys : List A). before ++ ys) p ∙ ap (λ (ys : List A). ys ++ f x) b ∙ flat_map_more f old (take i xs) x
    ∙ ap (λ (ys : List X). old ++ flat_map f ys) (sym front)

-- and of one that holds a fact of each
pub all_more : {X : Type 0} (P : X → Type 0) (xs : List X) (i : ℕ) (x d : X) → i < length xs → x ≡ get_or xs i d → ((y : X) → Contains (take i xs) y → P y)
    → P x → (y : X) → Contains (take (i + 1) xs) y → P y
all_more {X} P xs i x d l e before here y h =
    let front : take (i + 1) xs ≡ take i xs ++ x ∷ [] = take_more xs i d l ∙ ap (λ (z : X). take i xs ++ z ∷ []) (sym e) in
    elim (Contains-append_cases (take i xs) (x ∷ []) y (subst (λ (ys : List X). Contains ys y) front h)) [
      | inl a ↦ before y a
      | inr b ↦ elim (contains_cases x y [] b) [ inl s ↦ subst P s here | inr t ↦ absurd (contains_none y t) ]
    ]

-- and at its end
pub all_taken : {X : Type 0} (P : X → Type 0) (xs : List X) (i : ℕ) → length xs ≤ i → ((y : X) → Contains (take i xs) y → P y) → (y : X) → Contains xs y → P y
all_taken {X} P xs i l h y m = h y (subst (λ (ys : List X). Contains ys y) (sym (take_all i xs l)) m)
