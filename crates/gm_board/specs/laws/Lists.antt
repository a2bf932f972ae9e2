-- Steps over lists: what is in them, the least of a list, ranges and filters.
use Rattle.std.proofs.lemmas.List.{get_or-map, length-map, map-id}
use Rattle.std.proofs.lemmas.List.Elements.{Contains-get_or}
use Rattle.std.proofs.lemmas.List.FromFn.{map-range_with_len_more, length-range_with_len, get_or-range_with_len}
use Rattle.std.specs.List.{Contains, list_all, fold, filter, filter_map, cons_option, range_with_len}
use Rattle.std.proofs.Common.{◌≡◌, ℕ, zero, suc, ◌+◌, ◌<◌, ◌≤◌, min, Bool, true, false, ◌&&◌, cond, if◌then◌else◌, List, [], ◌∷◌, ◌++◌, map, Option, None, Some, zero-add, length, get_or, ◌⊎◌, inl, inr, refl, sym, ap, ◌∙◌, subst, arith}
pub use Rattle.std.proofs.Math.Bool.{and-true as and_true, and-false as and_false}
pub use Rattle.std.proofs.lemmas.Bool.{and_from as and_both}

-- the first test of a conjunction
pub and_left : (a b : Bool) → (a && b) ≡ true → a ≡ true
and_left a b e = grind arith

-- the second test of a conjunction
pub and_right : (a b : Bool) → (a && b) ≡ true → b ≡ true
and_right a b e = grind arith

-- the head of a list is in the list
pub contains_head : {X : Type 0} (x : X) (xs : List X) → Contains (x ∷ xs) x
contains_head x xs = (0, omega arith, refl)

-- what is in the tail is in the list
pub contains_later : {X : Type 0} (y : X) (xs : List X) (x : X) → Contains xs x → Contains (y ∷ xs) x
contains_later y xs x c = (suc c.0, omega (arith, c.1), c.2)

-- what is in a list is its head or is in its tail
pub contains_cases : {X : Type 0} (y : X) (xs : List X) (x : X) → Contains (y ∷ xs) x → (y ≡ x) ⊎ Contains xs x
contains_cases y xs x (zero, l, e) = inl e
contains_cases y xs x (suc k, l, e) = inr (k, omega (arith, l), e)

-- what is in a list is in its image
pub contains_map : {X Y : Type 0} (f : X → Y) (xs : List X) (x : X) → Contains xs x → Contains (map f xs) (f x)
contains_map f xs x c = (c.0, omega (arith, length-map xs f, c.1), get_or-map f xs c.0 x (f x) c.1 ∙ ap f c.2)

-- what is in the image comes from the list
pub contains_unmap : {X Y : Type 0} (f : X → Y) (xs : List X) (y : Y) → Contains (map f xs) y → (x : X) × Contains xs x × (f x ≡ y)
contains_unmap f [] y c = absurd (omega (arith, c.1))
contains_unmap f (x ∷ xs) y c =
    let l : c.0 < length (x ∷ xs) = omega (arith, length-map (x ∷ xs) f, c.1) in
    (get_or (x ∷ xs) c.0 x, Contains-get_or (x ∷ xs) c.0 x l, sym (get_or-map f (x ∷ xs) c.0 x y l) ∙ c.2)

-- a test that each element passes holds of the list
pub all_from : {X : Type 0} (p : X → Bool) (xs : List X) → ((x : X) → Contains xs x → p x ≡ true) → list_all p xs ≡ true
all_from p [] h = refl
all_from p (x ∷ xs) h = and_both _ _ (h x (contains_head x xs)) (all_from p xs (λ y c. h y (contains_later x xs y c)))

-- what is in a list of one element, if a test is passed, and else of none
pub lone_in : {X : Type 0} (b : Bool) (y x : X) → Contains (if b then y ∷ [] else []) x → (b ≡ true) × (y ≡ x)
lone_in true y x c = elim (contains_cases y [] x c) [ inl e ↦ (refl, e) | inr d ↦ absurd (omega (arith, d.1)) ]
lone_in false y x c = absurd (omega (arith, c.1))

-- the least is no greater than the first
pub least_le_first : (a : ℕ) (xs : List ℕ) → fold min a xs ≤ a
least_le_first a [] = omega arith
least_le_first a (x ∷ xs) = omega (arith, least_le_first (min a x) xs)

-- the least is no greater than an element
pub least_le : (a : ℕ) (xs : List ℕ) (x : ℕ) → Contains xs x → fold min a xs ≤ x
least_le a [] x c = absurd (omega (arith, c.1))
least_le a (y ∷ ys) x c =
    elim (contains_cases y ys x c) [
      | inl e ↦ omega (arith, least_le_first (min a y) ys, e)
      | inr d ↦ least_le (min a y) ys x d
    ]

-- the lesser of two numbers is one of them
pub min_is : (a x : ℕ) → (min a x ≡ a) ⊎ (min a x ≡ x)
min_is a x = grind arith

-- the least is the first or is in the list
pub least_is : (a : ℕ) (xs : List ℕ) → (fold min a xs ≡ a) ⊎ Contains xs (fold min a xs)
least_is a [] = inl refl
least_is a (x ∷ xs) =
    elim (least_is (min a x) xs) [
      | inl e ↦ elim (min_is a x) [
        | inl f ↦ inl (e ∙ f)
        | inr f ↦ inr (0, omega arith, sym (e ∙ f))
      ]
      | inr d ↦ inr (contains_later x xs _ d)
    ]

-- the least is in a list that has the first
pub least_in : (a : ℕ) (xs : List ℕ) → Contains xs a → Contains xs (fold min a xs)
least_in a xs c =
    elim (least_is a xs) [
      | inl e ↦ subst (λ (x : ℕ). Contains xs x) (sym e) c
      | inr d ↦ d
    ]

-- ---- ranges
pub contains_range : (n k : ℕ) → k < n → Contains (range_with_len 0 n) k
contains_range n k l = (k, omega (arith, length-range_with_len 0 n), get_or-range_with_len 0 n k k l ∙ zero-add k)

-- what is in a range is below its end
pub range_below : (n k : ℕ) → Contains (range_with_len 0 n) k → k < n
range_below n k c =
    let l : c.0 < n = omega (arith, c.1, length-range_with_len 0 n) in
    let e : get_or (range_with_len 0 n) c.0 k ≡ c.0 = get_or-range_with_len 0 n c.0 k l ∙ zero-add c.0 in
    omega (arith, e, c.2)

-- a range with one more number
pub range_more : (n : ℕ) → range_with_len 0 (n + 1) ≡ range_with_len 0 n ++ n ∷ []
range_more n =
    sym (map-id (range_with_len 0 (n + 1)))
    ∙ map-range_with_len_more (λ (k : ℕ). k) 0 n n (zero-add n)
    ∙ ap (λ (xs : List ℕ). xs ++ n ∷ []) (map-id (range_with_len 0 n))

-- ---- what a filter keeps
kept_cases : {X : Type 0} (b : Bool) (y : X) (ys : List X) (x : X) → Contains (cond b (y ∷ ys) ys) x → ((b ≡ true) × (y ≡ x)) ⊎ Contains ys x
kept_cases true y ys x c = elim (contains_cases y ys x c) [ inl e ↦ inl (refl, e) | inr d ↦ inr d ]
kept_cases false y ys x c = inr c

kept_later : {X : Type 0} (b : Bool) (y : X) (ys : List X) (x : X) → Contains ys x → Contains (cond b (y ∷ ys) ys) x
kept_later true y ys x c = contains_later y ys x c
kept_later false y ys x c = c

kept_head : {X : Type 0} (b : Bool) (y : X) (ys : List X) → b ≡ true → Contains (cond b (y ∷ ys) ys) y
kept_head true y ys e = contains_head y ys
kept_head false y ys e = cc

-- what a filter keeps is in the list and passes
pub filter_from : {X : Type 0} (p : X → Bool) (xs : List X) (x : X) → Contains (filter p xs) x → Contains xs x × (p x ≡ true)
filter_from p [] x c = absurd (omega (arith, c.1))
filter_from p (y ∷ ys) x c = elim (kept_cases (p y) y (filter p ys) x c) [
  | inl e ↦ (subst (λ (z : _). Contains (y ∷ ys) z) e.1 (contains_head y ys), subst (λ (z : _). p z ≡ true) e.1 e.0)
  | inr d ↦ let r = filter_from p ys x d in (contains_later y ys x r.0, r.1)
]

-- what is in the list and passes is kept
pub filter_to : {X : Type 0} (p : X → Bool) (xs : List X) (x : X) → Contains xs x → p x ≡ true → Contains (filter p xs) x
filter_to p [] x c e = absurd (omega (arith, c.1))
filter_to p (y ∷ ys) x c e = elim (contains_cases y ys x c) [
  | inl f ↦ subst (λ (z : _). Contains (filter p (y ∷ ys)) z) f (kept_head (p y) y (filter p ys) (ap p f ∙ e))
  | inr d ↦ kept_later (p y) y (filter p ys) x (filter_to p ys x d e)
]

-- what a filter_map lists
option_cases : {B : Type 0} (o : Option B) (bs : List B) (b : B) → Contains (cons_option o bs) b → (o ≡ Some b) ⊎ Contains bs b
option_cases None bs b c = inr c
option_cases (Some a) bs b c = elim (contains_cases a bs b c) [ inl e ↦ inl (ap (λ (x : _). Some x) e) | inr d ↦ inr d ]

option_later : {B : Type 0} (o : Option B) (bs : List B) (b : B) → Contains bs b → Contains (cons_option o bs) b
option_later None bs b c = c
option_later (Some a) bs b c = contains_later a bs b c

-- what is listed comes from an element
pub filter_map_from : {A B : Type 0} (h : A → Option B) (xs : List A) (b : B) → Contains (filter_map h xs) b → (k : A) × Contains xs k × (h k ≡ Some b)
filter_map_from h [] b c = absurd (omega (arith, c.1))
filter_map_from h (x ∷ xs) b c = elim (option_cases (h x) (filter_map h xs) b c) [
  | inl e ↦ (x, contains_head x xs, e)
  | inr d ↦ let y = filter_map_from h xs b d in (y.0, contains_later x xs y.0 y.1, y.2)
]

-- what an element gives is listed
pub filter_map_to : {A B : Type 0} (h : A → Option B) (xs : List A) (k : A) (b : B) → Contains xs k → h k ≡ Some b → Contains (filter_map h xs) b
filter_map_to h [] k b c e = absurd (omega (arith, c.1))
filter_map_to h (x ∷ xs) k b c e = elim (contains_cases x xs k c) [
  | inl f ↦ let g : h x ≡ Some b = ap h f ∙ e in rw g (contains_head b (filter_map h xs))
  | inr d ↦ option_later (h x) (filter_map h xs) b (filter_map_to h xs k b d e)
]
