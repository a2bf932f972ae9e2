-- Lists without repeats: joined, mapped, filtered, and taken apart.
use Rattle.gm_table.proofs.Lower.{◌≡◌, ◌≢◌, ℕ, zero, suc, ◌<◌, inl, inr, Bool, true, false, List, [], ◌∷◌, ◌++◌, length, get_or, map, refl, sym, ap, subst, ◌∙◌, arith, if◌then◌else◌, Contains, IsAscending, contains_none, contains_first, contains_later}
use Rattle.std.specs.List.{filter, flat_map}
use Rattle.gm_game.proofs.Lists.{contains_cases, map_from, map_in}
use Rattle.gm_game.proofs.Counts.{HasNoRepeats}
use Rattle.std.proofs.Common.{AllPairs}
use Rattle.std.proofs.lemmas.List.Elements.{Contains-append_left, Contains-append_right, Contains-append_cases}

-- by places, and back
pub no_repeats_from : {X : Type 0} (xs : List X) → AllPairs (λ x y. x ≢ y) xs → HasNoRepeats xs
no_repeats_from [] all = tt
no_repeats_from (x ∷ xs) all = (
  λ h. all 0 (suc h.0) x (omega arith) (let l = h.1 in omega arith) (sym h.2),
  no_repeats_from xs (λ i j d a b. all (suc i) (suc j) d (omega arith) (omega arith)),
)

-- whatever the default
pub stands_there : {X : Type 0} (xs : List X) (j : ℕ) (d : X) → j < length xs → get_or xs j (get_or xs j d) ≡ get_or xs j d
stands_there [] j d l = absurd (omega arith)
stands_there (y ∷ ys) zero d l = refl
stands_there (y ∷ ys) (suc j) d l = stands_there ys j d (omega arith)

pub no_repeats_to : {X : Type 0} (xs : List X) → HasNoRepeats xs → AllPairs (λ x y. x ≢ y) xs
no_repeats_to [] n i j d a b = absurd (omega arith)
no_repeats_to (x ∷ xs) n i zero d a b = absurd (omega arith)
no_repeats_to {X} (x ∷ xs) n zero (suc j) d a b = λ e. n.0 (subst (λ (u : X). Contains xs u) (sym e) (j, omega arith, stands_there xs j d (omega arith)))
no_repeats_to (x ∷ xs) n (suc i) (suc j) d a b = no_repeats_to xs n.1 i j d (omega arith) (omega arith)

-- joined lists that share nothing
pub no_repeats_append : {X : Type 0} (xs ys : List X) → HasNoRepeats xs → HasNoRepeats ys → ((x : X) → Contains xs x → Contains ys x → ⊥)
    → HasNoRepeats (xs ++ ys)
no_repeats_append [] ys n m f = m
no_repeats_append (x ∷ xs) ys n m f = (
  λ h. elim (Contains-append_cases xs ys x h) [ inl a ↦ n.0 a | inr b ↦ f x (contains_first x xs) b ],
  no_repeats_append xs ys n.1 m (λ y a b. f y (contains_later x y xs a) b),
)

-- a mapped list, where different members stay different
pub no_repeats_map : {X Y : Type 0} (f : X → Y) (xs : List X) → ((x y : X) → Contains xs x → Contains xs y → f x ≡ f y → x ≡ y) → HasNoRepeats xs
    → HasNoRepeats (map f xs)
no_repeats_map f [] i n = tt
no_repeats_map {X} f (x ∷ xs) i n = (
  λ h. (let (y, l, e) = map_in f xs (f x) h in n.0 (subst (λ (z : X). Contains xs z) (i y x (contains_later x y xs l) (contains_first x xs) e) l)),
  no_repeats_map f xs (λ y z a b. i y z (contains_later x y xs a) (contains_later x z xs b)) n.1,
)

-- what has different images is different, and members with one image are one
pub no_repeats_before : {X Y : Type 0} (f : X → Y) (xs : List X) → HasNoRepeats (map f xs) → HasNoRepeats xs
no_repeats_before f [] n = tt
no_repeats_before f (x ∷ xs) n = (λ h. n.0 (map_from f xs x h), no_repeats_before f xs n.1)

pub same_image : {X Y : Type 0} (f : X → Y) (xs : List X) → HasNoRepeats (map f xs) → (x y : X) → Contains xs x → Contains xs y → f x ≡ f y → x ≡ y
same_image f [] n x y a b e = absurd (contains_none x a)
same_image {X} {Y} f (z ∷ zs) n x y a b e =
    elim (contains_cases z x zs a) [
      | inl p ↦ elim (contains_cases z y zs b) [
        | inl q ↦ sym p ∙ q
        | inr q ↦ absurd (n.0 (subst (λ (u : Y). Contains (map f zs) u) (sym e ∙ ap f (sym p)) (map_from f zs y q)))
      ]
      | inr p ↦ elim (contains_cases z y zs b) [
        | inl q ↦ absurd (n.0 (subst (λ (u : Y). Contains (map f zs) u) (e ∙ ap f (sym q)) (map_from f zs x p)))
        | inr q ↦ same_image f zs n.1 x y p q e
      ]
    ]

-- a filter
filter_at : {X : Type 0} (f : X → Bool) (b : Bool) (x : X) (xs : List X) → f x ≡ b → filter f (x ∷ xs) ≡ (if b then x ∷ filter f xs else filter f xs)
filter_at f b x xs e = ap (λ (c : Bool). if c then x ∷ filter f xs else filter f xs) e

pub in_filter : {X : Type 0} (f : X → Bool) (xs : List X) (y : X) → Contains (filter f xs) y → Contains xs y × (f y ≡ true)
in_filter f [] y h = absurd (contains_none y h)
in_filter {X} f (x ∷ xs) y h =
    elim (f x) as (λ b. f x ≡ b → Contains (x ∷ xs) y × (f y ≡ true)) [
      | true ↦ λ e. elim (contains_cases x y (filter f xs) (subst (λ (l : List X). Contains l y) (filter_at f true x xs e) h)) [
        | inl s ↦ (subst (λ (u : X). Contains (x ∷ xs) u) s (contains_first x xs), ap f (sym s) ∙ e)
        | inr t ↦ (let k = in_filter f xs y t in (contains_later x y xs k.0, k.1))
      ]
      | false ↦ λ e. (let k = in_filter f xs y (subst (λ (l : List X). Contains l y) (filter_at f false x xs e) h) in (contains_later x y xs k.0, k.1))
    ] refl

pub filter_has : {X : Type 0} (f : X → Bool) (xs : List X) (y : X) → Contains xs y → f y ≡ true → Contains (filter f xs) y
filter_has f [] y h e = absurd (contains_none y h)
filter_has {X} f (x ∷ xs) y h e =
    elim (f x) as (λ b. f x ≡ b → Contains (filter f (x ∷ xs)) y) [
      | true ↦ λ q. subst (λ (l : List X). Contains l y) (sym (filter_at f true x xs q)) (elim (contains_cases x y xs h) [
        | inl s ↦ subst (λ (u : X). Contains (x ∷ filter f xs) u) s (contains_first x (filter f xs))
        | inr t ↦ contains_later x y (filter f xs) (filter_has f xs y t e)
      ])
      | false ↦ λ q. subst (λ (l : List X). Contains l y) (sym (filter_at f false x xs q)) (elim (contains_cases x y xs h) [
        | inl s ↦ absurd (let z : f x ≡ true = ap f s ∙ e in cc)
        | inr t ↦ filter_has f xs y t e
      ])
    ] refl

pub no_repeats_filter : {X : Type 0} (f : X → Bool) (xs : List X) → HasNoRepeats xs → HasNoRepeats (filter f xs)
no_repeats_filter f [] n = tt
no_repeats_filter {X} f (x ∷ xs) n =
    elim (f x) as (λ b. f x ≡ b → HasNoRepeats (filter f (x ∷ xs))) [
      | true ↦ λ e. subst HasNoRepeats (sym (filter_at f true x xs e)) ((λ h. n.0 ((in_filter f xs x h).0)), no_repeats_filter f xs n.1)
      | false ↦ λ e. subst HasNoRepeats (sym (filter_at f false x xs e)) (no_repeats_filter f xs n.1)
    ] refl

-- lists joined end to end
pub in_flat_map : {X Y : Type 0} (f : X → List Y) (xs : List X) (y : Y) → Contains (flat_map f xs) y → (x : X) × Contains xs x × Contains (f x) y
in_flat_map f [] y h = absurd (contains_none y h)
in_flat_map f (x ∷ xs) y h =
    elim (Contains-append_cases (f x) (flat_map f xs) y h) [
      | inl a ↦ (x, contains_first x xs, a)
      | inr b ↦ (let (z, l, k) = in_flat_map f xs y b in (z, contains_later x z xs l, k))
    ]

pub flat_map_has : {X Y : Type 0} (f : X → List Y) (xs : List X) (x : X) (y : Y) → Contains xs x → Contains (f x) y → Contains (flat_map f xs) y
flat_map_has f [] x y h k = absurd (contains_none x h)
flat_map_has {X} {Y} f (z ∷ zs) x y h k =
    elim (contains_cases z x zs h) [
      | inl e ↦ Contains-append_left (f z) (flat_map f zs) y (subst (λ (u : X). Contains (f u) y) (sym e) k)
      | inr t ↦ Contains-append_right (f z) (flat_map f zs) y (flat_map_has f zs x y t k)
    ]

pub no_repeats_flat_map : {X Y : Type 0} (f : X → List Y) (xs : List X) → HasNoRepeats xs → ((x : X) → Contains xs x → HasNoRepeats (f x))
    → ((x z : X) (y : Y) → Contains xs x → Contains xs z → Contains (f x) y → Contains (f z) y → x ≡ z) → HasNoRepeats (flat_map f xs)
no_repeats_flat_map f [] n each apart = tt
no_repeats_flat_map {X} f (x ∷ xs) n each apart =
    no_repeats_append (f x) (flat_map f xs) (each x (contains_first x xs))
    (no_repeats_flat_map f xs n.1 (λ z l. each z (contains_later x z xs l)) (λ z w y a b. apart z w y (contains_later x z xs a) (contains_later x w xs b)))
    (λ y a b. (let (z, l, k) = in_flat_map f xs y b in
    n.0 (subst (λ (u : X). Contains xs u) (sym (apart x z y (contains_first x xs) (contains_later x z xs l) a k)) l)))

-- ascending numbers
pub ascending_above : (x : ℕ) (xs : List ℕ) → IsAscending (x ∷ xs) → (y : ℕ) → Contains xs y → x < y
ascending_above x [] up y h = absurd (contains_none y h)
ascending_above x (z ∷ zs) up y h = elim (contains_cases z y zs h)
    [ inl e ↦ (let a = up.0 in omega arith) | inr t ↦ (let a = up.0 in let b = ascending_above z zs up.1 y t in omega arith) ]

pub no_repeats_ascending : (xs : List ℕ) → IsAscending xs → HasNoRepeats xs
no_repeats_ascending [] up = tt
no_repeats_ascending (x ∷ []) up = ((λ h. contains_none x h), tt)
no_repeats_ascending (x ∷ y ∷ ys) up = ((λ h. (let a = ascending_above x (y ∷ ys) up x h in omega arith)), no_repeats_ascending (y ∷ ys) up.1)
