-- Two lists that are related place by place, as a loop adds to one of them.
use Rattle.std.proofs.Common.{◌∙◌, ◌<◌, ◌≤◌, ◌+◌, ℕ, sym, ap, subst, List, [], ◌∷◌, ◌++◌, length, map, take, get_or}
use Rattle.std.specs.List.{AllZip}
use Rattle.std.proofs.lemmas.List.{map-append, take_all, take_more}

zip_push : {A B : Type 0} (R : A → B → Type 0) (xs : List A) (ys : List B) (x : A) (y : B) → AllZip R xs ys → R x y
    → AllZip R (xs ++ x ∷ []) (ys ++ y ∷ [])
zip_push R [] [] x y all here = (here, tt)
zip_push R [] (b ∷ ys) x y all here = absurd all
zip_push R (a ∷ xs) [] x y all here = absurd all
zip_push R (a ∷ xs) (b ∷ ys) x y all here = (all.0, zip_push R xs ys x y all.1 here)

-- one more
pub zip_more : {A B C : Type 0} (R : C → B → Type 0) (f : A → C) (xs : List A) (i : ℕ) (d : A) (ys : List B) (y : B) → i < length xs
    → AllZip R (map f (take i xs)) ys → R (f (get_or xs i d)) y → AllZip R (map f (take (i + 1) xs)) (ys ++ y ∷ [])
zip_more {A} {B} {C} R f xs i d ys y lt all here =
    let more = ap (map f) (take_more xs i d lt) ∙ map-append f (take i xs) (get_or xs i d ∷ []) in
    subst (λ (l : List C). AllZip R l (ys ++ y ∷ [])) (sym more) (zip_push R (map f (take i xs)) ys (f (get_or xs i d)) y all here)

-- all
pub zip_all : {A B C : Type 0} (R : C → B → Type 0) (f : A → C) (xs : List A) (i : ℕ) (ys : List B) → length xs ≤ i
    → AllZip R (map f (take i xs)) ys → AllZip R (map f xs) ys
zip_all {A} R f xs i ys le all = subst (λ (l : List A). AllZip R (map f l) ys) (take_all i xs le) all
