-- What follows from the definitions of specs/Patterns.antt.
use Rattle.std.specs.List.{Contains, list_any, list_all}
use Rattle.gm_board.specs.Permutations.{permute, same_list}
use Rattle.gm_board.specs.inner.Groups.{IsGroup}
use Rattle.std.proofs.Common.{◌≡◌, ℕ, ◌<◌, Bool, true, false, ◌&&◌, ◌||◌, ltb, List, [], ◌∷◌, length, get_or, refl, sym, ap, ap₂, ◌∙◌, subst, arith, inl, inr, ltb-true}
use Rattle.gm_board.specs.laws.Lists.{contains_cases, and_left, and_right}
use Rattle.gm_board.specs.laws.Permutations.{same_list_true, all_at, permute_get}
use Rattle.gm_board.specs.laws.Groups.{any_at, group_length, image_back}
use Rattle.gm_board.specs.Patterns.{sort_in, sort, fills, has_filled, keeps_patterns}
pub use Rattle.std.proofs.lemmas.Bool.{cases_Bool as two_ways, or_left, or_right}

-- two tests that imply each other are the same
pub same_tests : (a b : Bool) → (a ≡ true → b ≡ true) → (b ≡ true → a ≡ true) → a ≡ b
same_tests true true f g = refl
same_tests true false f g = sym (f refl)
same_tests false true f g = g refl
same_tests false false f g = refl

swapped : (a b c : Bool) → (b && (a && c)) ≡ (a && (b && c))
swapped true true c = refl
swapped true false c = refl
swapped false true c = refl
swapped false false c = refl

-- if an element passes a test, some element does
pub any_from : {X : Type 0} (p : X → Bool) (xs : List X) (x : X) → Contains xs x → p x ≡ true → list_any p xs ≡ true
any_from p [] x c e = absurd (omega (arith, c.1))
any_from p (y ∷ ys) x c e =
    elim (contains_cases y ys x c) [
      | inl f ↦ or_left _ _ (subst (λ (z : _). p z ≡ true) (sym f) e)
      | inr d ↦ or_right _ _ (any_from p ys x d e)
    ]

all_sort_in : (q : ℕ → Bool) (x : ℕ) (ys : List ℕ) → list_all q (sort_in x ys) ≡ (q x && list_all q ys)
all_sort_in q x [] = refl
all_sort_in q x (y ∷ ys) =
    elim (two_ways (ltb y x)) [
      | inl e ↦ rw (e, all_sort_in q x ys) (swapped (q x) (q y) _)
      | inr e ↦ rw e refl
    ]

all_sort : (q : ℕ → Bool) (xs : List ℕ) → list_all q (sort xs) ≡ list_all q xs
all_sort q [] = refl
all_sort q (x ∷ xs) = all_sort_in q x (sort xs) ∙ ap (λ (b : Bool). q x && b) (all_sort q xs)

-- the pattern that g takes l to is filled where l is filled in the image
pub fills_image : {X : Type 0} (d : X) (p : X → Bool) (n : ℕ) (g : List ℕ) (xs : List X) → length g ≡ n → (l : List ℕ) → list_all (λ k. ltb k n) l ≡ true
    → fills d p (permute d g xs) l ≡ fills d p xs (permute 0 l g)
fills_image d p n g xs e [] b = refl
fills_image d p n g xs e (k ∷ l) b =
    ap₂ (λ (x y : Bool). x && y)
    (ap p (permute_get d g xs k (subst (λ (m : ℕ). k < m) (sym e) (ltb-true k n (and_left _ _ b)))))
    (fills_image d p n g xs e l (and_right _ _ b))

filled_from_image : {X : Type 0} (d : X) (p : X → Bool) (n : ℕ) (G L : List (List ℕ)) → IsGroup n G → keeps_patterns n G L ≡ true → (g : List ℕ) → Contains G g
    → (xs : List X) → has_filled d L p (permute d g xs) ≡ true → has_filled d L p xs ≡ true
filled_from_image d p n G L o t g c xs e =
    let x = any_at (fills d p (permute d g xs)) L e in
    let lb = all_at (list_all (λ (k : ℕ). ltb k n)) L x.0 (and_right _ _ t) x.1 in
    let y = any_at (same_list (sort (permute 0 x.0 g))) L (all_at _ L x.0 (all_at _ G g (and_left _ _ t) c) x.1) in
    let m : sort (permute 0 x.0 g) ≡ y.0 = same_list_true _ _ y.2 in
    any_from (fills d p xs) L y.0 y.1
    (ap (fills d p xs) (sym m)
    ∙ all_sort (λ (k : ℕ). p (get_or xs k d)) (permute 0 x.0 g)
    ∙ sym (fills_image d p n g xs (group_length n G o g c) x.0 lb)
    ∙ x.2)

-- an image has a filled pattern exactly if the board has
pub filled_image : {X : Type 0} (d : X) (p : X → Bool) (n : ℕ) (G L : List (List ℕ)) → IsGroup n G → keeps_patterns n G L ≡ true → (g : List ℕ) → Contains G g
    → (xs : List X) → length xs ≡ n → has_filled d L p (permute d g xs) ≡ has_filled d L p xs
filled_image d p n G L o t g c xs e =
    let h = image_back d n G o g c xs e in
    same_tests _ _
    (filled_from_image d p n G L o t g c xs)
    (λ f. filled_from_image d p n G L o t h.0 h.1 (permute d g xs) (ap (has_filled d L p) h.2 ∙ f))

fills_same : {X Y : Type 0} (d : X) (e : Y) (p : X → Bool) (q : Y → Bool) (xs : List X) (ys : List Y) → ((k : ℕ) → p (get_or xs k d) ≡ q (get_or ys k e))
    → (l : List ℕ) → fills d p xs l ≡ fills e q ys l
fills_same d e p q xs ys h [] = refl
fills_same d e p q xs ys h (k ∷ l) = ap₂ (λ (x y : Bool). x && y) (h k) (fills_same d e p q xs ys h l)

-- boards whose cells pass the same tests have the same patterns filled
pub filled_same : {X Y : Type 0} (d : X) (e : Y) (L : List (List ℕ)) (p : X → Bool) (q : Y → Bool) (xs : List X) (ys : List Y) →
    ((k : ℕ) → p (get_or xs k d) ≡ q (get_or ys k e))
    → has_filled d L p xs ≡ has_filled e L q ys
filled_same d e [] p q xs ys h = refl
filled_same d e (l ∷ L) p q xs ys h = ap₂ (λ (x y : Bool). x || y) (fills_same d e p q xs ys h l) (filled_same d e L p q xs ys h)
