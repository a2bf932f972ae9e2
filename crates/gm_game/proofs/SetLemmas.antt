-- Sets of positions as ascending lists.
use Rattle.gm_game.proofs.Lower.{◌≡◌, ℕ, zero, suc, ◌+◌, ◌≤◌, ◌⊎◌, inl, inr, ⊎_elim, Bool, true, false, List, [], ◌∷◌, take, length, refl, ap, sym, subst, ◌∙◌, arith, Some, slice_get, nat_tests, Position, at, is_before, is_same, false_from_ne_true, with_position, AreAscending}
use Rattle.std.proofs.Common.{cond, if◌then◌else◌, true≢false}
use Rattle.std.specs.List.{AllByRecursion, prefix_len, Contains, insert as insert_at, IsDistinct}
use Rattle.gm_game.specs.Children.{place_in, set_of}
use Rattle.std.specs.Bool.{Decides}
use Rattle.std.specs.Cmp.{IsEquivalence}
use Rattle.std.specs.Set.{is_member}
use Rattle.std.proofs.lemmas.Map.Made.{length-le_from_is_member, is_member-Decides}
use Rattle.gm_game.proofs.Lists.{contains_first, contains_later, contains_cases}

-- two positions with the same tier and index are one
pub same_position : (p q : Position) → p.tier ≡ q.tier → p.index ≡ q.index → p ≡ q
same_position p q t i = ap (λ (x : ℕ). at x p.index) t ∙ ap (λ (x : ℕ). at q.tier x) i

pub is_same_means : (p q : Position) → is_same p q ≡ true → p ≡ q
is_same_means p q e = same_position p q (grind (arith, nat_tests)) (grind (arith, nat_tests))

pub is_same_itself : (p : Position) → is_same p p ≡ true
is_same_itself p = grind (arith, nat_tests)

pub before_not_same : (p q : Position) → is_before p q ≡ true → is_same p q ≡ false
before_not_same p q b = grind (arith, nat_tests)

pub before_or_after : (p q : Position) → is_before q p ≡ false → is_same q p ≡ false → is_before p q ≡ true
before_or_after p q b s = grind (arith, nat_tests)

pub before_trans : (p q x : Position) → is_before p q ≡ true → is_before q x ≡ true → is_before p x ≡ true
before_trans p q x b c = grind (arith, nat_tests)

pub before_itself : (p : Position) → is_before p p ≡ true → ⊥
before_itself p b = grind (arith, nat_tests)

not_before : (p q : Position) → is_before p q ≡ true → is_before q p ≡ false
not_before p q b = grind (arith, nat_tests)

-- membership
pub has_none : (x : Position) → Contains [] x → ⊥
has_none x h = omega arith

-- a list with a position more, which goes past the first one, is it, or goes before it
pub with_by : (p q : Position) (qs : List Position) (P : List Position → Type 0) → (is_before q p ≡ true → P (q ∷ with_position p qs)) → (q ≡ p → P (q ∷ qs))
    → (is_before p q ≡ true → P (p ∷ q ∷ qs)) → P (with_position p (q ∷ qs))
with_by p q qs P past same first =
    elim (is_before q p) as (λ t. is_before q p ≡ t → P (if t then q ∷ with_position p qs else (if is_same q p then q ∷ qs else p ∷ q ∷ qs))) [
      | true ↦ past
      | false ↦ λ b. elim (is_same q p) as (λ t. is_same q p ≡ t → P (if t then q ∷ qs else p ∷ q ∷ qs)) [
        | true ↦ λ s. same (is_same_means q p s)
        | false ↦ λ s. first (before_or_after p q b s)
      ] refl
    ] refl

pub has_new : (p : Position) (qs : List Position) → Contains (with_position p qs) p
has_new p [] = contains_first p []
has_new p (q ∷ qs) =
    with_by p q qs (λ (l : List Position). Contains l p) (λ _. contains_later q p _ (has_new p qs))
    (λ s. subst (λ (x : Position). Contains (q ∷ qs) x) s (contains_first q qs))
    (λ _. contains_first p (q ∷ qs))

pub has_old : (p x : Position) (qs : List Position) → Contains qs x → Contains (with_position p qs) x
has_old p x [] h = absurd (has_none x h)
has_old p x (q ∷ qs) h =
    with_by p q qs (λ (l : List Position). Contains l x)
    (λ _. ⊎_elim (λ (e : q ≡ x). subst (λ (y : Position). Contains (q ∷ with_position p qs) y) e (contains_first q _))
    (λ (t : Contains qs x). contains_later q x _ (has_old p x qs t)) (contains_cases q x qs h))
    (λ _. h)
    (λ _. contains_later p x (q ∷ qs) h)

pub with_cases : (p x : Position) (qs : List Position) → Contains (with_position p qs) x → (p ≡ x) ⊎ Contains qs x
with_cases p x [] = λ h. contains_cases p x [] h
with_cases p x (q ∷ qs) =
    with_by p q qs (λ (l : List Position). Contains l x → (p ≡ x) ⊎ Contains (q ∷ qs) x)
    (λ _ h. ⊎_elim (λ (e : q ≡ x). inr (subst (λ (y : Position). Contains (q ∷ qs) y) e (contains_first q qs)))
    (λ (t : Contains (with_position p qs) x). ⊎_elim (λ (e : p ≡ x). inl e) (λ (o : Contains qs x). inr (contains_later q x qs o)) (with_cases p x qs t))
    (contains_cases q x _ h))
    (λ _ h. inr h)
    (λ _ h. contains_cases p x (q ∷ qs) h)

-- a fact of each position
pub all_with : (P : Position → Type 0) (p : Position) (qs : List Position) → P p → AllByRecursion P qs → AllByRecursion P (with_position p qs)
all_with P p [] here all = (here, tt)
all_with P p (q ∷ qs) here all = with_by p q qs (AllByRecursion P) (λ _. (all.0, all_with P p qs here all.1)) (λ _. all) (λ _. (here, all))

pub all_after : (p q : Position) (qs : List Position) → is_before p q ≡ true → AllByRecursion (λ x. is_before q x ≡ true) qs → AllByRecursion
    (λ x. is_before p x ≡ true) qs
all_after p q [] b all = tt
all_after p q (x ∷ qs) b all = (before_trans p q x b all.0, all_after p q qs b all.1)

pub ascending_with : (p : Position) (qs : List Position) → AreAscending qs → AreAscending (with_position p qs)
ascending_with p [] up = (tt, tt)
ascending_with p (q ∷ qs) up =
    with_by p q qs AreAscending (λ b. (all_with (λ x. is_before q x ≡ true) p qs b up.0, ascending_with p qs up.1)) (λ _. up)
    (λ b. ((b, all_after p q qs b up.0), up))

place_more : (p q : Position) (qs : List Position) → is_before q p ≡ true → place_in p (q ∷ qs) ≡ suc (place_in p qs)
place_more p q qs b =
    let m = prefix_len (λ (x : Position). is_before x p) qs in let e : 1 + m ≡ suc m = omega arith in
    ap (λ (t : Bool). length (take (cond t (1 + m) 0) (q ∷ qs))) b ∙ ap (λ (n : ℕ). length (take n (q ∷ qs))) e

place_none : (p q : Position) (qs : List Position) → is_before q p ≡ false → place_in p (q ∷ qs) ≡ 0
place_none p q qs b =
    let m = prefix_len (λ (x : Position). is_before x p) qs in ap (λ (t : Bool). length (take (cond t (1 + m) 0) (q ∷ qs))) b

-- a position that is at its place changes nothing
pub with_there_at : (p : Position) (qs : List Position) → slice_get qs (place_in p qs) ≡ Some p → with_position p qs ≡ qs
with_there_at p [] e = absurd (cc)
with_there_at p (q ∷ qs) e =
    with_by p q qs (λ (l : List Position). l ≡ q ∷ qs)
    (λ b. ap (λ (l : List Position). q ∷ l) (with_there_at p qs (ap (λ (k : ℕ). slice_get (q ∷ qs) k) (sym (place_more p q qs b)) ∙ e)))
    (λ _. refl)
    (λ b. let s : Some q ≡ Some p = ap (λ (k : ℕ). slice_get (q ∷ qs) k) (sym (place_none p q qs (not_before p q b))) ∙ e in let t : q ≡ p = cc in
    absurd (before_itself p (subst (λ (y : Position). is_before p y ≡ true) t b)))

-- and any other is inserted there
pub with_insert_at : (p : Position) (qs : List Position) → (slice_get qs (place_in p qs) ≡ Some p → ⊥) → with_position p qs ≡ insert_at qs (place_in p qs) p
with_insert_at p [] absent = refl
with_insert_at p (q ∷ qs) absent =
    with_by p q qs (λ (l : List Position). l ≡ insert_at (q ∷ qs) (place_in p (q ∷ qs)) p)
    (λ b. let m = place_more p q qs b in
    ap (λ (l : List Position). q ∷ l) (with_insert_at p qs (λ e. absent (ap (λ (k : ℕ). slice_get (q ∷ qs) k) m ∙ e))) ∙ ap
    (λ (n : ℕ). insert_at (q ∷ qs) n p) (sym m))
    (λ s. let m = place_none p q qs (false_from_ne_true (is_before q p) (λ b. before_itself p (subst (λ (x : Position). is_before x p ≡ true) s b))) in
    absurd (absent (ap (λ (k : ℕ). slice_get (q ∷ qs) k) m ∙ ap Some s)))
    (λ b. ap (λ (n : ℕ). insert_at (q ∷ qs) n p) (sym (place_none p q qs (not_before p q b))))

-- a new position makes the list longer by one
pub length_with : (p : Position) (qs : List Position) → (Contains qs p → ⊥) → length (with_position p qs) ≡ length qs + 1
length_with p [] absent = refl
length_with p (q ∷ qs) absent =
    with_by p q qs (λ (l : List Position). length l ≡ length (q ∷ qs) + 1)
    (λ _. let e : length (with_position p qs) ≡ length qs + 1 = length_with p qs (λ h. absent (contains_later q p qs h)) in omega arith)
    (λ s. absurd (absent (subst (λ (x : Position). Contains (q ∷ qs) x) s (contains_first q qs))))
    (λ _. omega arith)

-- and any grows it by one at most
pub length_with_le : (p : Position) (qs : List Position) → length (with_position p qs) ≤ length qs + 1
length_with_le p [] = omega arith
length_with_le p (q ∷ qs) =
    with_by p q qs (λ (l : List Position). length l ≤ length (q ∷ qs) + 1) (λ _. let l = length_with_le p qs in omega arith) (λ _. omega arith) (λ _. omega arith)

-- the set of a list has its positions
pub set_has : (ps : List Position) (x : Position) → Contains ps x → Contains (set_of ps) x
set_has [] x h = h
set_has (p ∷ ps) x h =
    ⊎_elim (λ (e : p ≡ x). subst (λ (y : Position). Contains (with_position p (set_of ps)) y) e (has_new p (set_of ps)))
    (λ (t : Contains ps x). has_old p x (set_of ps) (set_has ps x t)) (contains_cases p x ps h)

pub has_set : (ps : List Position) (x : Position) → Contains (set_of ps) x → Contains ps x
has_set [] x h = h
has_set (p ∷ ps) x h =
    ⊎_elim (λ (e : p ≡ x). subst (λ (y : Position). Contains (p ∷ ps) y) e (contains_first p ps))
    (λ (t : Contains (set_of ps) x). contains_later p x ps (has_set ps x t)) (with_cases p x (set_of ps) h)

pub ascending_set : (ps : List Position) → AreAscending (set_of ps)
ascending_set [] = tt
ascending_set (p ∷ ps) = ascending_with p (set_of ps) (ascending_set ps)

-- an ascending list is distinct
not_same_all : (p : Position) (qs : List Position) → AllByRecursion (λ q. is_before p q ≡ true) qs → AllByRecursion (λ q. is_same p q ≡ false) qs
not_same_all p [] all = tt
not_same_all p (q ∷ qs) all = (before_not_same p q all.0, not_same_all p qs all.1)

pub distinct : (qs : List Position) → AreAscending qs → IsDistinct is_same qs
unfolding IsDistinct
distinct [] up = tt
distinct (q ∷ qs) up = (not_same_all q qs up.0, distinct qs up.1)

pub is_same_swap : (p q : Position) → is_same p q ≡ is_same q p
is_same_swap p q = grind (arith, nat_tests)

pub is_same_equivalence : IsEquivalence is_same
is_same_equivalence = record {
  refl = is_same_itself;
  symm = is_same_swap;
  congr = λ (x : Position) (y : Position) (z : Position) (e : is_same x y ≡ true). ap (λ (w : Position). is_same w z) (is_same_means x y e);
}

pub is_same_decides : (a b : Position) → Decides (is_same a b) (a ≡ b)
is_same_decides a b = (is_same_means a b, λ (e : a ≡ b). subst (λ (x : Position). is_same a x ≡ true) e (is_same_itself a))

-- a list is no longer than one that has all of it
pub no_longer : (xs ys : List Position) → AreAscending xs → ((x : Position) → Contains xs x → Contains ys x) → length xs ≤ length ys
no_longer xs ys up within =
    length-le_from_is_member is_same_equivalence xs ys (distinct xs up)
    (λ q h. (is_member-Decides is_same_decides ys q).1 (within q ((is_member-Decides is_same_decides xs q).0 h)))

-- and shorter, if it lacks one
pub shorter : (xs ys : List Position) (c : Position) → AreAscending xs → ((x : Position) → Contains xs x → Contains ys x) → Contains ys c →
    (Contains xs c → ⊥) → length xs + 1 ≤ length ys
shorter xs ys c up within there absent =
    let l : length (with_position c xs) ≤ length ys =
    no_longer (with_position c xs) ys (ascending_with c xs up)
    (λ x h. ⊎_elim (λ (e : c ≡ x). subst (λ (y : Position). Contains ys y) e there) (λ (t : Contains xs x). within x t) (with_cases c x xs h)) in
    let e = length_with c xs absent in omega arith

-- a list that is as long has all of it
pub has_all : (xs ys : List Position) → AreAscending xs → ((x : Position) → Contains xs x → Contains ys x) → length xs ≡ length ys → (x : Position) →
    Contains ys x → Contains xs x
has_all xs ys up within same x there =
    elim (is_member is_same xs x) as (λ b. is_member is_same xs x ≡ b → Contains xs x) [
      | true ↦ λ e. (is_member-Decides is_same_decides xs x).0 e
      | false ↦ λ e. absurd (let l : length xs + 1 ≤ length ys = shorter xs ys x up within there
          (λ h. true≢false (sym ((is_member-Decides is_same_decides xs x).1 h) ∙ e)) in omega arith)
    ] refl

pub all_there : (P : Position → Type 0) (qs : List Position) (x : Position) → AllByRecursion P qs → Contains qs x → P x
all_there P [] x all h = absurd (has_none x h)
all_there P (q ∷ qs) x all h = ⊎_elim (λ (e : q ≡ x). subst P e all.0) (λ (t : Contains qs x). all_there P qs x all.1 t) (contains_cases q x qs h)
