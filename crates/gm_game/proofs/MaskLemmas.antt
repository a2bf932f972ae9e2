-- What a mask picks from an ascending list.
use Rattle.gm_game.proofs.Lower.{◌≡◌, ◌≢◌, ℕ, zero, suc, ◌+◌, ◌≤◌, ◌⊎◌, inl, inr, ⊎_elim, Bool, true, false, List, [], ◌∷◌, refl, ap, sym, subst, ◌∙◌, arith, Some, slice_get, Position, is_before, is_same, with_position, AreAscending}
use Rattle.std.proofs.Common.{if◌then◌else◌, true≢false, ◌==◌}
use Rattle.std.specs.List.{AllByRecursion, Contains}
use Rattle.std.specs.Int.{bit_at}
use Rattle.std.proofs.lemmas.Bool.Decides.{Decides-eqb}
use Rattle.std.proofs.lemmas.Nat.Bits.{bit_at-zero}
use Rattle.gm_game.specs.inner.Masks.{picked_from}
use Rattle.gm_game.proofs.Lists.{contains_first, contains_later, contains_cases}
use Rattle.gm_game.proofs.SetLemmas.{has_none, before_itself, before_trans, before_not_same, all_there, is_same_itself, with_by}

-- the step of `picked_from`
pub picked_in : (k : ℕ) (q : Position) (qs : List Position) (m : ℕ) → bit_at m k ≡ 1 → picked_from k (q ∷ qs) m ≡ q ∷ picked_from (suc k) qs m
picked_in k q qs m e = ap (λ (b : Bool). if b then q ∷ picked_from (suc k) qs m else picked_from (suc k) qs m) ((Decides-eqb (bit_at m k) 1).1 e)

pub picked_out : (k : ℕ) (q : Position) (qs : List Position) (m : ℕ) → bit_at m k ≢ 1 → picked_from k (q ∷ qs) m ≡ picked_from (suc k) qs m
picked_out k q qs m ne =
    elim (bit_at m k == 1) as (λ b. (bit_at m k == 1) ≡ b → (if b then q ∷ picked_from (suc k) qs m else picked_from (suc k) qs m) ≡ picked_from (suc k) qs m) [
      | true ↦ λ e. absurd (ne ((Decides-eqb (bit_at m k) 1).0 e))
      | false ↦ λ _. refl
    ] refl

pub bit_cases : (m k : ℕ) → (bit_at m k ≡ 1) ⊎ (bit_at m k ≢ 1)
bit_cases m k =
    elim (bit_at m k == 1) as (λ b. (bit_at m k == 1) ≡ b → (bit_at m k ≡ 1) ⊎ (bit_at m k ≢ 1)) [
      | true ↦ λ e. inl ((Decides-eqb (bit_at m k) 1).0 e)
      | false ↦ λ e. inr (λ h. true≢false (sym ((Decides-eqb (bit_at m k) 1).1 h) ∙ e))
    ] refl

-- no bit is set in 0
pub picked_none : (k : ℕ) (cs : List Position) → picked_from k cs 0 ≡ []
picked_none k [] = refl
picked_none k (q ∷ qs) = picked_out k q qs 0 (λ e. let z = bit_at-zero k in omega arith) ∙ picked_none (suc k) qs

-- what is picked is of the list
pub picked_of : (k : ℕ) (cs : List Position) (m : ℕ) (x : Position) → Contains (picked_from k cs m) x → Contains cs x
picked_of k [] m x h = h
picked_of k (q ∷ qs) m x h =
    ⊎_elim
    (λ (e : bit_at m k ≡ 1). ⊎_elim (λ (s : q ≡ x). subst (λ (y : Position). Contains (q ∷ qs) y) s (contains_first q qs))
    (λ (t : Contains (picked_from (suc k) qs m) x). contains_later q x qs (picked_of (suc k) qs m x t))
    (contains_cases q x (picked_from (suc k) qs m) (subst (λ (l : List Position). Contains l x) (picked_in k q qs m e) h)))
    (λ (ne : bit_at m k ≢ 1). contains_later q x qs (picked_of (suc k) qs m x (subst (λ (l : List Position). Contains l x) (picked_out k q qs m ne) h)))
    (bit_cases m k)

-- a fact of each position of the list
pub picked_all : (P : Position → Type 0) (k : ℕ) (cs : List Position) (m : ℕ) → AllByRecursion P cs → AllByRecursion P (picked_from k cs m)
picked_all P k [] m all = tt
picked_all P k (q ∷ qs) m all =
    ⊎_elim
    (λ (e : bit_at m k ≡ 1). subst (AllByRecursion P) (sym (picked_in k q qs m e)) (all.0, picked_all P (suc k) qs m all.1))
    (λ (ne : bit_at m k ≢ 1). subst (AllByRecursion P) (sym (picked_out k q qs m ne)) (picked_all P (suc k) qs m all.1))
    (bit_cases m k)

-- a position at a place of an ascending list is there, after the first
pub at_place : (cs : List Position) (i : ℕ) (c : Position) → slice_get cs i ≡ Some c → Contains cs c
at_place [] i c e = absurd (cc)
at_place (q ∷ qs) zero c e = let s : q ≡ c = cc in subst (λ (y : Position). Contains (q ∷ qs) y) s (contains_first q qs)
at_place (q ∷ qs) (suc i) c e = contains_later q c qs (at_place qs i c e)

-- bits that are the same from k on pick the same
pub picked_same : (k : ℕ) (cs : List Position) (m n : ℕ) → ((i : ℕ) → k ≤ i → bit_at n i ≡ bit_at m i) → picked_from k cs n ≡ picked_from k cs m
picked_same k [] m n h = refl
picked_same k (q ∷ qs) m n h =
    let rest = picked_same (suc k) qs m n (λ i l. h i (omega arith)) in
    let here : bit_at n k ≡ bit_at m k = h k (omega arith) in
    ⊎_elim
    (λ (e : bit_at m k ≡ 1). picked_in k q qs n (here ∙ e) ∙ ap (λ (l : List Position). q ∷ l) rest ∙ sym (picked_in k q qs m e))
    (λ (ne : bit_at m k ≢ 1). picked_out k q qs n (λ z. ne (sym here ∙ z)) ∙ rest ∙ sym (picked_out k q qs m ne))
    (bit_cases m k)

-- a position before all others is put in front
pub with_front : (p : Position) (qs : List Position) → AllByRecursion (λ x. is_before p x ≡ true) qs → with_position p qs ≡ p ∷ qs
with_front p [] all = refl
with_front p (q ∷ qs) all =
    with_by p q qs (λ (l : List Position). l ≡ p ∷ q ∷ qs) (λ b. absurd (before_itself p (before_trans p q p all.0 b)))
    (λ s. absurd (before_itself p (subst (λ (x : Position). is_before p x ≡ true) s all.0)))
    (λ _. refl)

-- and one that comes after the first is put into the rest
pub with_past : (p q : Position) (qs : List Position) → is_before q p ≡ true → with_position p (q ∷ qs) ≡ q ∷ with_position p qs
with_past p q qs b = ap (λ (t : Bool). if t then q ∷ with_position p qs else (if is_same q p then q ∷ qs else p ∷ q ∷ qs)) b

-- one more bit is one more position
pub picked_with : (k i : ℕ) (cs : List Position) (m n : ℕ) (c : Position) → AreAscending cs → slice_get cs i ≡ Some c → bit_at m (k + i) ≢ 1 → bit_at n
    (k + i) ≡ 1
    → ((j : ℕ) → j ≢ k + i → bit_at n j ≡ bit_at m j) → picked_from k cs n ≡ with_position c (picked_from k cs m)
picked_with k i [] m n c up e old new other = absurd (cc)
picked_with k zero (q ∷ qs) m n c up e old new other =
    let here : k + 0 ≡ k = omega arith in
    let s : q ≡ c = cc in
    let rest = picked_same (suc k) qs m n (λ j l. other j (λ z. omega arith)) in
    let new' : bit_at n k ≡ 1 = subst (λ (j : ℕ). bit_at n j ≡ 1) here new in
    let old' : bit_at m k ≢ 1 = subst (λ (j : ℕ). bit_at m j ≢ 1) here old in
    let front = with_front q (picked_from (suc k) qs m) (picked_all (λ x. is_before q x ≡ true) (suc k) qs m up.0) in
    subst (λ (x : Position). picked_from k (q ∷ qs) n ≡ with_position x (picked_from k (q ∷ qs) m)) s
    (picked_in k q qs n new' ∙ ap (λ (l : List Position). q ∷ l) rest ∙ sym front ∙ ap (λ (l : List Position). with_position q l)
    (sym (picked_out k q qs m old')))
picked_with k (suc i) (q ∷ qs) m n c up e old new other =
    let here : k + suc i ≡ suc k + i = omega arith in
    let rec : picked_from (suc k) qs n ≡ with_position c (picked_from (suc k) qs m) =
    picked_with (suc k) i qs m n c up.1 e (subst (λ (j : ℕ). bit_at m j ≢ 1) here old) (subst (λ (j : ℕ). bit_at n j ≡ 1) here new)
    (λ j ne. other j (λ z. ne (z ∙ here))) in
    let first : bit_at n k ≡ bit_at m k = other k (λ z. omega arith) in
    let b : is_before q c ≡ true = all_there (λ x. is_before q x ≡ true) qs c up.0 (at_place qs i c e) in
    ⊎_elim
    (λ (o : bit_at m k ≡ 1). picked_in k q qs n (first ∙ o) ∙ ap (λ (l : List Position). q ∷ l) rec ∙ sym (with_past c q (picked_from (suc k) qs m) b) ∙ ap
    (λ (l : List Position). with_position c l) (sym (picked_in k q qs m o)))
    (λ (ne : bit_at m k ≢ 1). picked_out k q qs n (λ z. ne (sym first ∙ z)) ∙ rec ∙ ap (λ (l : List Position). with_position c l)
    (sym (picked_out k q qs m ne)))
    (bit_cases m k)

-- a set bit picks its position
pub picked_has : (k i : ℕ) (cs : List Position) (m : ℕ) (c : Position) → slice_get cs i ≡ Some c → bit_at m (k + i) ≡ 1 → Contains (picked_from k cs m) c
picked_has k i [] m c e b = absurd (cc)
picked_has k zero (q ∷ qs) m c e b =
    let here : k + 0 ≡ k = omega arith in
    let s : q ≡ c = cc in
    subst (λ (l : List Position). Contains l c) (sym (picked_in k q qs m (subst (λ (j : ℕ). bit_at m j ≡ 1) here b)))
    (subst (λ (y : Position). Contains (q ∷ picked_from (suc k) qs m) y) s (contains_first q (picked_from (suc k) qs m)))
picked_has k (suc i) (q ∷ qs) m c e b =
    let here : k + suc i ≡ suc k + i = omega arith in
    let rec : Contains (picked_from (suc k) qs m) c = picked_has (suc k) i qs m c e (subst (λ (j : ℕ). bit_at m j ≡ 1) here b) in
    ⊎_elim
    (λ (o : bit_at m k ≡ 1). subst (λ (l : List Position). Contains l c) (sym (picked_in k q qs m o)) (contains_later q c (picked_from (suc k) qs m) rec))
    (λ (ne : bit_at m k ≢ 1). subst (λ (l : List Position). Contains l c) (sym (picked_out k q qs m ne)) rec)
    (bit_cases m k)

-- a position whose bit is not set is not picked
pub picked_lacks : (k i : ℕ) (cs : List Position) (m : ℕ) (c : Position) → AreAscending cs → slice_get cs i ≡ Some c → bit_at m (k + i) ≢ 1 → Contains
    (picked_from k cs m) c → ⊥
picked_lacks k i [] m c up e b h = absurd (cc)
picked_lacks k zero (q ∷ qs) m c up e b h =
    let here : k + 0 ≡ k = omega arith in
    let s : q ≡ c = cc in
    let l : Contains qs c = picked_of (suc k) qs m c (subst (λ (l : List Position). Contains l c)
    (picked_out k q qs m (subst (λ (j : ℕ). bit_at m j ≢ 1) here b)) h) in
    before_itself c (subst (λ (x : Position). is_before x c ≡ true) s (all_there (λ x. is_before q x ≡ true) qs c up.0 l))
picked_lacks k (suc i) (q ∷ qs) m c up e b h =
    let here : k + suc i ≡ suc k + i = omega arith in
    let b' : bit_at m (suc k + i) ≢ 1 = subst (λ (j : ℕ). bit_at m j ≢ 1) here b in
    let before : is_before q c ≡ true = all_there (λ x. is_before q x ≡ true) qs c up.0 (at_place qs i c e) in
    ⊎_elim
    (λ (o : bit_at m k ≡ 1). ⊎_elim
    (λ (s : q ≡ c). before_itself c (subst (λ (x : Position). is_before x c ≡ true) s before))
    (λ (t : Contains (picked_from (suc k) qs m) c). picked_lacks (suc k) i qs m c up.1 e b' t)
    (contains_cases q c (picked_from (suc k) qs m) (subst (λ (l : List Position). Contains l c) (picked_in k q qs m o) h)))
    (λ (ne : bit_at m k ≢ 1). picked_lacks (suc k) i qs m c up.1 e b' (subst (λ (l : List Position). Contains l c) (picked_out k q qs m ne) h))
    (bit_cases m k)
