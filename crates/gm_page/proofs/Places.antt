-- Places of positions in a list.
use Rattle.gm_page.proofs.Lower.{◌≡◌, ℕ, ◌+◌, ◌<◌, ◌≤◌, Bool, true, false, cond, List, [], ◌∷◌, ◌++◌, length, Option, None, Some, refl, sym, ap, ◌∙◌, subst, ◌⊎◌, inl, inr, arith, get, Contains, cases_Bool, cond-true, cond-false, Position, at, contains_none, contains_cases, place_of, is_key, with_new}
use Rattle.std.proofs.Common.{is_some, leb, leb-true, ◌↔◌}
use Rattle.std.proofs.lemmas.Bool.{false≢true}
use Rattle.gm_game.proofs.Lists.{contains_first, contains_later}
use Rattle.gm_game.specs.Children.{is_same}
use Rattle.gm_page.specs.Listings.{place_from, Tells}
use Rattle.std.specs.HashMap.{HashMap}
use Rattle.std.proofs.lemmas.Bool.Decides.{nat_tests}
use Rattle.gm_game.proofs.SetLemmas.{same_position, is_same_means, is_same_itself}

-- a position with a place is listed
place_in : (n k : ℕ) (ps : List Position) (p : Position) → place_from n ps p ≡ Some k → Contains ps p
place_in n k [] p e = absurd (let z : ⊥ = cc in z)
place_in n k (q ∷ qs) p e = elim (cases_Bool (is_same p q)) [
  | inl f ↦ subst (Contains (q ∷ qs)) (sym (is_same_means p q f)) (contains_first q qs)
  | inr f ↦ contains_later q p qs (place_in (n + 1) k qs p (sym (cond-false _ _ _ f) ∙ e))
]

-- and a position without a place is not listed
place_out : (n : ℕ) (ps : List Position) (p : Position) → place_from n ps p ≡ None → Contains ps p → ⊥
place_out n [] p e c = contains_none p c
place_out n (q ∷ qs) p e c = elim (cases_Bool (is_same p q)) [
  | inl f ↦ (let g : Some n ≡ None = sym (cond-true _ _ _ f) ∙ e in let z : ⊥ = cc in z)
  | inr f ↦ elim (contains_cases q p qs c) [
    | inl g ↦ (let h : is_same p q ≡ true = subst (λ (x : Position). is_same p x ≡ true) (sym g) (is_same_itself p) in let z : ⊥ = cc in z)
    | inr d ↦ place_out (n + 1) qs p (sym (cond-false _ _ _ f) ∙ e) d
  ]
]

option_cases : (o : Option ℕ) → ((k : ℕ) × (o ≡ Some k)) ⊎ (o ≡ None)
option_cases None = inr refl
option_cases (Some k) = inl (k, refl)

-- listed or not
pub place_cases : (ps : List Position) (p : Position) → ((k : ℕ) × (place_of ps p ≡ Some k) × Contains ps p) ⊎ ((place_of ps p ≡ None) × (Contains ps p → ⊥))
place_cases ps p = elim (option_cases (place_of ps p)) [
  | inl s ↦ inl (s.0, s.1, place_in 0 s.0 ps p s.1)
  | inr e ↦ inr (e, place_out 0 ps p e)
]

-- the place of an added position
place_added : (n : ℕ) (ps : List Position) (p : Position) → place_from n ps p ≡ None → place_from n (ps ++ p ∷ []) p ≡ Some (n + length ps)
place_added n [] p e = cond-true _ _ _ (is_same_itself p) ∙ ap Some (let z : n ≡ n + 0 = omega arith in z)
place_added n (q ∷ qs) p e = elim (cases_Bool (is_same p q)) [
  | inl f ↦ (let g : Some n ≡ None = sym (cond-true _ _ _ f) ∙ e in let z : ⊥ = cc in absurd z)
  | inr f ↦ cond-false _ _ _ f ∙ place_added (n + 1) qs p (sym (cond-false _ _ _ f) ∙ e) ∙ ap Some
      (let z : n + 1 + length qs ≡ n + length (q ∷ qs) = omega arith in z)
]

-- the place of any other position is unchanged
place_kept : (n : ℕ) (ps : List Position) (p q : Position) → is_same q p ≡ false → place_from n (ps ++ p ∷ []) q ≡ place_from n ps q
place_kept n [] p q e = cond-false _ _ _ e
place_kept n (x ∷ xs) p q e = ap (λ (o : Option ℕ). cond (is_same q x) (Some n) o) (place_kept (n + 1) xs p q e)

-- ---- the map
-- the test of a key after another key is inserted
key_apart : (p : Position) (k : ℕ × ℕ) → is_key (p.tier, p.index) k ≡ false → is_same (at k.0 k.1) p ≡ false
key_apart p k e = elim (cases_Bool (is_same (at k.0 k.1) p)) [
  | inl f ↦ (
      let g : is_same p (at k.0 k.1) ≡ true = subst (λ (q : Position). is_same p q ≡ true) (sym (is_same_means (at k.0 k.1) p f)) (is_same_itself p) in
      absurd (let z : ⊥ = cc in z))
  | inr f ↦ f
]

module _ {S : Type 0} where
  -- a map with one more position
  pub tells_more : (old new : HashMap (ℕ × ℕ) ℕ S) (ps : List Position) (p : Position) → Tells old ps → place_of ps p ≡ None
      → ((k : ℕ × ℕ) → get is_key new k ≡ cond (is_key (p.tier, p.index) k) (Some (length ps)) (get is_key old k)) → Tells new (ps ++ p ∷ [])
  tells_more old new ps p tells none updates k = elim (cases_Bool (is_key (p.tier, p.index) k)) [
    | inl f ↦ updates k ∙ cond-true _ _ _ f ∙ sym (place_added 0 ps p none ∙ ap Some (let z : 0 + length ps ≡ length ps = omega arith in z)) ∙ ap
        (place_from 0 (ps ++ p ∷ [])) (is_same_means p (at k.0 k.1) f)
    | inr f ↦ updates k ∙ cond-false _ _ _ f ∙ tells k ∙ sym (place_kept 0 ps p (at k.0 k.1) (key_apart p k f))
  ]

-- ---- one more position, or no change
-- the list with a position added, by the position's place
abbrev added : ℕ → List Position → Position → Option ℕ → List Position
added limit old p o = cond (is_some o) old (cond (leb limit (length old)) old (old ++ p ∷ []))

not_le : (a b : ℕ) → leb a b ≡ false → b < a
not_le a b e = grind (arith, nat_tests)

pub new_cases : (limit : ℕ) (old : List Position) (p : Position)
    → ((with_new limit old p ≡ old) × (Contains old p ⊎ (limit ≤ length old))) ⊎ ((with_new limit old p ≡ old ++ p ∷ []) × (Contains old p → ⊥) ×
    (length old < limit))
new_cases limit old p = elim (place_cases old p) [
  | inl h ↦ inl (ap (added limit old p) h.1, inl h.2)
  | inr h ↦ elim (cases_Bool (leb limit (length old))) [
    | inl f ↦ inl (ap (added limit old p) h.0 ∙ cond-true _ _ _ f, inr (leb-true _ _ f))
    | inr f ↦ inr (ap (added limit old p) h.0 ∙ cond-false _ _ _ f, h.1, not_le limit (length old) f)
  ]
]

-- a position has a place if and only if it is listed
pub has_place : (ps : List Position) (p : Position) (b : Bool) → b ≡ is_some (place_of ps p) → (b ≡ true) ↔ Contains ps p
has_place ps p b e = elim (place_cases ps p) [
  | inl h ↦ (λ t. h.2, λ c. e ∙ ap is_some h.1)
  | inr h ↦ (λ t. absurd (let z : false ≡ true = sym (e ∙ ap is_some h.0) ∙ t in false≢true z), λ c. absurd (h.1 c))
]

-- a position is determined by its tier and its index
pub made_of : (p : Position) → at p.tier p.index ≡ p
made_of p = same_position (at p.tier p.index) p refl refl
