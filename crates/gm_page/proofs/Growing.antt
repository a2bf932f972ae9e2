-- Lists that grow by one position at a time: what each step keeps, and the contents afterwards.
use Rattle.gm_page.proofs.Lower.{◌≡◌, ℕ, zero, suc, ◌+◌, ◌<◌, ◌≤◌, List, [], ◌∷◌, ◌++◌, length, take, slice_get, Some, refl, sym, ap, ◌∙◌, subst, ◌⊎◌, inl, inr, arith, Contains, cases_lt, take_all, Position, Rules, contains_none, contains_cases, with_new, with_all}
use Rattle.gm_game.proofs.Lists.{contains_first, contains_later}
use Rattle.gm_page.specs.Listings.{ComesFromEarlier}
use Rattle.std.proofs.lemmas.List.{length-append, get_or_append_left, get_or_push, take-append-le}
use Rattle.std.proofs.lemmas.List.Elements.{Contains-append_left, Contains-push}
use Rattle.gm_page.proofs.Places.{new_cases}

pub long_more : (old : List Position) (q : Position) → length (old ++ q ∷ []) ≡ length old + 1
long_more old q = length-append old (q ∷ [])

-- ---- properties that one more position preserves
-- a list with the result of a move of one of its positions added
pub earlier_more : (r : Rules) (old : List Position) (p q : Position) (m : ℕ) → ComesFromEarlier r old → Contains old p → Contains (r.moves p) m → r.play p
    m ≡ q → ComesFromEarlier r (old ++ q ∷ [])
earlier_more r old p q m h has listed e j d some inside =
    let long = long_more old q in
    elim (cases_lt j (length old)) [
      | inl j_in ↦ (
          let (a, n, there, move, same) = h j d some j_in in
          let front : j ≤ length old = omega arith in (
            a,
            n,
            subst (λ (l : List Position). Contains l a) (sym (take-append-le j old (q ∷ []) front)) there,
            move,
            same ∙ sym (get_or_append_left old (q ∷ []) d j j_in),
          ))
      | inr past ↦ (
          let f : length old ≡ j = omega arith in
          let front : j ≤ length old = omega arith in
          let whole : take j (old ++ q ∷ []) ≡ old = take-append-le j old (q ∷ []) front ∙ take_all j old (omega arith) in (
            p,
            m,
            subst (λ (l : List Position). Contains l p) (sym whole) has,
            listed,
            e ∙ sym (get_or_push old q d j f),
          ))
    ]

-- a position stays in its place
pub place_more : (old : List Position) (y : Position) (j : ℕ) (x : Position) → slice_get old j ≡ Some x → slice_get (old ++ y ∷ []) j ≡ Some x
place_more [] y j x h = absurd (let z : ⊥ = cc in z)
place_more (a ∷ rest) y zero x h = h
place_more (a ∷ rest) y (suc j) x h = place_more rest y j x h

module _ (limit : ℕ) where
  -- ---- a property that each step preserves
  pub new_keeps : (P : List Position → Type 0) (old : List Position) (q : Position) → P old →
      ((Contains old q → ⊥) → length old < limit → P (old ++ q ∷ [])) → P (with_new limit old q)
  new_keeps P old q h step = elim (new_cases limit old q) [
    | inl a ↦ subst P (sym a.0) h
    | inr b ↦ subst P (sym b.0) (step b.1 b.2)
  ]

  pub all_keep : (P : List Position → Type 0) (ps : List Position) → ((old : List Position) (q : Position) → Contains ps q → P old → (Contains old q → ⊥)
      → length old < limit → P (old ++ q ∷ [])) → (old : List Position) → P old → P (with_all limit old ps)
  all_keep P [] step old h = h
  all_keep P (p ∷ ps) step old h =
      all_keep P ps (λ l q c. step l q (contains_later p q ps c)) (with_new limit old p) (new_keeps P old p h (step old p (contains_first p ps) h))

  -- listed positions stay listed, in their places
  pub all_stays : (ps old : List Position) (p : Position) → Contains old p → Contains (with_all limit old ps) p
  all_stays ps old p = all_keep (λ l. Contains l p) ps (λ l q i c absent room. Contains-append_left l (q ∷ []) p c) old

  pub place_stays : (ps old : List Position) (j : ℕ) (x : Position) → slice_get old j ≡ Some x → slice_get (with_all limit old ps) j ≡ Some x
  place_stays ps old j x = all_keep (λ l. slice_get l j ≡ Some x) ps (λ l q i h absent room. place_more l q j x h) old

  pub all_longer : (ps old : List Position) → length old ≤ length (with_all limit old ps)
  all_longer ps old = all_keep (λ l. length old ≤ length l) ps (λ l q i h absent room. (let e = long_more l q in omega arith)) old (omega arith)

  -- nothing is added to a full list
  pub full_all : (ps old : List Position) → limit ≤ length old → with_all limit old ps ≡ old
  full_all ps old full = all_keep (λ l. l ≡ old) ps (λ l q i e absent room. (let n = ap length e in absurd (omega arith))) old refl

  -- ---- an added position is in the list, or the list is full
  pub new_there : (old : List Position) (q : Position) → Contains (with_new limit old q) q ⊎ (limit ≤ length (with_new limit old q))
  new_there old q = elim (new_cases limit old q) [
    | inl a ↦ elim a.1 [
      | inl c ↦ inl (subst (λ (l : List Position). Contains l q) (sym a.0) c)
      | inr f ↦ inr (subst (λ (l : List Position). limit ≤ length l) (sym a.0) f)
    ]
    | inr b ↦ inl (subst (λ (l : List Position). Contains l q) (sym b.0) (Contains-push old q))
  ]

  pub all_there : (ps old : List Position) (q : Position) → Contains ps q → Contains (with_all limit old ps) q ⊎ (limit ≤ length (with_all limit old ps))
  all_there [] old q c = absurd (contains_none q c)
  all_there (x ∷ xs) old q c = elim (contains_cases x q xs c) [
    | inl e ↦ elim (new_there old q) [
      | inl h ↦ inl (subst (λ (y : Position). Contains (with_all limit (with_new limit old y) xs) q) (sym e) (all_stays xs (with_new limit old q) q h))
      | inr f ↦ inr (let b = all_longer xs (with_new limit old q) in subst (λ (y : Position). limit ≤ length (with_all limit (with_new limit old y) xs))
          (sym e) (omega arith))
    ]
    | inr d ↦ all_there xs (with_new limit old x) q d
  ]

  -- ---- a list that a loop adds to
  pub all_next : (here rest : List Position) (x : Position) (cur new all : List Position) → here ≡ x ∷ rest → with_all limit cur here ≡ all
      → new ≡ with_new limit cur x → with_all limit new rest ≡ all
  all_next here rest x cur new all e h n = ap (λ (l : List Position). with_all limit l rest) n ∙ sym (ap (with_all limit cur) e) ∙ h

  pub all_done : (here : List Position) (cur all : List Position) → here ≡ [] → with_all limit cur here ≡ all → cur ≡ all
  all_done here cur all e h = sym (ap (with_all limit cur) e) ∙ h
