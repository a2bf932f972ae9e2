-- Lists of positions in an order: without repeats, and known by their members.
use Rattle.gm_frontier.proofs.Lower.{◌≡◌, ℕ, ◌↔◌, inl, inr, Bool, true, false, if◌then◌else◌, List, [], ◌∷◌, ◌++◌, refl, sym, ap₂, subst, ◌∙◌, arith, AllByRecursion, Contains, nat_tests, Position, is_before, contains_none, contains_first, contains_later, contains_cases, HasNoRepeats, AreInOrder, comes_first}
use Rattle.std.proofs.Common.{◌==◌, nat_lt}
use Rattle.gm_game.proofs.SetLemmas.{before_itself, before_trans, all_there}

-- of two positions at most one comes before the other
abbrev pub IsOneWay : (Position → Position → Bool) → Type 0
IsOneWay comes_before = (p q : Position) → comes_before p q ≡ true → comes_before q p ≡ true → ⊥

pub in_order_once : (comes_before : Position → Position → Bool) → IsOneWay comes_before → (ps : List Position) → AreInOrder comes_before ps → HasNoRepeats ps
in_order_once before one [] up = tt
in_order_once before one (p ∷ ps) up = (λ h. (let e = all_there (λ q. before p q ≡ true) ps p up.0 h in one p p e e), in_order_once before one ps up.1)

-- lists in one order with the same members are one list
pub in_order_same : (comes_before : Position → Position → Bool) → IsOneWay comes_before → (ps qs : List Position) → AreInOrder comes_before ps
    → AreInOrder comes_before qs → ((c : Position) → Contains ps c ↔ Contains qs c) → ps ≡ qs
in_order_same before one [] [] up down same = refl
in_order_same before one [] (q ∷ qs) up down same = absurd (contains_none q ((same q).1 (contains_first q qs)))
in_order_same before one (p ∷ ps) [] up down same = absurd (contains_none p ((same p).0 (contains_first p ps)))
in_order_same before one (p ∷ ps) (q ∷ qs) up down same =
    let first : p ≡ q = elim (contains_cases q p qs ((same p).0 (contains_first p ps))) [
      | inl e ↦ sym e
      | inr a ↦ elim (contains_cases p q ps ((same q).1 (contains_first q qs))) [
        | inl e ↦ e
        | inr b ↦ absurd (one p q (all_there (λ x. before p x ≡ true) ps q up.0 b) (all_there (λ x. before q x ≡ true) qs p down.0 a))
      ]
    ] in
    let rest : ps ≡ qs = in_order_same before one ps qs up.1 down.1 (λ c. (
      (λ h. elim (contains_cases q c qs ((same c).0 (contains_later p c ps h))) [
        | inl e ↦ (let k = all_there (λ x. before p x ≡ true) ps p up.0 (subst (λ (x : Position). Contains ps x) (sym e ∙ sym first) h) in absurd (one p p k k))
        | inr t ↦ t
      ]),
      (λ h. elim (contains_cases p c ps ((same c).1 (contains_later q c qs h))) [
        | inl e ↦ (let k = all_there (λ x. before q x ≡ true) qs q down.0 (subst (λ (x : Position). Contains qs x) (sym e ∙ first) h) in absurd (one q q k k))
        | inr t ↦ t
      ]),
    )) in
    ap₂ (λ (x : Position) (xs : List Position). x ∷ xs) first rest

-- the two orders
pub before_one_way : IsOneWay is_before
before_one_way p q a b = before_itself p (before_trans p q p a b)

pub first_one_way : (tier : ℕ) → IsOneWay (comes_first tier)
first_one_way tier p q = go (p.tier == tier) (q.tier == tier)
  where
    order : Bool → Bool → Position → Position → Bool
    order b c x y = if b then (if c then nat_lt x.index y.index else true) else (if c then false else is_before x y)

    not_both : (m n : ℕ) → nat_lt m n ≡ true → nat_lt n m ≡ true → ⊥
    not_both m n a b = grind (arith, nat_tests)

    go : (b c : Bool) → (if b then (if c then nat_lt p.index q.index else true) else (if c then false else is_before p q)) ≡ true
        → (if c then (if b then nat_lt q.index p.index else true) else (if b then false else is_before q p)) ≡ true → ⊥
    go true true a b = not_both p.index q.index a b
    go true false a b = cc
    go false true a b = cc
    go false false a b = before_one_way p q a b

-- joined lists, if each of the first comes before each of the second
pub in_order_append : (comes_before : Position → Position → Bool) (ps qs : List Position) → AreInOrder comes_before ps → AreInOrder comes_before qs
    → ((p q : Position) → Contains ps p → Contains qs q → comes_before p q ≡ true) → AreInOrder comes_before (ps ++ qs)
in_order_append before [] qs up down apart = down
in_order_append before (p ∷ ps) qs up down apart = (
  all_append (λ x. before p x ≡ true) ps qs up.0 (all_from (λ x. before p x ≡ true) qs (λ q h. apart p q (contains_first p ps) h)),
  in_order_append before ps qs up.1 down (λ x y a b. apart x y (contains_later p x ps a) b),
)
  where
    all_from : (P : Position → Type 0) (xs : List Position) → ((x : Position) → Contains xs x → P x) → AllByRecursion P xs
    all_from P [] h = tt
    all_from P (x ∷ xs) h = (h x (contains_first x xs), all_from P xs (λ y i. h y (contains_later x y xs i)))

    all_append : (P : Position → Type 0) (xs ys : List Position) → AllByRecursion P xs → AllByRecursion P ys → AllByRecursion P (xs ++ ys)
    all_append P [] ys a b = b
    all_append P (x ∷ xs) ys a b = (a.0, all_append P xs ys a.1 b)
