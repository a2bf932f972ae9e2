-- Records at a place are those of the positions that are there.
use Rattle.gm_table.proofs.Lower.{◌≡◌, ℕ, zero, suc, ◌<◌, ◌≤◌, ◌+◌, ◌↔◌, Bool, true, false, if◌then◌else◌, List, [], ◌∷◌, get_or, refl, sym, ap, ◌∙◌, subst, inl, inr, arith, Option, None, Some, IsSome, slice_get, eq-eqb, eqb-true, Contains, same_Some, slice_get-get_or, Position, Solved, Phase, WinLose, Ties, Rules, at, IsCanonical, IsAscending, IsGame, IsTrueValue, contains_none, contains_first, contains_later, level_in, indexes_at, TableData, IsTable, table_of, IsHeld, AreTables}
use Rattle.std.proofs.lemmas.Option.{none-some}
use Rattle.gm_game.specs.declared.position.Value.{Value}
use Rattle.gm_game.specs.declared.position.Value.TheVariants.{Lose, Draw, Tie, Win}
use Rattle.gm_game.specs.Values.{HasValue}
use Rattle.gm_game.specs.Records.{solved}
use Rattle.gm_game.specs.Places.{StandsAt}
use Rattle.gm_game.proofs.Lists.{contains_cases}
use Rattle.gm_game.proofs.Basic.{HasValue_once}
use Rattle.gm_table.specs.Levels.{HasLevel, is_level, indexes_from}
use Rattle.gm_table.specs.Tables.{run_of}

-- the test of a level
level_is : (n : ℕ) (a : Option ℕ) → is_level n a ≡ true → a ≡ Some n
level_is n None h = absurd (cc)
level_is n (Some m) h = ap Some (eqb-true m n h)

is_level_is : (n : ℕ) (a : Option ℕ) → a ≡ Some n → is_level n a ≡ true
is_level_is n a e = ap (is_level n) e ∙ eq-eqb n n refl

-- a record at this place of the list is at this level
IsAt : Phase → ℕ → List (Option Solved) → ℕ → Type 0
IsAt phase n os j = (o : Option Solved) × (slice_get os j ≡ Some o) × (level_in phase o ≡ Some n)

-- what is in the list of indexes
indexes_in_cond : (b : Bool) (k i : ℕ) (is : List ℕ) (P : Type 0) → (b ≡ true → k ≡ i → P) → (Contains is i → P) → Contains (if b then k ∷ is else is) i → P
indexes_in_cond true k i is P here later c = elim (contains_cases k i is c) [ inl e ↦ here refl e | inr d ↦ later d ]
indexes_in_cond false k i is P here later c = later c

indexes_in : (k : ℕ) (phase : Phase) (n : ℕ) (os : List (Option Solved)) (i : ℕ) → Contains (indexes_from k phase n os) i → (j : ℕ) × (i ≡ k + j) × IsAt
    phase n os j
unfolding IsAt
indexes_in k phase n [] i c = absurd (contains_none i c)
indexes_in k phase n (o ∷ os) i c =
    indexes_in_cond (is_level n (level_in phase o)) k i (indexes_from (suc k) phase n os) ((j : ℕ) × (i ≡ k + j) × IsAt phase n (o ∷ os) j)
    (λ b e. (0, omega arith, (o, refl, level_is n (level_in phase o) b)))
    (λ d. (let (j, e, h) = indexes_in (suc k) phase n os i d in (suc j, omega arith, h)))
    c

contains_cond : (b : Bool) (k i : ℕ) (is : List ℕ) → Contains is i → Contains (if b then k ∷ is else is) i
contains_cond true k i is c = contains_later k i is c
contains_cond false k i is c = c

indexes_has : (k : ℕ) (phase : Phase) (n : ℕ) (os : List (Option Solved)) (j : ℕ) → IsAt phase n os j → Contains (indexes_from k phase n os) (k + j)
unfolding IsAt
indexes_has k phase n [] j (o, e, h) = absurd (none-some o e)
indexes_has k phase n (x ∷ xs) zero (o, e, h) =
    let b = is_level_is n (level_in phase x) (ap (level_in phase) (same_Some x o e) ∙ h) in
    let s : k ≡ k + 0 = omega arith in
    subst (λ (i : ℕ). Contains (indexes_from k phase n (x ∷ xs)) i) s (subst (λ (c : Bool). Contains
    (if c then k ∷ indexes_from (suc k) phase n xs else indexes_from (suc k) phase n xs) k) (sym b) (contains_first k (indexes_from (suc k) phase n xs)))
indexes_has k phase n (x ∷ xs) (suc j) a =
    let s : suc k + j ≡ k + suc j = omega arith in
    contains_cond (is_level n (level_in phase x)) k (k + suc j) (indexes_from (suc k) phase n xs)
    (subst (Contains (indexes_from (suc k) phase n xs)) s (indexes_has (suc k) phase n xs j a))

pub indexes_exact : (phase : Phase) (n : ℕ) (os : List (Option Solved)) (i : ℕ) → Contains (indexes_at phase n os) i ↔
    ((o : Option Solved) × (slice_get os i ≡ Some o) × (level_in phase o ≡ Some n))
unfolding IsAt
indexes_exact phase n os i = (
  λ c. (let (j, e, h) = indexes_in 0 phase n os i c in let s : j ≡ i = omega arith in subst (IsAt phase n os) s h),
  λ a. (let s : 0 + i ≡ i = omega arith in subst (Contains (indexes_at phase n os)) s (indexes_has 0 phase n os i a)),
)

-- the list of indexes is ascending
AllFrom : ℕ → List ℕ → Type 0
AllFrom k is = (i : ℕ) → Contains is i → k ≤ i

ascending_cons : (k : ℕ) (is : List ℕ) → AllFrom (suc k) is → IsAscending is → IsAscending (k ∷ is)
unfolding AllFrom
ascending_cons k [] h a = tt
ascending_cons k (i ∷ is) h a = (h i (contains_first i is), a)

from_indexes : (k : ℕ) (phase : Phase) (n : ℕ) (os : List (Option Solved)) → AllFrom k (indexes_from k phase n os)
unfolding AllFrom
from_indexes k phase n os i c = let (j, e, h) = indexes_in k phase n os i c in omega arith

ascending_cond : (b : Bool) (k : ℕ) (is : List ℕ) → AllFrom (suc k) is → IsAscending is → IsAscending (if b then k ∷ is else is)
ascending_cond true k is h a = ascending_cons k is h a
ascending_cond false k is h a = a

ascending_from : (k : ℕ) (phase : Phase) (n : ℕ) (os : List (Option Solved)) → IsAscending (indexes_from k phase n os)
ascending_from k phase n [] = tt
ascending_from k phase n (o ∷ os) = ascending_cond (is_level n (level_in phase o)) k (indexes_from (suc k) phase n os) (from_indexes (suc k) phase n os)
    (ascending_from (suc k) phase n os)

pub indexes_ascending : (phase : Phase) (n : ℕ) (os : List (Option Solved)) → IsAscending (indexes_at phase n os)
indexes_ascending phase n os = ascending_from 0 phase n os

-- the level of a true value is the place of its position
stands_from : (r : Rules) (p : Position) (phase : Phase) (v : Value) (m n : ℕ) → HasValue r p v m → level_in phase (Some (solved v m)) ≡ Some n → StandsAt r
    phase n p
stands_from r p WinLose Lose m n h e = inr (subst (HasValue r p Lose) (same_Some m n e) h)
stands_from r p WinLose Win m n h e = inl (subst (HasValue r p Win) (same_Some m n e) h)
stands_from r p WinLose Tie m n h e = absurd (none-some n e)
stands_from r p WinLose Draw m n h e = absurd (none-some n e)
stands_from r p Ties Tie m n h e = subst (HasValue r p Tie) (same_Some m n e) h
stands_from r p Ties Lose m n h e = absurd (none-some n e)
stands_from r p Ties Win m n h e = absurd (none-some n e)
stands_from r p Ties Draw m n h e = absurd (none-some n e)

-- a place gives the value's phase and remoteness
level_of_value : (r : Rules) (p : Position) (phase : Phase) (v w : Value) (m n : ℕ) → HasValue r p v m → HasValue r p w n → level_in phase
    (Some (solved w n)) ≡ Some n → level_in phase (Some (solved v m)) ≡ Some n
level_of_value r p phase v w m n h k e = let (a, b) = HasValue_once r p v w m n h k in ap (λ x. level_in phase (Some (solved x m))) a ∙ ap
    (λ x. level_in phase (Some (solved w x))) b ∙ e

stands_level : (r : Rules) (p : Position) (phase : Phase) (s : Solved) (n : ℕ) → IsTrueValue r p s → StandsAt r phase n p → level_in phase (Some s) ≡ Some n
stands_level r p WinLose s n h (inl k) = level_of_value r p WinLose s.value Win s.remoteness n h k refl
stands_level r p WinLose s n h (inr k) = level_of_value r p WinLose s.value Lose s.remoteness n h k refl
stands_level r p Ties s n h k = level_of_value r p Ties s.value Tie s.remoteness n h k refl

-- in a table
module _ (r : Rules) (g : IsGame r) (t : TableData) (h : IsTable r t) (phase : Phase) (n : ℕ) where
  stands_there : (i : ℕ) (o : Option Solved) → slice_get t.records i ≡ Some o → level_in phase o ≡ Some n → IsCanonical r (at t.tier i) × StandsAt r phase n
      (at t.tier i)
  stands_there i None e l = absurd (none-some n l)
  stands_there i (Some s) e l = let (c, v, m) = h.is_true.each i (Some s) e in (c, stands_from r (at t.tier i) phase s.value s.remoteness n v l)

  level_there : (i : ℕ) (o : Option Solved) → slice_get t.records i ≡ Some o → IsCanonical r (at t.tier i) → StandsAt r phase n (at t.tier i) → level_in
      phase o ≡ Some n
  level_there i None e c s = absurd (h.is_true.each i None e c)
  level_there i (Some x) e c s = stands_level r (at t.tier i) phase x n (h.is_true.each i (Some x) e).1 s

  record_there : (i : ℕ) → IsCanonical r (at t.tier i) → slice_get t.records i ≡ Some (get_or t.records i None)
  record_there i c = slice_get-get_or t.records i None (subst (λ m. i < m) (sym h.is_true.whole) (g.index_below (at t.tier i) c.0))

  -- the indexes at a place are those of the positions that are there
  pub indexes_stand : (i : ℕ) → Contains (indexes_at phase n t.records) i ↔ (IsCanonical r (at t.tier i) × StandsAt r phase n (at t.tier i))
  indexes_stand i = (
    λ c. (let (o, e, l) = (indexes_exact phase n t.records i).0 c in stands_there i o e l),
    λ (c, s). (indexes_exact phase n t.records i).1 (get_or t.records i None, record_there i c, level_there i (get_or t.records i None) (record_there i c) c s),
  )

  -- and a level has a record where some position is there
  pub level_stands : HasLevel phase t.records n ↔ ((i : ℕ) × IsCanonical r (at t.tier i) × StandsAt r phase n (at t.tier i))
  level_stands = (
    λ (i, o, e, l). (i, (stands_there i o e l).0, (stands_there i o e l).1),
    λ (i, c, s). (i, get_or t.records i None, record_there i c, level_there i (get_or t.records i None) (record_there i c) c s),
  )

-- the run of a place has the positions that are there
module _ (r : Rules) (g : IsGame r) (entries : List TableData) (h : AreTables r entries) (tier : ℕ) (phase : Phase) (n : ℕ) where
  IsThere : ℕ → Type 0
  IsThere i = IsHeld entries tier × IsCanonical r (at tier i) × StandsAt r phase n (at tier i)

  run_cases : (o : Option TableData) → table_of entries tier ≡ o → (i : ℕ) → Contains (run_of entries tier phase n) i ↔ IsThere i
  unfolding IsThere
  run_cases None e i =
      let run : run_of entries tier phase n ≡ [] = rw (e, run_of) refl in
      (λ c. absurd (contains_none i (subst (λ (is : List ℕ). Contains is i) run c)), λ k. absurd (let f = subst IsSome e k.0 in cc))
  run_cases (Some t) e i =
      let run : run_of entries tier phase n ≡ indexes_at phase n t.records = rw (e, run_of) refl in
      let (q, k) = h tier t e in
      let there : IsHeld entries tier = subst IsSome (sym e) refl in
      let same = indexes_stand r g t k phase n i in (
        λ c. (let (a, b) = subst (λ u. IsCanonical r (at u i) × StandsAt r phase n (at u i)) q (same.0 (subst (λ (is : List ℕ). Contains is i) run c)) in
            (there, a, b)),
        λ (x, a, b). subst (λ (is : List ℕ). Contains is i) (sym run) (same.1 (subst (λ u. IsCanonical r (at u i) × StandsAt r phase n (at u i)) (sym q)
            (a, b))),
      )

  pub run_stands : (i : ℕ) → Contains (run_of entries tier phase n) i ↔ (IsHeld entries tier × IsCanonical r (at tier i) × StandsAt r phase n (at tier i))
  unfolding IsThere
  run_stands = run_cases (table_of entries tier) refl

  ascending_cases : (o : Option TableData) → table_of entries tier ≡ o → IsAscending (run_of entries tier phase n)
  ascending_cases None e = rw (e, run_of) tt
  ascending_cases (Some t) e = rw (e, run_of) (indexes_ascending phase n t.records)

  pub run_ascending : IsAscending (run_of entries tier phase n)
  run_ascending = ascending_cases (table_of entries tier) refl
