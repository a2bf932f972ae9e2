-- The values that tables give.
use Rattle.gm_table.proofs.Lower.{◌≡◌, ℕ, ◌<◌, ◌≤◌, ◌↔◌, true, false, List, length, get_or, refl, sym, ap, ◌∙◌, subst, Bool, Option, None, Some, IsSome, IfSome, slice_get, slice_get-get_or, Position, Solved, REMOTENESS, Rules, at, IsCanonical, IsGame, IsTrueValue, IsRecord, TableData, IsTable, record_at, table_of, IsHeld, AreTables, value_in}
use Rattle.gm_game.specs.Records.{IsTrueTable, HoldsChildren, IsKnown, Fits}
use Rattle.gm_game.proofs.Symmetry.{IsTrueValue-canonical}
use Rattle.gm_game.proofs.Settled.{known_since}
use Rattle.gm_game.proofs.Checker.{true_iff_fits}
use Rattle.gm_table.specs.Tables.{AreHeld, record_in}

-- a true table has the record of each canonical position of its tier
pub canonical_record : (r : Rules) → IsGame r → (tier : ℕ) (records : List (Option Solved)) → IsTrueTable r REMOTENESS tier records → (c : Position)
    → IsCanonical r c → c.tier ≡ tier → (x : Solved) × (record_at records c.index ≡ Some x) × IsTrueValue r c x × (x.remoteness ≤ REMOTENESS)
canonical_record r g tier records t c i e =
    let l : c.index < length records = subst (λ n. c.index < n) (sym t.whole) (subst (λ u. c.index < r.tier_size u) e (g.index_below c i.0)) in
    let q = slice_get-get_or records c.index None l in
    there (get_or records c.index None) q (subst (λ u. IsRecord r REMOTENESS (IsTrueValue r) (at u c.index) (get_or records c.index None)) (sym e)
    (t.each c.index (get_or records c.index None) q))
  where
    there : (o : Option Solved) → slice_get records c.index ≡ Some o → IsRecord r REMOTENESS (IsTrueValue r) (at c.tier c.index) o
        → (x : Solved) × (record_at records c.index ≡ Some x) × IsTrueValue r c x × (x.remoteness ≤ REMOTENESS)
    there None q h = absurd (h i)
    there (Some x) q (k, value, near) = (x, rw (q, record_at) refl, value, near)

-- the record in the tables, by the table of the tier
pub record_held : (entries : List TableData) (t : TableData) (p : Position) → table_of entries p.tier ≡ Some t → record_in entries p ≡ record_at t.records p.index
record_held entries t p e = rw (e, record_in) refl

record_not_held : (entries : List TableData) (p : Position) → table_of entries p.tier ≡ None → record_in entries p ≡ None
record_not_held entries p e = rw (e, record_in) refl

module _ (r : Rules) (g : IsGame r) (entries : List TableData) (p : Position) where
  canonical_held : (o : Option TableData) → r.is_legal p ≡ true → table_of entries p.tier ≡ o → table_of entries (r.canonical p).tier ≡ o
  canonical_held o l e = ap (table_of entries) (g.canonical_tier p l) ∙ e

  -- the value of a legal position
  value_legal : r.is_legal p ≡ true → value_in r entries p ≡ record_in entries (r.canonical p)
  value_legal l = rw (l, value_in) refl

  value_not_legal : r.is_legal p ≡ false → value_in r entries p ≡ None
  value_not_legal l = rw (l, value_in) refl

  value_held : (t : TableData) → r.is_legal p ≡ true → table_of entries p.tier ≡ Some t → value_in r entries p ≡ record_at t.records (r.canonical p).index
  value_held t l e = value_legal l ∙ record_held entries t (r.canonical p) (canonical_held (Some t) l e)

  pub value_read : (t : TableData) (o : Option Solved) → true ≡ r.is_legal p → Some t ≡ table_of entries p.tier → o ≡ record_at t.records
      (r.canonical p).index → o ≡ value_in r entries p
  value_read t o l e h = h ∙ sym (value_held t (sym l) (sym e))

  not_held : (b : Bool) → r.is_legal p ≡ b → table_of entries p.tier ≡ None → value_in r entries p ≡ None
  not_held true l e = value_legal l ∙ record_not_held entries (r.canonical p) (canonical_held None l e)
  not_held false l e = value_not_legal l

  -- a legal position of a held tier has its true value
  pub known_value : (t : TableData) → AreTables r entries → r.is_legal p ≡ true → table_of entries p.tier ≡ Some t → (s : Solved) ×
      (value_in r entries p ≡ Some s) × IsTrueValue r p s × (s.remoteness ≤ REMOTENESS)
  known_value t h l e =
      let (q, k) = h p.tier t e in
      let c = r.canonical p in
      let (s, f, v, n) = canonical_record r g t.tier t.records k.is_true c (g.canonical_legal p l, g.canonical_twice p l) (g.canonical_tier p l ∙ sym q) in
      (s, value_held t l e ∙ f, (IsTrueValue-canonical r g p s l).1 v, n)

  -- and any other position has none
  abbrev IsLegalHeld : Type 0
  IsLegalHeld = (r.is_legal p ≡ true) × IsHeld entries p.tier

  none_case : (IsLegalHeld → ⊥) → value_in r entries p ≡ None → (IsSome (value_in r entries p) ↔ IsLegalHeld) × IfSome (value_in r entries p) (IsTrueValue r p)
  none_case n e = (subst (λ o. IsSome o ↔ IsLegalHeld) (sym e) (λ i. absurd (cc), λ k. absurd (n k)), subst (λ o. IfSome o (IsTrueValue r p)) (sym e) tt)

  some_case : (s : Solved) → IsLegalHeld → value_in r entries p ≡ Some s → IsTrueValue r p s → (IsSome (value_in r entries p) ↔ IsLegalHeld) × IfSome
      (value_in r entries p) (IsTrueValue r p)
  some_case s k e v = (subst (λ o. IsSome o ↔ IsLegalHeld) (sym e) (λ i. k, λ i. refl), subst (λ o. IfSome o (IsTrueValue r p)) (sym e) v)

  value_cases : (b : Bool) (o : Option TableData) → AreTables r entries → r.is_legal p ≡ b → table_of entries p.tier ≡ o
      → (IsSome (value_in r entries p) ↔ IsLegalHeld) × IfSome (value_in r entries p) (IsTrueValue r p)
  value_cases false o h l e = none_case (λ k. let f = k.0 in cc) (value_not_legal l)
  value_cases true None h l e = none_case (λ k. let f = subst IsSome e k.1 in cc) (not_held true l e)
  value_cases true (Some t) h l e = let (s, f, v, n) = known_value t h l e in some_case s (l, subst IsSome (sym e) refl) f v

  pub value_known : AreTables r entries → IsSome (value_in r entries p) ↔ ((r.is_legal p ≡ true) × IsHeld entries p.tier)
  value_known h = (value_cases (r.is_legal p) (table_of entries p.tier) h refl refl).0

  pub value_true : AreTables r entries → IfSome (value_in r entries p) (IsTrueValue r p)
  value_true h = (value_cases (r.is_legal p) (table_of entries p.tier) h refl refl).1

-- tables of the child tiers hold the children's values
module _ (r : Rules) (g : IsGame r) (entries : List TableData) (tables : AreTables r entries) where
  held_known : (c : Position) (o : Option TableData) → table_of entries c.tier ≡ o → IsSome o → IsCanonical r c → IsKnown r (value_in r entries) c
  held_known c None e h i = absurd (cc)
  held_known c (Some t) e h i = let (s, f, v, n) = known_value r g entries c t tables i.0 e in known_since r (value_in r entries) c s f v

  pub holds_children : (tier : ℕ) → AreHeld r entries tier → HoldsChildren r tier (value_in r entries)
  holds_children tier h c k i = held_known c (table_of entries c.tier) refl (h c.tier k) i

  -- records fit exactly if they are the true ones
  pub true_iff_fit : (tier : ℕ) (records : List (Option Solved)) → AreHeld r entries tier → IsTrueTable r REMOTENESS tier records ↔ Fits r REMOTENESS tier
      (value_in r entries) records
  true_iff_fit tier records h = true_iff_fits r g tier (value_in r entries) records REMOTENESS (holds_children tier h)

-- the record at an index of a table, also past its end
pub record_is : (r : Rules) (g : IsGame r) (t : TableData) (i : ℕ) → IsTable r t → IsRecord r REMOTENESS (IsTrueValue r) (at t.tier i) (record_at t.records i)
record_is r g t i is = record_cases (slice_get t.records i) refl
  where
    record_cases : (o : Option (Option Solved)) → slice_get t.records i ≡ o → IsRecord r REMOTENESS (IsTrueValue r) (at t.tier i)
        (elim o [ None ↦ None | Some x ↦ x ])
    record_cases None e = λ k. (let inside : i < length t.records = subst (λ n. i < n) (sym is.is_true.whole) (g.index_below (at t.tier i) k.0) in let there
        = slice_get-get_or t.records i None inside in absurd (cc))
    record_cases (Some x) e = is.is_true.each i x e
