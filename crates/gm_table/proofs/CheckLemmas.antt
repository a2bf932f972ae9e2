-- What a checked position's canonical children say, and the records that fit.
use Rattle.gm_table.proofs.Lower.{◌≡◌, ◌≢◌, ◌==◌, ℕ, ◌<◌, ◌+◌, true, false, Bool, ne_eqb, eq-eqb, eqb-true, if◌then◌else◌, List, [], ◌∷◌, map, length, get_or, refl, sym, ap, ◌∙◌, subst, arith, inl, inr, Option, None, Some, Summary, IsSummary, same_Some, slice_get-get_or, Position, Solved, Rules, at, IsCanonical, IsGame, AreResults, TableData, table_of, record_at, record_of, value_in, look_up, RecordFits, IsFirstWrong, FitBetween}
use Rattle.std.proofs.Common.{MatchOption}
use Rattle.std.specs.Option.{is_some}
use Rattle.std.proofs.lemmas.Bool.{cases_eq}
use Rattle.std.proofs.lemmas.Option.{slice_get_within}
use Rattle.std.proofs.lemmas.List.Elements.{Contains-get_or}
use Rattle.gm_game.specs.declared.position.End.{End}
use Rattle.gm_game.specs.Records.{settle, settled_by, from_end}
use Rattle.gm_game.proofs.Symmetry.{near_child}
use Rattle.gm_game.proofs.Sets.{settled_by_list}
use Rattle.gm_table.specs.Tables.{record_in}
use Rattle.gm_table.specs.Checks.{FitsAt, IsFirstWrongIn}

-- a canonical child is canonical
pub child_canonical : (r : Rules) (g : IsGame r) (p : Position) (cs : List Position) (i : ℕ) (d : Position) → r.is_legal p ≡ true → AreResults r p cs → i <
    length cs → IsCanonical r (get_or cs i d)
child_canonical r g p cs i d l h n = (near_child r g p.tier p (get_or cs i d) refl l ((h (get_or cs i d)).0 (Contains-get_or cs i d n))).0

-- what the canonical children say is what the rules give
pub settled_results : (r : Rules) (look : Position → Option Solved) (p : Position) (cs : List Position) (seen : Summary) → r.primitive p ≡ None
    → AreResults r p cs → IsSummary (map look cs) seen → settle seen.lost seen.won seen.tied ≡ settled_by r look p
settled_results r look p cs seen o are sum =
    let lost = sum.lost in
    let won = sum.won in
    let tied = sum.tied in
    let same = settled_by_list r look p cs o are in
    cc

pub settled_at_end : (r : Rules) (look : Position → Option Solved) (p : Position) (e : End) → r.primitive p ≡ Some e → from_end e ≡ settled_by r look p
settled_at_end r look p e o = rw (o, settled_by) refl

-- the value of a canonical position is the record of its tier's table
pub value_canonical : (r : Rules) (entries : List TableData) (c : Position) → IsCanonical r c → value_in r entries c ≡ record_in entries c
value_canonical r entries c (legal, same) = rw (legal, same) refl

-- what is known of one record, for the record at an index
module _ (r : Rules) (entries : List TableData) (tier : ℕ) (records : List (Option Solved)) where
  pub fits_at : (i : ℕ) (d : Option Solved) → i < length records → RecordFits r entries tier records (at tier i) (get_or records i d) → FitsAt r entries
      tier records i
  fits_at i d l h o e = let same = same_Some (get_or records i d) o (sym (slice_get-get_or records i d l) ∙ e) in subst
      (RecordFits r entries tier records (at tier i)) same h

  pub wrong_at : (i : ℕ) (d : Option Solved) → i < length records → (RecordFits r entries tier records (at tier i) (get_or records i d) → ⊥) → FitsAt r
      entries tier records i → ⊥
  wrong_at i d l h f = h (f (get_or records i d) (slice_get-get_or records i d l))

  -- at an index that is not one of a canonical position no record fits but none
  pub hole_fits : (i : ℕ) (o : Option Solved) → (IsCanonical r (at tier i) → ⊥) → is_some o ≡ false → RecordFits r entries tier records (at tier i) o
  hole_fits i None hole e = hole
  hole_fits i (Some s) hole e = absurd (cc)

  pub hole_filled : (i : ℕ) (o : Option Solved) → (IsCanonical r (at tier i) → ⊥) → is_some o ≡ true → RecordFits r entries tier records (at tier i) o → ⊥
  hole_filled i None hole e = absurd (cc)
  hole_filled i (Some s) hole e = λ h. hole h.0

  -- one record more fits
  pub fit_more : (lo i : ℕ) → FitBetween r entries tier records lo i → FitsAt r entries tier records i → FitBetween r entries tier records lo (i + 1)
  fit_more lo i h f k l u = elim (cases_eq k i) [ inl e ↦ subst (FitsAt r entries tier records) (sym e) f | inr o ↦ h k l (omega arith) ]

  -- all of the records
  pub first_of_all : (first : Option ℕ) → IsFirstWrongIn r entries tier records 0 (length records) first → MatchOption first
      ((i : ℕ) → FitsAt r entries tier records i) (IsFirstWrong r entries tier records)
  first_of_all None h = λ i o e. (let inside = slice_get_within records i o e in h i (omega arith) inside o e)
  first_of_all (Some w) h = record { there = h.1; wrong = h.2; before = λ i l. h.3 i (omega arith) l }

  -- what is looked up in the tier itself
  pub look_up_own : (c : Position) (o : Option Solved) → c.tier ≡ tier → o ≡ record_at records c.index → o ≡ look_up r entries tier records c
  look_up_own c o same e =
      e ∙ sym (ap (λ (b : Bool). elim b [ true ↦ record_at records c.index | false ↦ value_in r entries c ]) (eq-eqb c.tier tier same))

  -- what is looked up in another tier
  pub look_up_value : (c : Position) (o : Option Solved) → c.tier ≢ tier → o ≡ value_in r entries c → o ≡ look_up r entries tier records c
  look_up_value c o other known = known
      ∙ sym (ap (λ (b : Bool). elim b [ true ↦ record_at records c.index | false ↦ value_in r entries c ]) (ne_eqb c.tier tier other))

  pub look_up_else : (c : Position) (o : Option Solved) (t : Option TableData) → IsCanonical r c → c.tier ≢ tier → t ≡ table_of entries c.tier → o ≡
      record_of t c.index → o ≡ look_up r entries tier records c
  look_up_else c o t is other held e = look_up_value c o other
      (e ∙ ap (λ (x : Option TableData). record_of x c.index) held ∙ read (table_of entries c.tier) refl ∙ sym (value_canonical r entries c is))
    where
      read : (x : Option TableData) → table_of entries c.tier ≡ x → record_of x c.index ≡ record_in entries c
      read None q = sym (ap (λ (y : Option TableData). elim y [ None ↦ None | Some u ↦ record_at u.records c.index ]) q)
      read (Some u) q = sym (ap (λ (y : Option TableData). elim y [ None ↦ None | Some v ↦ record_at v.records c.index ]) q)

-- the table that is found for a tier is the tier's
pub found_tier : (entries : List TableData) (tier : ℕ) (t : TableData) → table_of entries tier ≡ Some t → t.tier ≡ tier
found_tier [] tier t e = absurd (cc)
found_tier (x ∷ xs) tier t e = go (x.tier == tier) refl e (found_tier xs tier t)
  where
    go : (b : Bool) → (x.tier == tier) ≡ b → (if b then Some x else table_of xs tier) ≡ Some t → (table_of xs tier ≡ Some t → t.tier ≡ tier) → t.tier ≡ tier
    go true q s rest = let same = same_Some x t s in subst (λ (u : TableData). u.tier ≡ tier) same (eqb-true x.tier tier q)
    go false q s rest = rest s
