-- A level is the last of its phase if it is empty and the child tiers have nothing from it on.
use Rattle.gm_frontier.proofs.Lower.{◌≡◌, ℕ, ◌<◌, ◌≤◌, ◌↔◌, inl, inr, List, [], ◌∷◌, refl, sym, ap, subst, arith, Some, true, length, get_or, take, Contains, cases_lt, nat_tests, Position, Place, Rules, at, IsCanonical, IsGame, StandsAt, IsLastLevel, contains_none, contains_first, TableData, NoteData, positions, IsLevel, IsBelow}
use Rattle.std.proofs.Common.{nat_lt, IsTrue}
use Rattle.gm_table.specs.Tables.{IsTable, table_of, AreTables}
use Rattle.gm_frontier.specs.Levels.{AreBelow}
use Rattle.gm_game.proofs.Frontier.{none_from_last}
use Rattle.gm_table.specs.Levels.{HasLevel, IsGreatestLevel}
use Rattle.gm_table.proofs.PlaceLemmas.{level_stands}
use Rattle.gm_table.proofs.Distinct.{stands_there}
use Rattle.gm_frontier.proofs.PieceLemmas.{all_taken}

-- a table, by the greatest level of the phase
module _ (r : Rules) (g : IsGame r) (t : TableData) (h : IsTable r t) (place : Place) where
  level_of : (c : Position) (m : ℕ) → c.tier ≡ t.tier → IsCanonical r c → StandsAt r place.phase m c → HasLevel place.phase t.records m
  level_of c m e canonical stands =
      let here : c ≡ at t.tier c.index = ap (λ (u : ℕ). at u c.index) e in
      (level_stands r g t h place.phase m).1 (c.index, subst (IsCanonical r) here canonical, subst (StandsAt r place.phase m) here stands)

  pub below_none : ((n : ℕ) → HasLevel place.phase t.records n → ⊥) → IsBelow r place t.tier
  below_none none c m e canonical stands = absurd (none m (level_of c m e canonical stands))

  pub below_some : (n : ℕ) → IsGreatestLevel place.phase t.records n → (n < place.level) ↔ IsBelow r place t.tier
  below_some n greatest = (
    (λ l c m e canonical stands. (let a = greatest.greatest m (level_of c m e canonical stands) in omega arith)),
    (λ below. (let (i, canonical, stands) = (level_stands r g t h place.phase n).0 greatest.there in below (at t.tier i) n refl canonical stands)),
  )

-- a held tier, by what its table answers
module _ (r : Rules) (g : IsGame r) (entries : List TableData) (h : AreTables r entries) (tier : ℕ) (t : TableData) (e : table_of entries tier ≡ Some t)
    (place : Place) where
  pub held_none : ((n : ℕ) → HasLevel place.phase t.records n → ⊥) → IsBelow r place tier
  held_none none = subst (IsBelow r place) (h tier t e).0 (below_none r g t (h tier t e).1 place none)

  pub held_some : (n : ℕ) → IsGreatestLevel place.phase t.records n → IsTrue (nat_lt n place.level) ↔ IsBelow r place tier
  held_some n greatest =
      let there = subst (λ (u : ℕ). (n < place.level) ↔ IsBelow r place u) (h tier t e).0 (below_some r g t (h tier t e).1 place n greatest) in
      ((λ b. there.0 (lt_from n place.level b)), (λ below. lt_to n place.level (there.1 below)))
    where
      lt_from : (m k : ℕ) → nat_lt m k ≡ true → m < k
      lt_from m k b = grind (arith, nat_tests)

      lt_to : (m k : ℕ) → m < k → nat_lt m k ≡ true
      lt_to m k l = grind (arith, nat_tests)

-- the child tiers, one after another
pub below_end : (r : Rules) (place : Place) (tiers : List ℕ) (i : ℕ) → tiers ≡ r.child_tiers place.tier → length tiers ≤ i
    → ((t : ℕ) → Contains (take i tiers) t → IsBelow r place t) → AreBelow r place
below_end r place tiers i e l h t among = all_taken (IsBelow r place) tiers i l h t (subst (λ (ts : List ℕ). Contains ts t) (sym e) among)

pub below_at : (r : Rules) (place : Place) (tiers : List ℕ) (i : ℕ) → tiers ≡ r.child_tiers place.tier → i < length tiers → AreBelow r place
    → IsBelow r place (get_or tiers i 0)
below_at r place tiers i e l h = h (get_or tiers i 0) (subst (λ (ts : List ℕ). Contains ts (get_or tiers i 0)) e (i, l, stands_there tiers i 0 l))

-- the empty level
pub last_iff : (r : Rules) → IsGame r → (place : Place) (notes : List NoteData) → IsLevel r place notes
    → ((notes ≡ []) × AreBelow r place) ↔ IsLastLevel r place.tier place.phase place.level
last_iff r g place notes level = (
  (λ (empty, below) c m (canonical, near) stands. elim (cases_lt m place.level) [
    | inl l ↦ l
    | inr l ↦ elim near [
      | inl e ↦ absurd (none_from_last r g place.tier place.phase place.level
          (λ d there. contains_none d (subst (λ (ns : List NoteData). Contains (positions ns) d) empty ((level.each d).0 there)))
          (λ d k j among is s. (let b = below d.tier among d k refl is s in omega arith))
          c m canonical e l stands)
      | inr among ↦ (let b = below c.tier among c m refl canonical stands in absurd (omega arith))
    ]
  ]),
  (λ last. (
    none notes (λ c h. (let (canonical, near, stands) = (level.each c).1 h in let l = last c place.level (canonical, near) stands in omega arith)),
    λ t among c m e canonical stands. last c m (canonical, inr (subst (λ (u : ℕ). Contains (r.child_tiers place.tier) u) (sym e) among)) stands,
  )),
)
  where
    none : (ns : List NoteData) → ((c : Position) → Contains (positions ns) c → ⊥) → ns ≡ []
    none [] h = refl
    none (n ∷ ns) h = absurd (h n.position (contains_first n.position (positions ns)))

pub no_notes_left : (notes : List NoteData) → length notes ≤ 0 → notes ≡ []
no_notes_left [] l = refl
no_notes_left (n ∷ ns) l = absurd (omega arith)
