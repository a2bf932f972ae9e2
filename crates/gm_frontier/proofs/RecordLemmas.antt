-- The notes of a table's records at a place are those of the positions that are there.
use Rattle.gm_frontier.proofs.Lower.{◌≡◌, ◌≢◌, ℕ, ◌<◌, ◌↔◌, inl, inr, true, List, [], ◌∷◌, map, length, get_or, refl, sym, ap, subst, ◌∙◌, arith, Option, None, Some, slice_get, AllByRecursion, Contains, slice_get-get_or, nat_tests, Position, Solved, Lose, Draw, Tie, Win, Phase, WinLose, Ties, Place, Rules, at, IsCanonical, IsAscending, IsGame, IsTrueValue, is_before, StandsAt, contains_first, contains_later, map_from, map_in, TableData, IsNoteAt, positions, AreInOrder, IsChildPart}
use Rattle.std.proofs.Common.{IsSome, unwrap_or}
use Rattle.gm_game.specs.declared.position.Value.{Value}
use Rattle.gm_game.specs.Values.{HasValue}
use Rattle.gm_game.specs.Records.{solved}
use Rattle.gm_game.proofs.Basic.{HasValue_once}
use Rattle.gm_table.specs.Tables.{IsTable, record_at, table_of, AreTables, IsHeld}
use Rattle.gm_frontier.specs.Notes.{IsNote, phase_of}
use Rattle.gm_frontier.specs.Levels.{IsInTier, AreNotesOf}
use Rattle.gm_frontier.specs.inner.Records.{note_of, notes_at, IsRecorded, AreRecorded}
use Rattle.gm_table.proofs.Distinct.{ascending_above}

-- what the place of a position says of its value
record Stands (s : Solved) (phase : Phase) (n : ℕ) : Type 0 where
  decided : s.value ≢ Draw
  own_phase : phase_of s.value ≡ phase
  own_level : s.remoteness ≡ n

stands_as : (r : Rules) (p : Position) (s : Solved) (v : Value) (n : ℕ) → IsTrueValue r p s → HasValue r p v n → v ≢ Draw → Stands s (phase_of v) n
stands_as r p s v n a b open' = let (e, f) = HasValue_once r p s.value v s.remoteness n a b in
    record { decided = λ d. open' (sym e ∙ d); own_phase = ap phase_of e; own_level = f }

stands_by : (r : Rules) (p : Position) (s : Solved) (phase : Phase) (n : ℕ) → IsTrueValue r p s → StandsAt r phase n p → Stands s phase n
stands_by r p s WinLose n a (inl h) = stands_as r p s Win n a h (λ e. cc)
stands_by r p s WinLose n a (inr h) = stands_as r p s Lose n a h (λ e. cc)
stands_by r p s Ties n a h = stands_as r p s Tie n a h (λ e. cc)

-- ascending indexes of a tier are positions in order
pub at_in_order : (tier : ℕ) (is : List ℕ) → IsAscending is → AreInOrder is_before (map (at tier) is)
at_in_order tier [] up = tt
at_in_order tier (i ∷ is) up = (all_after i is (ascending_above i is up), at_in_order tier is (tail i is up))
  where
    tail : (i : ℕ) (is : List ℕ) → IsAscending (i ∷ is) → IsAscending is
    tail i [] up = tt
    tail i (j ∷ js) up = up.1

    before_at : (i j : ℕ) → i < j → is_before (at tier i) (at tier j) ≡ true
    before_at i j l = grind (arith, nat_tests)

    all_after : (i : ℕ) (js : List ℕ) → ((j : ℕ) → Contains js j → i < j) → AllByRecursion (λ q. is_before (at tier i) q ≡ true) (map (at tier) js)
    all_after i [] h = tt
    all_after i (j ∷ js) h = (before_at i j (h j (contains_first j js)), all_after i js (λ k l. h k (contains_later j k js l)))

positions-notes_at : (t : TableData) (is : List ℕ) → positions (notes_at t is) ≡ map (at t.tier) is
positions-notes_at t [] = refl
positions-notes_at t (i ∷ is) = ap (λ (ps : List Position). at t.tier i ∷ ps) (positions-notes_at t is)

module _ (r : Rules) (g : IsGame r) (t : TableData) (h : IsTable r t) (place : Place) where
  -- the record of a canonical position that is at the place
  record_there : (i : ℕ) (o : Option Solved) → record_at t.records i ≡ o → slice_get t.records i ≡ Some o → IsCanonical r (at t.tier i)
      → StandsAt r place.phase place.level (at t.tier i) → IsRecorded r t i × IsNoteAt r place (note_of t i)
  record_there i None e l c s = absurd (h.is_true.each i None l c)
  record_there i (Some x) e l c s =
      let (canonical, value, small) = h.is_true.each i (Some x) l in
      let stands = stands_by r (at t.tier i) x place.phase place.level value s in
      let same : (note_of t i).solved ≡ x = ap (λ (o : Option Solved). unwrap_or o (solved Draw 0)) e in
      let note : IsNote r (at t.tier i) (note_of t i).solved =
      subst (IsNote r (at t.tier i)) (sym same) (record { canonical = canonical; value = value; decided = stands.decided }) in (
        (subst IsSome (sym e) refl, note),
        record {
          note = note;
          phase = subst (λ (y : Solved). phase_of y.value ≡ place.phase) (sym same) stands.own_phase;
          level = subst (λ (y : Solved). y.remoteness ≡ place.level) (sym same) stands.own_level;
        },
      )

  noted_there : (i : ℕ) → IsCanonical r (at t.tier i) → StandsAt r place.phase place.level (at t.tier i) → IsRecorded r t i × IsNoteAt r place (note_of t i)
  noted_there i c s =
      let below : i < length t.records = subst (λ (m : ℕ). i < m) (sym h.is_true.whole) (g.index_below (at t.tier i) c.0) in
      let there : slice_get t.records i ≡ Some (get_or t.records i None) = slice_get-get_or t.records i None below in
      record_there i (get_or t.records i None) (ap (λ (o : Option (Option Solved)). elim o [ None ↦ None | Some x ↦ x ]) there) there c s

  module _ (is : List ℕ) (up : IsAscending is) (exact : (i : ℕ)
      → Contains is i ↔ (IsCanonical r (at t.tier i) × StandsAt r place.phase place.level (at t.tier i))) where
    pub are_recorded : AreRecorded r t is
    are_recorded i l = (noted_there i ((exact i).0 l).0 ((exact i).0 l).1).0

    positions_at : positions (notes_at t is) ≡ map (at t.tier) is
    positions_at = positions-notes_at t is

    pub are_notes : AreNotesOf r place (IsInTier r place t.tier) is_before (notes_at t is)
    are_notes = record {
      each = λ c. (
        (λ m. subst (λ (ps : List Position). Contains ps c) (sym positions_at)
            (let here : at t.tier c.index ≡ c = ap (λ (u : ℕ). at u c.index) (sym m.tier) in
            let there = (exact c.index).1 (subst (λ (p : Position). IsCanonical r p × StandsAt r place.phase place.level p) (sym here)
            (m.canonical, m.stands)) in
            subst (λ (p : Position). Contains (map (at t.tier) is) p) here (map_from (at t.tier) is c.index there))),
        (λ l. (let (i, k, e) = map_in (at t.tier) is c (subst (λ (ps : List Position). Contains ps c) positions_at l) in
            let there = (exact i).0 k in
            record {
              tier = sym (ap (λ (p : Position). p.tier) e);
              canonical = subst (IsCanonical r) e there.0;
              stands = subst (StandsAt r place.phase place.level) e there.1;
            })),
      );
      noted = λ n l. (let (i, k, e) = map_in (note_of t) is n l in subst (IsNoteAt r place) e (noted_there i ((exact i).0 k).0 ((exact i).0 k).1).1);
      ordered = subst (AreInOrder is_before) (sym positions_at) (at_in_order t.tier is up);
    }

-- in a held table of a tier
module _ (r : Rules) (g : IsGame r) (entries : List TableData) (h : AreTables r entries) (tier : ℕ) (t : TableData) (e : table_of entries tier ≡ Some t)
    (place : Place) (is : List ℕ) (up : IsAscending is)
    (exact : (i : ℕ) → Contains is i ↔ (IsHeld entries tier × IsCanonical r (at tier i) × StandsAt r place.phase place.level (at tier i))) where
  exact_there : (i : ℕ) → Contains is i ↔ (IsCanonical r (at t.tier i) × StandsAt r place.phase place.level (at t.tier i))
  exact_there i =
      let same : t.tier ≡ tier = (h tier t e).0 in (
        (λ l. (let (held, c, s) = (exact i).0 l in subst (λ (u : ℕ). IsCanonical r (at u i) × StandsAt r place.phase place.level (at u i)) (sym same) (c, s))),
        (λ k. (let (c, s) = subst (λ (u : ℕ). IsCanonical r (at u i) × StandsAt r place.phase place.level (at u i)) same k in
            (exact i).1 (subst IsSome (sym e) refl, c, s))),
      )

  pub child_recorded : AreRecorded r t is
  child_recorded = are_recorded r g t (h tier t e).1 place is up exact_there

  pub child_notes : IsChildPart r place tier (notes_at t is)
  child_notes =
      let same : t.tier ≡ tier = (h tier t e).0 in
      let table = (h tier t e).1 in
      record {
        small = (let size : length t.records ≡ r.tier_size tier = table.is_true.whole ∙ ap r.tier_size same in let small = table.is_small in omega arith);
        whole = subst (λ (u : ℕ). AreNotesOf r place (IsInTier r place u) is_before (notes_at t is)) same (are_notes r g t table place is up exact_there);
      }
