-- A level is whole: its tier's runs, and then the child tiers' records, one list after another.
use Rattle.gm_frontier.proofs.Lower.{◌≡◌, ◌≢◌, ℕ, ◌<◌, ◌≤◌, ◌↔◌, ◌⊎◌, inl, inr, Bool, true, List, [], ◌∷◌, ◌++◌, sym, ap, subst, ◌∙◌, arith, AllByRecursion, Contains, flat_map, Contains-append_cases, cases_lt, nat_tests, Position, Place, Rules, IsCanonical, IsAscending, IsGame, is_before, StandsAt, contains_none, contains_first, contains_later, contains_cases, NoteData, RunData, positions, AreInOrder, comes_first, IsLevel, AreRuns}
use Rattle.std.proofs.lemmas.List.Elements.{Contains-append_left, Contains-append_right}
use Rattle.gm_frontier.specs.Levels.{IsInTier, AreNotesOf, IsRunOfNotes, AreTiles, IsInRun}
use Rattle.std.proofs.lemmas.List.{map-append}
use Rattle.gm_game.specs.Places.{IsAtLevel}
use Rattle.gm_table.proofs.Distinct.{ascending_above}
use Rattle.gm_frontier.proofs.OrderLemmas.{in_order_append}

-- the same list in another order that agrees with the first
in_order_change : (one other : Position → Position → Bool) (ps : List Position) → AreInOrder one ps
    → ((p q : Position) → Contains ps p → Contains ps q → one p q ≡ true → other p q ≡ true) → AreInOrder other ps
in_order_change one other [] up agree = tt
in_order_change one other (p ∷ ps) up agree = (
  changed ps up.0 (λ q h. agree p q (contains_first p ps) (contains_later p q ps h)),
  in_order_change one other ps up.1 (λ x y a b. agree x y (contains_later p x ps a) (contains_later p y ps b)),
)
  where
    changed : (qs : List Position) → AllByRecursion (λ q. one p q ≡ true) qs → ((q : Position) → Contains qs q → one p q ≡ true → other p q ≡ true)
        → AllByRecursion (λ q. other p q ≡ true) qs
    changed [] all agree = tt
    changed (q ∷ qs) all agree = (agree q (contains_first q qs) all.0, changed qs all.1 (λ x h. agree x (contains_later q x qs h)))

pub change_order : (r : Rules) (place : Place) (Is : Position → Type 0) (one other : Position → Position → Bool) (notes : List NoteData)
    → AreNotesOf r place Is one notes → ((p q : Position) → Is p → Is q → one p q ≡ true → other p q ≡ true) → AreNotesOf r place Is other notes
change_order r place Is one other notes h agree = record {
  each = h.each;
  noted = h.noted;
  ordered = in_order_change one other (positions notes) h.ordered (λ p q a b. agree p q ((h.each p).1 a) ((h.each q).1 b));
}

-- the notes of two kinds, all of the first before all of the second
pub join_notes : (r : Rules) (place : Place) (A B C : Position → Type 0) (before : Position → Position → Bool) (xs ys : List NoteData)
    → AreNotesOf r place A before xs → AreNotesOf r place B before ys
    → ((c : Position) → (A c ⊎ B c) ↔ C c) → ((p q : Position) → A p → B q → before p q ≡ true) → AreNotesOf r place C before (xs ++ ys)
join_notes r place A B C before xs ys h k both apart =
    let joined : positions (xs ++ ys) ≡ positions xs ++ positions ys = map-append (λ (n : NoteData). n.position) xs ys in
    record {
      each = λ c. (
        (λ (m : C c). subst (λ (ps : List Position). Contains ps c) (sym joined) (elim ((both c).1 m) [
          | inl a ↦ Contains-append_left (positions xs) (positions ys) c ((h.each c).0 a)
          | inr b ↦ Contains-append_right (positions xs) (positions ys) c ((k.each c).0 b)
        ])),
        (λ l. (both c).0 (elim (Contains-append_cases (positions xs) (positions ys) c (subst (λ (ps : List Position). Contains ps c) joined l)) [
          | inl a ↦ inl ((h.each c).1 a)
          | inr b ↦ inr ((k.each c).1 b)
        ])),
      );
      noted = λ n l. elim (Contains-append_cases xs ys n l) [ inl a ↦ h.noted n a | inr b ↦ k.noted n b ];
      ordered = subst (AreInOrder before) (sym joined) (in_order_append before (positions xs) (positions ys) h.ordered k.ordered
          (λ p q a b. apart p q ((h.each p).1 a) ((k.each q).1 b)));
    }

no_notes : (r : Rules) (place : Place) (Is : Position → Type 0) (before : Position → Position → Bool) → ((c : Position) → Is c → ⊥)
    → AreNotesOf r place Is before []
no_notes r place Is before none = record {
  each = λ c. ((λ m. absurd (none c m)), (λ l. absurd (contains_none c l)));
  noted = λ n l. absurd (contains_none n l);
  ordered = tt;
}

-- the order of positions
before_by_index : (p q : Position) (tier : ℕ) → p.tier ≡ tier → q.tier ≡ tier → p.index < q.index → is_before p q ≡ true
before_by_index p q tier a b l = let same : p.tier ≡ q.tier = a ∙ sym b in grind (arith, nat_tests)

before_by_tier : (p q : Position) → p.tier < q.tier → is_before p q ≡ true
before_by_tier p q l = grind (arith, nat_tests)

-- the runs that tile a tier
tiles_ascend : (place : Place) (from to : ℕ) (runs : List RunData) → AreTiles place from to runs → from ≤ to
tiles_ascend place from to [] h = omega arith
tiles_ascend place from to (run ∷ runs) (p, l, m, rest) = let a = tiles_ascend place run.hi to runs rest in omega arith

pub tiled_run : (r : Rules) (place : Place) (from to : ℕ) (runs : List RunData) → AreTiles place from to runs → AreRuns r runs
    → IsRunOfNotes r place from to (flat_map (λ run. run.notes) runs)
tiled_run r place from to [] tiles all = no_notes r place (IsInRun r place from to) is_before (λ c m. (let a = m.low in let b = m.high in omega arith))
tiled_run r place from to (run ∷ runs) (same, low, up, rest) all =
    let own : IsRunOfNotes r place from run.hi run.notes = subst (λ (k : ℕ). IsRunOfNotes r place k run.hi run.notes) low
    (subst (λ (p : Place). IsRunOfNotes r p run.lo run.hi run.notes) same (all run (contains_first run runs))) in
    let later = tiled_run r place run.hi to runs rest (λ x l. all x (contains_later run x runs l)) in
    let end = tiles_ascend place run.hi to runs rest in
    join_notes r place (IsInRun r place from run.hi) (IsInRun r place run.hi to) (IsInRun r place from to) is_before run.notes
    (flat_map (λ x. x.notes) runs) own later
    (λ c. (
      (λ m. elim m [
        | inl a ↦ record { tier = a.tier; low = a.low; high = (let k = a.high in omega arith); canonical = a.canonical; stands = a.stands }
        | inr b ↦ record { tier = b.tier; low = (let k = b.low in omega arith); high = b.high; canonical = b.canonical; stands = b.stands }
      ]),
      (λ m. elim (cases_lt c.index run.hi) [
        | inl k ↦ inl (record { tier = m.tier; low = m.low; high = k; canonical = m.canonical; stands = m.stands })
        | inr k ↦ inr (record { tier = m.tier; low = k; high = m.high; canonical = m.canonical; stands = m.stands })
      ]),
    ))
    (λ p q a b. before_by_index p q place.tier a.tier b.tier (let k = a.high in let l = b.low in omega arith))

-- the child tiers, ascending
abbrev pub IsInTiers : Rules → Place → List ℕ → Position → Type 0
IsInTiers r place tiers c = Contains tiers c.tier × IsCanonical r c × StandsAt r place.phase place.level c

tail_ascends : (t : ℕ) (ts : List ℕ) → IsAscending (t ∷ ts) → IsAscending ts
tail_ascends t [] up = tt
tail_ascends t (u ∷ us) up = up.1

pub tiers_joined : (r : Rules) (place : Place) (notes_in : ℕ → List NoteData) (tiers : List ℕ) → IsAscending tiers
    → ((t : ℕ) → Contains tiers t → AreNotesOf r place (IsInTier r place t) is_before (notes_in t))
    → AreNotesOf r place (IsInTiers r place tiers) is_before (flat_map notes_in tiers)
tiers_joined r place notes_in [] up each = no_notes r place (IsInTiers r place []) is_before (λ c m. contains_none c.tier m.0)
tiers_joined r place notes_in (t ∷ ts) up each =
    join_notes r place (IsInTier r place t) (IsInTiers r place ts) (IsInTiers r place (t ∷ ts)) is_before (notes_in t) (flat_map notes_in ts)
    (each t (contains_first t ts))
    (tiers_joined r place notes_in ts (tail_ascends t ts up) (λ u l. each u (contains_later t u ts l)))
    (λ c. (
      (λ m. elim m [
        | inl a ↦ (subst (λ (u : ℕ). Contains (t ∷ ts) u) (sym a.tier) (contains_first t ts), a.canonical, a.stands)
        | inr (l, a, s) ↦ (contains_later t c.tier ts l, a, s)
      ]),
      (λ (l, a, s). elim (contains_cases t c.tier ts l) [
        | inl e ↦ inl (record { tier = sym e; canonical = a; stands = s })
        | inr k ↦ inr (k, a, s)
      ]),
    ))
    (λ p q a b. before_by_tier p q (let k = ascending_above t ts up q.tier b.0 in let e = a.tier in omega arith))

-- the tier's own positions come first
first_own : (tier : ℕ) (p q : Position) → p.tier ≡ tier → q.tier ≡ tier → is_before p q ≡ true → comes_first tier p q ≡ true
first_own tier p q a b e = grind (arith, nat_tests)

first_below : (tier : ℕ) (p q : Position) → p.tier ≢ tier → q.tier ≢ tier → is_before p q ≡ true → comes_first tier p q ≡ true
first_below tier p q a b e = grind (arith, nat_tests)

first_across : (tier : ℕ) (p q : Position) → p.tier ≡ tier → q.tier ≢ tier → comes_first tier p q ≡ true
first_across tier p q a b = grind (arith, nat_tests)

pub level_joined : (r : Rules) → IsGame r → (place : Place) (own : List NoteData) (notes_in : ℕ → List NoteData) → IsRunOfNotes r place 0
    (r.tier_size place.tier) own
    → ((t : ℕ) → Contains (r.child_tiers place.tier) t → AreNotesOf r place (IsInTier r place t) is_before (notes_in t))
    → IsLevel r place (own ++ flat_map notes_in (r.child_tiers place.tier))
level_joined r g place own notes_in run each =
    let tiers = r.child_tiers place.tier in
    let other : (c : Position) → Contains tiers c.tier → c.tier ≢ place.tier =
    λ c l e. (let k = g.child_rank place.tier c.tier l in let same : r.tier_rank c.tier ≡ r.tier_rank place.tier = ap r.tier_rank e in absurd (omega arith)) in
    let below = tiers_joined r place notes_in tiers (g.child_tiers_ascending place.tier) each in
    join_notes r place (IsInRun r place 0 (r.tier_size place.tier)) (IsInTiers r place tiers) (IsAtLevel r place.tier place.phase place.level)
    (comes_first place.tier) own (flat_map notes_in tiers)
    (change_order r place (IsInRun r place 0 (r.tier_size place.tier)) is_before (comes_first place.tier) own run
    (λ p q a b e. first_own place.tier p q a.tier b.tier e))
    (change_order r place (IsInTiers r place tiers) is_before (comes_first place.tier) (flat_map notes_in tiers) below
    (λ p q a b e. first_below place.tier p q (other p a.0) (other q b.0) e))
    (λ c. (
      (λ m. elim m [
        | inl a ↦ (a.canonical, inl a.tier, a.stands)
        | inr (l, a, s) ↦ (a, inr l, s)
      ]),
      (λ (a, near, s). elim near [
        | inl e ↦ inl (record {
          tier = e;
          low = omega arith;
          high = subst (λ (t : ℕ). c.index < r.tier_size t) e (g.index_below c a.0);
          canonical = a;
          stands = s;
        })
        | inr l ↦ inr (l, a, s)
      ]),
    ))
    (λ p q a b. first_across place.tier p q a.tier (other q b.0))
