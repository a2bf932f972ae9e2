-- The positions found tier by tier, and the tables that they come from.
use Rattle.gamesman.proofs.Lower.{◌≡◌, ℕ, suc, ◌+◌, inl, inr, Bool, List, [], ◌∷◌, ◌++◌, length, take, drop, Option, None, Some, Result, Ok, Err, refl, sym, ap, subst, ◌∙◌, arith, append-nil, take-append-drop, Contains, flat_map, Appends, Keeps, Appends-trans, Appends-kept, Position, Rules, TableData, AppendsPart, part_after, Found, IsFound, AreChosen, PositionSearch, Fault, NoSuchGame, NoSuchPosition, NoSuchPositionInLine, NoSuchGameInLine, NoSuchTier, NoSuchIndex, NotLegal, NotCanonical, OutOfMemory, NotBuilt, AnotherGames, InputFailed, OutputFailed, OutputClosed, TooMuchInput, EngineNotRead, NotAnEngine, GameSpec, IsCutOff, IsMemoryFault, board_row, AreLinesOf, HoldsExactly, IsOrderFrom, first_of}
use Rattle.std.proofs.Common.{zero, ◌-◌, ◌⊎◌, map, ap₂, length-append, MatchOption}
use Rattle.std.proofs.lemmas.Grind.{flat_map-append}
use Rattle.gm_game.proofs.Lists.{contains_none, contains_cases}
use Rattle.gm_tiers.specs.Orders.{IsTierOrder}
use Rattle.gm_play.specs.Reached.{AreAllHeld}
use Rattle.gamesman.proofs.Parts.{appends_none}
use Rattle.gamesman.proofs.Reached.{order_held, reached_held}
use Rattle.gm_find.specs.Founds.{AreFound, HasTriesAsked, found_position}
use Rattle.gm_command.specs.declared.requests.LineForm.{LineForm}
use Rattle.gm_command.specs.declared.requests.Report.{Report}
use Rattle.gm_command.specs.declared.requests.Report.TheVariants.{Lines}
use Rattle.gamesman.specs.Outputs.{IsOutputFault}
use Rattle.gamesman.specs.Finds.{IsTextOf, IsFoundAt, AreTiersFor, IsFoundSoFar, IsLeft, AreFoundWith, IsToldByTier, IsTierTold}
use Rattle.std.proofs.lemmas.List.{map-append, length-map}
use Rattle.std.proofs.lemmas.List.Elements.{All-append}
use Rattle.gm_find.specs.declared.sought.Choice.{Choice}
use Rattle.gm_find.specs.declared.sought.Choice.TheVariants.{First}
use Rattle.gm_find.specs.declared.sought.Sought.{Sought}
use Rattle.gm_find.specs.Lists.{IsFirst}
use Rattle.gm_find.specs.Finding.{IsMatch, all_positions, positions_in}
use Rattle.gm_find.specs.Rows.{found_row}
use Rattle.gm_find.proofs.ListLemmas.{first_append}
use Rattle.gm_json.specs.Founds.{found_line}
use Rattle.gm_command.specs.declared.requests.LineForm.TheVariants.{Rows, Json, Boards}

-- ---- the tables
-- a list of one tier
pub held_one : (r : Rules) (entries : List TableData) (tier : ℕ) → AreAllHeld r entries tier → (t : ℕ) → Contains (tier ∷ []) t → AreAllHeld r entries t
held_one r entries tier held t has = elim (contains_cases tier t [] has) [
  | inl e ↦ subst (AreAllHeld r entries) e held
  | inr c ↦ absurd (contains_none t c)
]

-- the tiers that are searched: the named one, or all of this order
abbrev pub AreTiersOf : Option ℕ → List ℕ → List ℕ → Type 0
AreTiersOf tier order tiers = MatchOption tier (tiers ≡ order) (λ t. tiers ≡ t ∷ [])

module _ (r : Rules) (order tiers : List ℕ) where
  pub tiers_asked : (tier : Option ℕ) → IsOrderFrom r (first_of r tier) order → AreTiersOf tier order tiers → AreTiersFor r tier tiers
  tiers_asked None is same = subst (IsTierOrder r) (sym same) is
  tiers_asked (Some tier) is one = one

  pub tiers_held : (entries : List TableData) (tier : Option ℕ) → IsOrderFrom r (first_of r tier) order → HoldsExactly entries order
      → AreTiersOf tier order tiers → (t : ℕ) → Contains tiers t → AreAllHeld r entries t
  tiers_held entries None is held same t has = order_held r entries order r.initial.tier is held t (subst (λ (ts : List ℕ). Contains ts t) same has)
  tiers_held entries (Some tier) is held one t has =
      held_one r entries tier (reached_held r entries order tier is held) t (subst (λ (ts : List ℕ). Contains ts t) one has)

-- ---- the texts
joined : (f : Found → List ℕ) (xs ys : List Found) (out more : List ℕ) → out ≡ flat_map f xs → more ≡ flat_map f ys → out ++ more ≡ flat_map f (xs ++ ys)
joined f xs ys out more is too = ap₂ (λ (a b : List ℕ). a ++ b) is too ∙ sym (flat_map-append f xs ys)

module _ (g : GameSpec) where
  lines_none : (form : LineForm) → AreLinesOf g form [] []
  lines_none Rows = refl
  lines_none Json = refl
  lines_none Boards = refl

  lines_more : (form : LineForm) (xs ys : List Found) (out more : List ℕ) → AreLinesOf g form xs out → AreLinesOf g form ys more
      → AreLinesOf g form (xs ++ ys) (out ++ more)
  lines_more Rows xs ys out more is too = joined (found_row g.shown g.move_shown) xs ys out more is too
  lines_more Json xs ys out more is too = joined (found_line g.shown g.move_shown) xs ys out more is too
  lines_more Boards xs ys out more is too = joined (board_row g) xs ys out more is too

-- ---- the positions
none_first : {A : Type 0} (P : A → Type 0) (n : ℕ) (xs : List A) → n ≡ 0 → IsFirst P n xs []
none_first P zero [] e = refl
none_first P zero (x ∷ xs) e = refl
none_first P (suc n) xs e = absurd (omega arith)

module _ (r : Rules) (q : Sought) (reached : Bool) (limit : ℕ) where
  found_none : AreFound r q reached limit [] []
  found_none = record { positions = refl; each = λ k d inside. absurd (omega arith); counted = λ k d inside. absurd (omega arith) }

  -- the positions of some tiers and of one more
  found_more : (tiers : List ℕ) (tier : ℕ) (xs ys : List Found) → AreFound r q reached limit tiers xs → AreFound r q reached (limit - length xs) (tier ∷ []) ys
      → AreFound r q reached limit (tiers ++ tier ∷ []) (xs ++ ys)
  found_more tiers tier xs ys h k =
      let P : Position → Type 0 = IsMatch r q reached in
      let one = all_positions r (tier ∷ []) in
      let few = subst (λ (n : ℕ). IsFirst P (limit - n) one (map found_position ys)) (sym (length-map xs found_position)) k.positions in
      let both = first_append P limit (all_positions r tiers) one (map found_position xs) (map found_position ys) h.positions few in
      let named = subst (λ (ps : List Position). IsFirst P limit (all_positions r tiers ++ one) ps) (sym (map-append found_position xs ys)) both in
      record {
        positions = subst (λ (ps : List Position). IsFirst P limit ps (map found_position (xs ++ ys)))
            (sym (flat_map-append (positions_in r) tiers (tier ∷ []))) named;
        each = All-append (IsFound r) xs ys h.each k.each;
        counted = All-append (HasTriesAsked q.tries) xs ys h.counted k.counted;
      }

  -- the limit is reached before the last tier
  found_full : (k : ℕ) (tiers : List ℕ) (xs : List Found) → AreFound r q reached limit (take k tiers) xs → limit - length xs ≡ 0 → AreFound r q reached
      limit tiers xs
  found_full k tiers xs h full =
      let P : Position → Type 0 = IsMatch r q reached in
      let ps = map found_position xs in
      let later = all_positions r (drop k tiers) in
      let none = none_first P (limit - length ps) later (subst (λ (n : ℕ). limit - n ≡ 0) (sym (length-map xs found_position)) full) in
      let both = first_append P limit (all_positions r (take k tiers)) later ps [] h.positions none in
      let all = sym (flat_map-append (positions_in r) (take k tiers) (drop k tiers)) ∙ ap (all_positions r) (take-append-drop k tiers) in
      record {
        positions = subst (λ (zs : List Position). IsFirst P limit zs ps) all (subst
            (λ (zs : List Position). IsFirst P limit (all_positions r (take k tiers) ++ later) zs) (append-nil ps) both);
        each = h.each;
        counted = h.counted;
      }

-- ---- tier by tier
-- the found positions of some tiers are written, and this many more may be
abbrev pub IsSoFar : GameSpec → PositionSearch → LineForm → ℕ → List ℕ → Option (List ℕ) → Option (List ℕ) → ℕ → Type 0
IsSoFar g asked form limit tiers before now left = (xs : List Found) × AreFound g.rules asked.sought asked.reached limit tiers xs × (left ≡ limit - length xs)
    × ((text : List ℕ) × AreLinesOf g form xs text × Appends before now text)

neither : ⊥ ⊎ ⊥ → ⊥
neither (inl x) = x
neither (inr x) = x

module _ (g : GameSpec) (asked : PositionSearch) (form : LineForm) (limit : ℕ) (lines : asked.report ≡ Lines form) (first : asked.choice ≡ First limit) where
  -- lines are the text that is asked for
  as_asked : (xs : List Found) (text : List ℕ) → AreLinesOf g form xs text → IsTextOf g asked.report xs text
  as_asked xs text is = subst (λ (report : Report). IsTextOf g report xs text) (sym lines) is

  pub so_far_none : (o : Option (List ℕ)) → IsSoFar g asked form limit [] o o limit
  so_far_none o = ([], found_none g.rules asked.sought asked.reached limit, omega arith, ([], lines_none g form, appends_none o))

  so_far_more : (tiers : List ℕ) (tier n next left : ℕ) (a b c : Option (List ℕ)) → IsSoFar g asked form limit tiers a b left → IsTierTold g asked form tier left b c
      (Ok n) → next ≡ left - n
      → IsSoFar g asked form limit (tiers ++ tier ∷ []) a c next
  so_far_more tiers tier n next left a b c (xs, are, is, (text, told, put)) (ys, those, many, (more, too, written)) e =
      let long : length (xs ++ ys) ≡ length xs + length ys = length-append xs ys in
      let those_left = subst (λ (k : ℕ). AreFound g.rules asked.sought asked.reached k (tier ∷ []) ys) is those in (
        xs ++ ys,
        found_more g.rules asked.sought asked.reached limit tiers tier xs ys are those_left,
        omega arith,
        (text ++ more, lines_more g form xs ys text more told too, Appends-trans a b c text more put written),
      )

  -- the positions of the next tier are written
  pub next_told : (tiers : List ℕ) (k tier n next left : ℕ) (a b c : Option (List ℕ)) → take (k + 1) tiers ≡ take k tiers ++ tier ∷ [] → IsSoFar g asked form
      limit (take k tiers) a b left
      → IsTierTold g asked form tier left b c (Ok n) → next ≡ left - n → IsSoFar g asked form limit (take (k + 1) tiers) a c next
  next_told tiers k tier n next left a b c longer so_far told e =
      subst (λ (ts : List ℕ). IsSoFar g asked form limit ts a c next) (sym longer) (so_far_more (take k tiers) tier n next left a b c so_far told e)

  chosen : (tiers : List ℕ) (xs : List Found) → AreFound g.rules asked.sought asked.reached limit tiers xs → AreChosen g.rules asked.sought asked.reached
      asked.choice tiers xs
  chosen tiers xs are = subst (λ (choice : Choice). AreChosen g.rules asked.sought asked.reached choice tiers xs)
      (sym first) are

  module _ (IsWhy : Fault → Type 0) (tiers : List ℕ) (are_asked : AreTiersFor g.rules asked.tier tiers) (a b : Option (List ℕ)) where
    -- the positions of all tiers are written
    all_told : (left : ℕ) → IsSoFar g asked form limit tiers a b left → IsToldByTier g asked IsWhy a b (Ok 0)
    all_told left (xs, are, is, (text, told, put)) =
        record { written = (refl, (text, (tiers, are_asked, (xs, chosen tiers xs are, as_asked xs text told)), put)); refused = tt }

    pub end_told : (k left : ℕ) → take k tiers ≡ tiers → IsSoFar g asked form limit (take k tiers) a b left → IsToldByTier g asked IsWhy a b (Ok 0)
    end_told k left e so_far = all_told left (subst (λ (ts : List ℕ). IsSoFar g asked form limit ts a b left) e so_far)

    -- the limit is reached
    pub full_told : (k left : ℕ) → IsSoFar g asked form limit (take k tiers) a b left → left ≡ 0 → IsToldByTier g asked IsWhy a b (Ok 0)
    full_told k left (xs, are, is, told) none = all_told left (xs, found_full g.rules asked.sought asked.reached limit k tiers xs are (sym is ∙ none), is, told)

    module _ (k tier left : ℕ) (c : Option (List ℕ)) (so_far : IsSoFar g asked form limit (take k tiers) a b left)
        (next : take (k + 1) tiers ≡ take k tiers ++ tier ∷ []) where
      -- a write fails in the next tier
      part_told : (text : List ℕ) × IsFoundAt g asked form tier left text × AppendsPart b c text → (text : List ℕ) × IsFoundSoFar g asked text × AppendsPart a c text
      part_told (more, (ys, those, too), part) =
          let (xs, are, is, (text, told, put)) = so_far in
          let those_left = subst (λ (n : ℕ). AreFound g.rules asked.sought asked.reached n (tier ∷ []) ys) is those in
          let all = found_more g.rules asked.sought asked.reached limit (take k tiers) tier xs ys are those_left in
          let here = subst (λ (ts : List ℕ). AreFound g.rules asked.sought asked.reached limit ts (xs ++ ys)) (sym next) all in (
            text ++ more,
            (tiers, are_asked, (k + 1, (xs ++ ys, chosen (take (k + 1) tiers) (xs ++ ys) here, as_asked (xs ++ ys) (text ++ more) (lines_more g form xs ys text more told too)))),
            part_after a b c text more put part,
          )

      -- memory is refused in the next tier
      memory_told : Keeps b c → (text : List ℕ) × IsFoundSoFar g asked text × Appends a c text
      memory_told keeps =
          let (xs, are, is, (text, told, put)) = so_far in
          (text, (tiers, are_asked, (k, (xs, chosen (take k tiers) xs are, as_asked xs text told))), Appends-kept a b c text put keeps)

      left_told : (fault : Fault) → IsCutOff (IsFoundAt g asked form tier left) b c fault → IsOutputFault fault ⊎ IsMemoryFault fault → IsLeft
          (IsFoundSoFar g asked) a c fault
      left_told OutputFailed told why = part_told told
      left_told OutputClosed told why = part_told told
      left_told (OutOfMemory error) told why = inr (memory_told told)
      left_told NoSuchGame told why = absurd (neither why)
      left_told NoSuchPosition told why = absurd (neither why)
      left_told (NoSuchPositionInLine line) told why = absurd (neither why)
      left_told (NoSuchGameInLine line) told why = absurd (neither why)
      left_told (NoSuchTier t) told why = absurd (neither why)
      left_told (NoSuchIndex t i) told why = absurd (neither why)
      left_told (NotLegal t i) told why = absurd (neither why)
      left_told (NotCanonical t i) told why = absurd (neither why)
      left_told (NotBuilt error) told why = absurd (neither why)
      left_told (AnotherGames t) told why = absurd (neither why)
      left_told InputFailed told why = absurd (neither why)
      left_told TooMuchInput told why = absurd (neither why)
      left_told EngineNotRead told why = absurd (neither why)
      left_told NotAnEngine told why = absurd (neither why)

      pub failed_told : ((fault : Fault) → IsMemoryFault fault → IsWhy fault) → (fault : Fault) → IsTierTold g asked form tier left b c (Err fault) →
          IsOutputFault fault ⊎ IsMemoryFault fault
          → IsToldByTier g asked IsWhy a c (Err fault)
      failed_told refused fault told why = record {
        written = left_told fault told why;
        refused = elim why [ inl out ↦ inl out | inr memory ↦ inr (refused fault memory) ];
      }

-- found positions are written as the limit requires
pub found_with : (o p : Option ℕ) (g : GameSpec) (asked : PositionSearch) (IsWhy : Fault → Type 0) (before after : Option (List ℕ))
    (result : Result ℕ Fault) → o ≡ p
    → AreFoundWith o g asked IsWhy before after result → AreFoundWith p g asked IsWhy before after result
found_with o p g asked IsWhy before after result e h = subst (λ (x : Option ℕ). AreFoundWith x g asked IsWhy before after result) e h
