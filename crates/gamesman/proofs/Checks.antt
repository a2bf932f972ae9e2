-- The output of a check so far.
use Rattle.gamesman.proofs.Lower.{◌≡◌, ℕ, suc, ◌<◌, inl, inr, List, [], ◌∷◌, ◌++◌, length, take, drop, get_or, Option, Ok, refl, sym, ap, subst, ◌∙◌, append_assoc, append-nil, take-append-drop, Contains, Appends, Appends-trans, Appends-kept, Rules, TableData, HoldsExactly, part_after, Fault, Bool}
use Rattle.std.proofs.KnownBytes.{Appends-nil}
use Rattle.gm_game.proofs.Lists.{contains_none, contains_cases, contains_first, contains_later}
use Rattle.gm_build.specs.declared.inspect.TierState.TheVariants.{NoFile, Right, Missing, NotChecked, NoTable}
use Rattle.std.proofs.Common.{drop-cons, IsTrue}
use Rattle.gm_table.specs.Tables.{AreTables}
use Rattle.gm_build.specs.Work.{HoldsToo}
use Rattle.gm_build.specs.declared.inspect.TierState.{TierState}
use Rattle.gamesman.specs.Checking.{tier_line, right_with, status_with, IsFoundAfter, AreLines, IsTierCut, IsCheckCut, IsCheckOf}
use Rattle.gm_tierdb.specs.StoreTexts.{AreSame, StoreView, store_view, Texts}
use Rattle.gm_build.specs.Inspections.{IsTierState, HoldsWith}

-- reads change no text
pub state_before : (r : Rules) (entries : List TableData) (b : Bool) (start now : Texts) (tier : ℕ) (state : TierState) → (IsTrue b → AreSame start now)
    → IsTierState r entries (store_view b now) tier state → IsTierState r entries (store_view b start) tier state
state_before r entries b start now tier state same (inl none) = inl none
state_before r entries b start now tier state same (inr (held, (read, is, found))) = inr (held, (read, (λ reads. is reads ∙ same reads tier), found))

pub cut_before : (r : Rules) (entries : List TableData) (json b : Bool) (start now : Texts) (tier : ℕ) (before after : Option (List ℕ)) (fault : Fault)
    → (IsTrue b → AreSame start now) → IsTierCut r entries (store_view b now) json tier before after fault
    → IsTierCut r entries (store_view b start) json tier before after fault
cut_before r entries json b start now tier before after fault same (inl unread) = inl unread
cut_before r entries json b start now tier before after fault same (inr (state, is, failed, part)) =
    inr (state, state_before r entries b start now tier state same is, failed, part)

-- no tier is right before the first
pub none_held : HoldsExactly [] []
none_held tier = (λ held. absurd (cc), λ has. absurd (contains_none tier has))

-- the tables that are held, after one more tier that is right
one_more_held : (old new : List TableData) (tier : ℕ) (right : List ℕ) → HoldsToo tier old new → HoldsExactly old right → HoldsExactly new (tier ∷ right)
one_more_held old new tier right too held t = (
  λ h. elim ((too t).0 h) [
    | inl before ↦ contains_later tier t right ((held t).0 before)
    | inr e ↦ subst (Contains (tier ∷ right)) e (contains_first tier right)
  ],
  λ has. (too t).1 (elim (contains_cases tier t right has) [ inl e ↦ inr e | inr later ↦ inl ((held t).1 later) ]),
)

-- and after one more tier
held_with : (old new : List TableData) (tier : ℕ) (state : TierState) (right : List ℕ) → HoldsWith tier state old new → HoldsExactly old right
    → HoldsExactly new (right_with tier state right)
held_with old new tier Right right too held = one_more_held old new tier right too held
held_with old new tier Missing right same held = subst (λ (entries : List TableData). HoldsExactly entries right) (sym same) held
held_with old new tier NotChecked right same held = subst (λ (entries : List TableData). HoldsExactly entries right) (sym same) held
held_with old new tier (NoFile why) right same held = subst (λ (entries : List TableData). HoldsExactly entries right) (sym same) held
held_with old new tier (NoTable why) right same held = subst (λ (entries : List TableData). HoldsExactly entries right) (sym same) held

-- the lines of these tiers are written, and those of further tiers continue from here
abbrev pub Continues : Rules → StoreView → Bool → List ℕ → List ℕ → List ℕ → ℕ → Type 0
Continues r store json done out right status = (tiers rest : List ℕ) (ends : ℕ) → AreLines r store json right status tiers rest ends → AreLines r store json [] 0 (done ++ tiers)
    (out ++ rest) ends

continues_next : (r : Rules) (store : StoreView) (json : Bool) (done out right : List ℕ) (status tier : ℕ) (state : TierState) → IsFoundAfter r store right tier state
    → Continues r store json done out right status
    → Continues r store json (done ++ tier ∷ []) (out ++ tier_line json tier state) (right_with tier state right) (status_with status state)
continues_next r store json done out right status tier state found so_far tiers rest ends are =
    let line = tier_line json tier state in
    let h = so_far (tier ∷ tiers) (line ++ rest) ends (state, rest, found, are, refl) in
    subst (λ (ts : List ℕ). AreLines r store json [] 0 ts ((out ++ line) ++ rest) ends) (sym (append_assoc done (tier ∷ []) tiers))
    (subst (λ (o : List ℕ). AreLines r store json [] 0 (done ++ tier ∷ tiers) o ends) (sym (append_assoc out line rest)) h)

-- all lines of these tiers
continues_none : (r : Rules) (store : StoreView) (json : Bool) (done out right : List ℕ) (status : ℕ) → Continues r store json done out right status
    → AreLines r store json [] 0 done out status
continues_none r store json done out right status so_far =
    subst (λ (ts : List ℕ). AreLines r store json [] 0 ts out status) (append-nil done)
    (subst (λ (o : List ℕ). AreLines r store json [] 0 (done ++ []) o status) (append-nil out) (so_far [] [] status (refl, refl)))

-- the lines of these tiers are written, and the tables of those that are right are held
pub record IsToldTo (r : Rules) (store : StoreView) (json : Bool) (done : List ℕ) (before after : Option (List ℕ)) (entries : List TableData) (status : ℕ) : Type 0 where
  pub out : List ℕ
  pub right : List ℕ
  pub written : Appends before after out
  pub held : HoldsExactly entries right
  pub continues : Continues r store json done out right status

module _ (r : Rules) (store : StoreView) (json : Bool) (entries : List TableData) (done : List ℕ) (tier status : ℕ) (a b c : Option (List ℕ)) (are : AreTables r entries)
    (so_far : IsToldTo r store json done a b entries status) where
  found_after : (state : TierState) → IsTierState r entries store tier state → IsFoundAfter r store so_far.right tier state
  found_after state is = (entries, are, so_far.held, is)

  -- one more line
  pub told_next : (new : List TableData) (state : TierState) → IsTierState r entries store tier state → Appends b c (tier_line json tier state)
      → HoldsWith tier state entries new → IsToldTo r store json (done ++ tier ∷ []) a c new (status_with status state)
  told_next new state is line held = record {
    out = so_far.out ++ tier_line json tier state;
    right = right_with tier state so_far.right;
    written = Appends-trans a b c so_far.out (tier_line json tier state) so_far.written line;
    held = held_with entries new tier state so_far.right held so_far.held;
    continues = continues_next r store json done so_far.out so_far.right status tier state (found_after state is) so_far.continues;
  }

  lines_next : (state : TierState) → IsTierState r entries store tier state → AreLines r store json [] 0 (done ++ tier ∷ []) (so_far.out ++ tier_line json tier state)
      (status_with status state)
  lines_next state is =
      continues_none r store json (done ++ tier ∷ []) (so_far.out ++ tier_line json tier state) (right_with tier state so_far.right) (status_with status state)
      (continues_next r store json done so_far.out so_far.right status tier state (found_after state is) so_far.continues)

  -- the check ends at a tier
  pub cut_at : (tiers left : List ℕ) (fault : Fault) → tiers ≡ done ++ tier ∷ left → IsTierCut r entries store json tier b c fault → IsCheckCut r store json tiers a c fault
  cut_at tiers left fault split (inl (unread, keeps)) = record {
    done = done;
    left = tier ∷ left;
    split = split;
    out = so_far.out;
    status = status;
    lines = continues_none r store json done so_far.out so_far.right status so_far.continues;
    written = inr (unread, Appends-kept a b c so_far.out so_far.written keeps);
  }
  cut_at tiers left fault split (inr (state, is, failed, part)) = record {
    done = done ++ tier ∷ [];
    left = left;
    split = split ∙ sym (append_assoc done (tier ∷ []) left);
    out = so_far.out ++ tier_line json tier state;
    status = status_with status state;
    lines = lines_next state is;
    written = inl (failed, part_after a b c so_far.out (tier_line json tier state) so_far.written part);
  }

-- all lines are written
pub told_all : (r : Rules) (store : StoreView) (json : Bool) (tiers : List ℕ) (a b : Option (List ℕ)) (entries : List TableData) (status : ℕ)
    → IsToldTo r store json tiers a b entries status → IsCheckOf r store json tiers a b (Ok status)
told_all r store json tiers a b entries status so_far = (so_far.out, continues_none r store json tiers so_far.out so_far.right status so_far.continues, so_far.written)

-- no line is written
pub told_none : (r : Rules) (store : StoreView) (json : Bool) (a : Option (List ℕ)) (entries : List TableData) → HoldsExactly entries [] → IsToldTo r store json [] a a entries 0
told_none r store json a entries held = record {
  out = [];
  right = [];
  written = Appends-nil a;
  held = held;
  continues = λ tiers rest ends are. are;
}

-- a list as its first part, the element at a place, and the rest
pub split_at : (tiers : List ℕ) (k : ℕ) → k < length tiers → tiers ≡ take k tiers ++ get_or tiers k 0 ∷ drop (suc k) tiers
split_at tiers k inside = sym (take-append-drop k tiers) ∙ ap (λ (l : List ℕ). take k tiers ++ l) (drop-cons tiers k 0 inside)
