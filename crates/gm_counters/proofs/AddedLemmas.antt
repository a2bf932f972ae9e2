-- What one pair more changes of a state, and what a delivery adds to it.
use Rattle.gm_counters.proofs.Lower.{◌≡◌, ◌≢◌, ℕ, zero, suc, ◌+◌, ◌-◌, inl, inr, List, [], ◌∷◌, length, refl, ap, sym, subst, ◌∙◌, arith, Some, Ok, Err, length-set, Contains, slice_get, cases_eq, Position, Phase, Value, Lose, Draw, Tie, Win, Rules, HasValue, StandsAt, with_position, NoteData, IsNote, phase_of, Fresh, FreshSettled, TooFar, ShardState, IsInRange, delivered_to, with_pair, pairs_in, IsPairHere, Delivers}
use Rattle.std.proofs.Common.{◌⊎◌, Result, get_or-set_same, get_or-set_other, set}
use Rattle.std.proofs.lemmas.List.Sums.{sum_by-set}
use Rattle.std.proofs.lemmas.Option.{same_Some}
use Rattle.gm_game.proofs.SetLemmas.{length_with}
use Rattle.gm_counters.specs.declared.status.Delivery.{Delivery}
use Rattle.gm_counters.specs.declared.status.Delivery.TheVariants.{Repeat}
use Rattle.gm_counters.specs.declared.status.Refused.{Refused}
use Rattle.gm_counters.specs.declared.status.Refused.TheVariants.{NotThisLevel, NotMine, NotAParent}
use Rattle.gm_counters.specs.Delivery.{IsAdded}

-- the item at a place of a list of which one item was changed
pub set_cases : {X : Type 0} (P : X → Type 0) (xs : List X) (k : ℕ) (y : X) (i : ℕ) (x : X) → slice_get (set xs k y) i ≡ Some x → (i ≡ k → P y)
    → (i ≢ k → slice_get xs i ≡ Some x → P x) → P x
set_cases P [] k y i x e same other = absurd (cc)
set_cases P (z ∷ zs) zero y zero x e same other = subst P (same_Some y x e) (same refl)
set_cases P (z ∷ zs) zero y (suc i) x e same other = other (λ h. omega arith) e
set_cases P (z ∷ zs) (suc k) y zero x e same other = other (λ h. omega arith) e
set_cases P (z ∷ zs) (suc k) y (suc i) x e same other = set_cases P zs k y i x e (λ h. same (ap suc h)) (λ n h. other (λ f. n (omega arith)) h)

module _ (s : ShardState) (c : Position) (parent : ℕ) (mine : IsInRange s parent) where
  pub count_same : length (with_pair s c parent).delivered ≡ length s.delivered
  count_same = length-set s.delivered (parent - s.lo) (with_position c (delivered_to s parent))

  pub same_here : delivered_to (with_pair s c parent) parent ≡ with_position c (delivered_to s parent)
  same_here = let a = mine.0 in let b = mine.1 in
      get_or-set_same s.delivered (parent - s.lo) (with_position c (delivered_to s parent)) [] (omega arith)

  pub other_here : (i : ℕ) → IsInRange s i → i ≢ parent → delivered_to (with_pair s c parent) i ≡ delivered_to s i
  other_here i m ne = get_or-set_other s.delivered (parent - s.lo) (i - s.lo) (with_position c (delivered_to s parent)) []
      (λ e. ne (let a = mine.0 in let b = m.0 in omega arith))

  pub range_is : (i : ℕ) → IsInRange (with_pair s c parent) i → IsInRange s i
  range_is i m = (m.0, let e = count_same in let b = m.1 in omega arith)

  pub still_mine : IsInRange (with_pair s c parent) parent
  still_mine = (mine.0, let e = count_same in let b = mine.1 in omega arith)

  -- a fact about what is delivered to an index, by whether it is the parent
  pub cases_at : (P : List Position → Type 0) (i : ℕ) → IsInRange s i → (i ≡ parent → P (with_position c (delivered_to s parent)))
      → (i ≢ parent → P (delivered_to s i)) → P (delivered_to (with_pair s c parent) i)
  cases_at P i m there other = elim (cases_eq i parent) [
    | inl same ↦ subst P (sym same_here ∙ ap (λ (j : ℕ). delivered_to (with_pair s c parent) j) (sym same)) (there same)
    | inr ne ↦ subst P (sym (other_here i m ne)) (other ne)
  ]

  pub pairs_more : (Contains (delivered_to s parent) c → ⊥) → pairs_in (with_pair s c parent) ≡ pairs_in s + 1
  pairs_more new =
      let a = mine.0 in
      let b = mine.1 in
      let e = sum_by-set (length {A = Position}) s.delivered (parent - s.lo) (with_position c (delivered_to s parent)) [] (omega arith) in
      let l = length_with c (delivered_to s parent) new in
      omega arith

-- a value that is no draw is in its phase
pub value_stands : (r : Rules) (p : Position) (v : Value) (n : ℕ) → HasValue r p v n → v ≢ Draw → StandsAt r (phase_of v) n p
value_stands r p Lose n h some = inr h
value_stands r p Draw n h some = absurd (some refl)
value_stands r p Tie n h some = h
value_stands r p Win n h some = inl h

-- a note of the present level is at the present place
pub note_stands : (r : Rules) (s : ShardState) (note : NoteData) (parent : ℕ) → IsNote r note.position note.solved → IsPairHere r s note parent
    → StandsAt r s.phase s.level note.position
note_stands r s note parent is here =
    subst (λ (ph : Phase). StandsAt r ph s.level note.position) here.is_level.0
    (subst (λ (n : ℕ). StandsAt r (phase_of note.solved.value) n note.position) here.is_level.1
    (value_stands r note.position note.solved.value note.solved.remoteness is.value is.decided))

-- a delivery adds its pair, or leaves the state as it was
pub outcome : (r : Rules) (note : NoteData) (parent : ℕ) (s t : ShardState) (answer : Result Delivery Refused) → Delivers r note parent s t answer
    → (IsAdded answer × (t ≡ with_pair s note.position parent) × IsPairHere r s note parent × (Contains (delivered_to s parent) note.position → ⊥))
    ⊎ ((IsAdded answer → ⊥) × (t ≡ s))
outcome r note parent s t (Ok Fresh) d = inl (tt, d.0, d.1, d.2)
outcome r note parent s t (Ok FreshSettled) d = inl (tt, d.0, d.1, d.2)
outcome r note parent s t (Ok Repeat) d = inr (λ a. a, d.0)
outcome r note parent s t (Err NotThisLevel) d = inr (λ a. a, d.0)
outcome r note parent s t (Err NotMine) d = inr (λ a. a, d.0)
outcome r note parent s t (Err NotAParent) d = inr (λ a. a, d.0)
outcome r note parent s t (Err TooFar) d = inr (λ a. a, d.0)
