-- What becomes of the texts and tables of the tiers before, when one tier more is built.
use Rattle.gm_build.proofs.Lower.{◌≡◌, ℕ, ◌↔◌, inl, inr, List, [], ◌∷◌, ◌++◌, Some, refl, ap, sym, subst, ◌∙◌, Contains, Rules, TableData, Texts, AreSameBut, HaveTexts, KeepsOthers, HoldsExactly}
use Rattle.std.proofs.Common.{◌≢◌, ◌==◌, ◌⊎◌, true, false, if◌then◌else◌, IsSome, eqb-true, eq-eqb}
use Rattle.std.proofs.lemmas.List.Elements.{Contains-append_left, Contains-push, Contains-push_cases}
use Rattle.gm_build.specs.TrueTexts.{HasText, HasOldText, IsTrueText, IsOldText}
use Rattle.gm_build.specs.Work.{HoldsToo}
use Rattle.gm_table.specs.Tables.{table_of, Inserts, IsHeld}
use Rattle.gm_build.specs.Outcomes.{MayHaveText}
use Rattle.gm_tierdb.specs.StoreTexts.{AreSame}
use Rattle.gm_build.specs.declared.found.Found.{Found}
use Rattle.gm_build.specs.declared.found.Found.TheVariants.{Current, Old, Nothing}
use Rattle.gm_build.specs.Findings.{IsFound, IsEntryFound}

-- an entry that stays the same stays the text of the true table
pub text_kept : (r : Rules) (old new : Texts) (tier : ℕ) → new tier ≡ old tier → HasText r old tier → HasText r new tier
text_kept r old new tier e h = record { bytes = h.bytes; entry = e ∙ h.entry; is_true = h.is_true }

pub old_kept : (r : Rules) (old new : Texts) (tier : ℕ) → new tier ≡ old tier → HasOldText r old tier → HasOldText r new tier
old_kept r old new tier e h = record { bytes = h.bytes; entry = e ∙ h.entry; is_true = h.is_true }

-- what an entry may be, it may be after a read too
pub may_have_text : (r : Rules) (old read new : Texts) (t tier : ℕ) → t ≡ tier → AreSame old read → MayHaveText r read new t → MayHaveText r old new tier
may_have_text r old read new t tier is same here =
    subst (MayHaveText r old new) is (elim here [ inl e ↦ inl (e ∙ same t) | inr h ↦ inr h ])

-- what a text is, the entry is that has it
one_entry : (texts : Texts) (tier : ℕ) (bytes others : List ℕ) → texts tier ≡ Some bytes → texts tier ≡ Some others → others ≡ bytes
one_entry texts tier bytes others e f = let same : Some others ≡ Some bytes = sym f ∙ e in cc

has_text : (r : Rules) (texts : Texts) (tier : ℕ) (bytes : List ℕ) → texts tier ≡ Some bytes → HasText r texts tier ↔ IsTrueText r tier bytes
has_text r texts tier bytes e = (
  λ h. subst (IsTrueText r tier) (one_entry texts tier bytes h.bytes e h.entry) h.is_true,
  λ is. record { bytes = bytes; entry = e; is_true = is },
)

has_old_text : (r : Rules) (texts : Texts) (tier : ℕ) (bytes : List ℕ) → texts tier ≡ Some bytes → HasOldText r texts tier ↔ IsOldText r tier bytes
has_old_text r texts tier bytes e = (
  λ h. subst (IsOldText r tier) (one_entry texts tier bytes h.bytes e h.entry) h.is_true,
  λ is. record { bytes = bytes; entry = e; is_true = is },
)

pub found_in : {G : Type 0} → (r : Rules) (texts : Texts) (tier : ℕ) (bytes : List ℕ) → texts tier ≡ Some bytes → (found : Found G)
    → IsFound r tier bytes found → IsEntryFound r texts tier found
found_in r texts tier bytes e (Current table) is = ((has_text r texts tier bytes e).1 is.0, λ h. is.1 ((has_old_text r texts tier bytes e).0 h))
found_in r texts tier bytes e (Old table) is = ((has_old_text r texts tier bytes e).1 is.0, λ h. is.1 ((has_text r texts tier bytes e).0 h))
found_in r texts tier bytes e Nothing is = (λ h. is.0 ((has_text r texts tier bytes e).0 h), λ h. is.1 ((has_old_text r texts tier bytes e).0 h))

module _ (r : Rules) (front : List ℕ) (tier : ℕ) (fresh : Contains front tier → ⊥) where
  -- the tier's entry is still as at the start
  pub text_as_before : (start old : Texts) → KeepsOthers front start old → HasText r start tier ↔ HasText r old tier
  text_as_before start old others =
      let e : old tier ≡ start tier = others tier fresh in (λ h. text_kept r start old tier e h, λ h. text_kept r old start tier (sym e) h)

  pub old_as_before : (start old : Texts) → KeepsOthers front start old → HasOldText r start tier ↔ HasOldText r old tier
  old_as_before start old others =
      let e : old tier ≡ start tier = others tier fresh in (λ h. old_kept r start old tier e h, λ h. old_kept r old start tier (sym e) h)

  not_here : (t : ℕ) → Contains front t → t ≢ tier
  not_here t i e = fresh (subst (Contains front) e i)

  -- the tiers before keep their texts
  pub texts_kept : (old new : Texts) → HaveTexts r old front → AreSameBut tier old new → HaveTexts r new front
  texts_kept old new have same t i = text_kept r old new t (same t (not_here t i)) (have t i)

  -- and the tier has its own
  pub texts_more : (old new : Texts) → HaveTexts r old front → AreSameBut tier old new → HasText r new tier → HaveTexts r new (front ++ tier ∷ [])
  texts_more old new have same here t i =
      elim (Contains-push_cases front tier t i) [ inl h ↦ texts_kept old new have same t h | inr e ↦ subst (HasText r new) e here ]

  -- all others are as at the start
  pub others_more : (start old new : Texts) → KeepsOthers front start old → AreSameBut tier old new → KeepsOthers (front ++ tier ∷ []) start new
  others_more start old new others same t absent =
      same t (λ e. absent (subst (Contains (front ++ tier ∷ [])) (sym e) (Contains-push front tier)))
      ∙ others t (λ i. absent (Contains-append_left front (tier ∷ []) t i))

-- a table that is inserted is held, and all that were
pub holds_too : (old new : List TableData) (table : TableData) (tier : ℕ) → table.tier ≡ tier → Inserts old new table → HoldsToo tier old new
holds_too old new table tier is inserts t =
    elim (table.tier == t) as (λ b. table.tier == t ≡ b → IsHeld new t ↔ (IsHeld old t ⊎ (tier ≡ t))) [
      | true ↦ λ e. (
        λ h. inr (sym is ∙ eqb-true table.tier t e),
        λ o. subst IsSome (sym (inserts t ∙ ap (λ b. if b then Some table else table_of old t) e)) refl,
      )
      | false ↦ λ e. (
        λ h. inl (subst IsSome (inserts t ∙ ap (λ b. if b then Some table else table_of old t) e) h),
        λ o. elim o [
          | inl h ↦ subst IsSome (sym (inserts t ∙ ap (λ b. if b then Some table else table_of old t) e)) h
          | inr k ↦ absurd (let y : table.tier == t ≡ true = eq-eqb table.tier t (is ∙ k) in cc)
        ],
      )
    ] refl

pub inserted : (old new : List TableData) (table : TableData) (tier : ℕ) → table.tier ≡ tier → Inserts old new table → table_of new tier ≡ Some table
inserted old new table tier is inserts =
    inserts tier ∙ ap (λ b. if b then Some table else table_of old tier) (eq-eqb table.tier tier is)

pub holds_more : (old new : List TableData) (front : List ℕ) (tier : ℕ) → HoldsExactly old front → HoldsToo tier old new → HoldsExactly new (front ++ tier ∷ [])
holds_more old new front tier exact too t = (
  λ h. elim ((too t).0 h) [
    | inl k ↦ Contains-append_left front (tier ∷ []) t ((exact t).0 k)
    | inr e ↦ subst (Contains (front ++ tier ∷ [])) e (Contains-push front tier)
  ],
  λ h. (too t).1 (elim (Contains-push_cases front tier t h) [ inl i ↦ inl ((exact t).1 i) | inr e ↦ inr e ]),
)
