-- Tables stay closed when a table is added whose child tiers are held.
use Rattle.gm_engine.proofs.Lower.{◌≡◌, ℕ, inr, suc, List, [], Some, ap, sym, subst, ◌∙◌, Rules, TableData, AreClosed}
use Rattle.std.proofs.Common.{◌==◌, ◌⊎◌, ◌↔◌, inl, zero, true, false, if◌then◌else◌, IsSome, refl, eqb-true, eq-eqb}
use Rattle.gm_table.specs.Tables.{table_of, Inserts, IsHeld, AreHeld}
use Rattle.gm_play.specs.Reached.{IsBelow}

module _ (old new : List TableData) (table : TableData) (inserts : Inserts old new table) where
  pub held_too : (t : ℕ) → IsHeld new t ↔ (IsHeld old t ⊎ (table.tier ≡ t))
  held_too t =
      elim (table.tier == t) as (λ b. table.tier == t ≡ b → IsHeld new t ↔ (IsHeld old t ⊎ (table.tier ≡ t))) [
        | true ↦ λ e. (
          λ h. inr (eqb-true table.tier t e),
          λ o. subst IsSome (sym (inserts t ∙ ap (λ b. if b then Some table else table_of old t) e)) refl,
        )
        | false ↦ λ e. (
          λ h. inl (subst IsSome (inserts t ∙ ap (λ b. if b then Some table else table_of old t) e) h),
          λ o. elim o [
            | inl h ↦ subst IsSome (sym (inserts t ∙ ap (λ b. if b then Some table else table_of old t) e)) h
            | inr k ↦ absurd (let y : table.tier == t ≡ true = eq-eqb table.tier t k in cc)
          ],
        )
      ] refl

  module _ (r : Rules) (closed : AreClosed r old) (children : AreHeld r old table.tier) where
    below : (n u : ℕ) → IsBelow r n table.tier u → IsHeld new u
    below zero u e = (held_too u).1 (inr e)
    below (suc n) u (child, has, b) = (held_too u).1 (inl (closed child (children child has) n u b))

    pub closed_more : AreClosed r new
    closed_more t h n u b = elim ((held_too t).0 h) [
      | inl was ↦ (held_too u).1 (inl (closed t was n u b))
      | inr same ↦ below n u (subst (λ (v : ℕ). IsBelow r n v u) (sym same) b)
    ]

pub closed_none : (r : Rules) → AreClosed r []
closed_none r t h n u b = absurd (let none : ⊥ = cc in none)
