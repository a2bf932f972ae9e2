use Rattle.gm_table.proofs.Lower.{ℕ, List, refl, sym, subst, ◌∙◌, arith, Contains, IsHeld}
use Rattle.std.proofs.Common.{below_more}
use Rattle.std.proofs.lemmas.Grind.{get_or_default_zero}
use Rattle.gm_table.proofs.tables.Tables.has_children.Goals as goal

pub loop-child-preserved : goal.loop-child-preserved
loop-child-preserved g c = below_more _ _ c.loop-child.invariant (c.has.ensures.value.0 c.if-not-has.false)

pub returns-clause-value : goal.returns-clause-value
returns-clause-value g c = (
  (λ b child among. (let tiers = c.as_slice-child-items.result.now in
      let there : Contains tiers child = subst (λ (ts : List ℕ). Contains ts child) (sym (c.as_slice-child-items.ensures.value ∙ c.child_tiers.ensures))
      among in
      let few = c.loop-child-test.false in
      subst (IsHeld c.args.self.now) (sym (get_or_default_zero tiers there.0 child there.1) ∙ there.2)
      (c.loop-child.invariant there.0 (let l = there.1 in omega arith)))),
  (λ held. refl),
)
