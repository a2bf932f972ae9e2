use Rattle.gamesman.proofs.Lower.{ℕ, List, inr, refl, sym, subst, ◌∙◌, Contains}
use Rattle.gamesman.proofs.Telling.{listed, unlisted}
use Rattle.gamesman.proofs.needs.known_tier.Goals as goal

pub returns-then-contains-clause-reached : goal.returns-then-contains-clause-reached
returns-then-contains-clause-reached g c =
    let tier = c.args.tier in
    let has = listed c.tiers.result.now tier (sym c.contains.ensures.value ∙ c.if-contains.true) in
    (c.in-Ok.ensures.order.each tier).0 (subst (λ (l : List ℕ). Contains l tier) c.tiers.ensures.value has)

pub returns-clause-refused : goal.returns-clause-refused
returns-clause-refused g c =
    let tier = c.args.tier in
    inr (
      refl,
      λ reached. unlisted c.tiers.result.now tier (sym c.contains.ensures.value ∙ c.if-contains.false)
          (subst (λ (l : List ℕ). Contains l tier) (sym c.tiers.ensures.value) ((c.in-Ok.ensures.order.each tier).1 reached)),
    )
