use Rattle.gm_tiers.proofs.Lower.{ℕ, ap, subst, TIERS, TooManyTiers}
use Rattle.gm_game.specs.declared.position.Position.{Position}
use Rattle.gm_tiers.specs.Limits.{AreMoreThan}
use Rattle.std.proofs.Common.{IsErrOf}
use Rattle.gm_tiers.proofs.order.TierOrder.from_initial.Goals as goal

pub returns-clause-more : goal.returns-clause-more
returns-clause-more g c =
    subst (λ (first : ℕ). IsErrOf c.from_tier.result TooManyTiers → AreMoreThan g.G.Game.rules first TIERS)
    (ap (λ (p : Position). p.tier) c.initial.ensures) c.from_tier.ensures.more
