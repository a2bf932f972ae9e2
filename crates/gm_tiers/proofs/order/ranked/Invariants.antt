use Rattle.gm_tiers.proofs.Lower.{◌≡◌, map, take}
use Rattle.gm_tiers.proofs.order.ranked.Given as goal

abbrev pub invariant-loop-tier : goal.invariant-loop-tier
invariant-loop-tier g l = l.pairs.items ≡ map (λ t. (g.G.Game.rules.tier_rank t, t)) (take l.tier-index l.fn.tiers)
