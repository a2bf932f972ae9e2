use Rattle.gm_tiers.proofs.Lower.{◌≡◌, map, take}
use Rattle.gm_tiers.proofs.order.numbers.Given as goal

abbrev pub invariant-loop-tier : goal.invariant-loop-tier
invariant-loop-tier l = l.tiers.items ≡ map (λ pair. pair.1) (take l.tier-index l.fn.pairs)
