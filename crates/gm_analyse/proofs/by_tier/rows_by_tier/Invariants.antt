use Rattle.gm_analyse.proofs.Lower.{List, ◌++◌, drop, is_some, TierCount}
use Rattle.gm_analyse.specs.ByTier.{AreTierRows}
use Rattle.gm_analyse.proofs.by_tier.rows_by_tier.Given as goal

abbrev pub invariant-loop-tier : goal.invariant-loop-tier
invariant-loop-tier g l = (rest : List TierCount) → AreTierRows g.G.Game.rules l.among (is_some l.reached) (drop l.tier-index l.known.tiers.now) rest
    → AreTierRows g.G.Game.rules l.among (is_some l.reached) l.known.tiers.now (l.rows.items ++ rest)
