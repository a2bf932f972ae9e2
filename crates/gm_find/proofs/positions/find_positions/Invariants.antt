use Rattle.gm_find.proofs.Lower.{take, is_some, IsFirst, IsMatch, all_positions}
use Rattle.gm_find.proofs.positions.find_positions.Given as goal

abbrev pub invariant-loop-tier : goal.invariant-loop-tier
invariant-loop-tier g l = IsFirst (IsMatch g.G.Game.rules l.fn.sought (is_some l.fn.reached)) l.fn.limit
    (all_positions g.G.Game.rules (take l.tier-index l.known.tiers.now)) l.found.items
