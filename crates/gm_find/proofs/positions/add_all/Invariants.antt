use Rattle.gm_find.proofs.Lower.{◌-◌, map, is_some, at, Adds, IsMatch, range_with_len}
use Rattle.std.proofs.Common.{◌≤◌}
use Rattle.gm_find.proofs.positions.add_all.Given as goal

abbrev pub invariant-loop-index : goal.invariant-loop-index
invariant-loop-index g l = (l.index ≤ g.G.Game.rules.tier_size l.tier)
    × Adds (IsMatch g.G.Game.rules l.search.sought (is_some l.search.reached)) l.search.limit (map (at l.tier) (range_with_len 0 l.index))
    l.initial.found.items l.found.items

abbrev pub decreases-loop-index : goal.decreases-loop-index
decreases-loop-index g l = g.G.Game.rules.tier_size l.tier - l.index
