use Rattle.gm_find.proofs.Lower.{map, is_some, at, Adds, IsMatch, take}
use Rattle.gm_find.proofs.positions.add_run.Given as goal

abbrev pub invariant-loop-i : goal.invariant-loop-i
invariant-loop-i g l = Adds (IsMatch g.G.Game.rules l.search.sought (is_some l.search.reached)) l.search.limit (map (at l.tier) (take l.i-index l.run))
    l.initial.found.items l.found.items
