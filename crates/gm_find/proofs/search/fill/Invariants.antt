use Rattle.gm_find.proofs.Lower.{[], IsSearched}
use Rattle.gm_find.proofs.search.fill.Given as goal

abbrev pub invariant-loop : goal.invariant-loop
invariant-loop g l = IsSearched g.G.Game.rules l.found.keys l.waiting.items []
