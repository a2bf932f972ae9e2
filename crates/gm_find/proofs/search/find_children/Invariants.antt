use Rattle.gm_find.proofs.Lower.{◌++◌, ◌∷◌, [], IsSearched}
use Rattle.std.proofs.Common.{drop}
use Rattle.gm_find.proofs.search.find_children.Given as goal

abbrev pub invariant-loop-child : goal.invariant-loop-child
invariant-loop-child g l = IsSearched g.G.Game.rules l.fn.found.keys (l.fn.waiting.items ++ l.fn.p ∷ []) []
    → IsSearched g.G.Game.rules l.found.keys l.waiting.items (drop l.child-index l.child-items)
