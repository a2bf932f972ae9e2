use Rattle.gm_tiers.proofs.Lower.{◌≡◌, take, Ok, comes_to_all}
use Rattle.gm_tiers.proofs.search.find_children.Given as goal

abbrev pub invariant-loop-child : goal.invariant-loop-child
invariant-loop-child g l = comes_to_all g.G.Game.rules (Ok l.initial.found.keys) (take l.child-index l.child-items) ≡ Ok l.found.keys
