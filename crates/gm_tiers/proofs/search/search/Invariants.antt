use Rattle.gm_tiers.proofs.Lower.{◌≡◌, ◌-◌, Ok, TIERS, goes_through}
use Rattle.gm_tiers.specs.Search.{search_of}
use Rattle.gm_tiers.proofs.search.search.Given as goal

abbrev pub invariant-loop-next : goal.invariant-loop-next
invariant-loop-next g l = search_of g.G.Game.rules l.first ≡ goes_through g.G.Game.rules (TIERS - l.next) l.next (Ok l.found.keys)
