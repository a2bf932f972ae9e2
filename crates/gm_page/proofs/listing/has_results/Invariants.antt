use Rattle.gm_page.proofs.Lower.{ℕ, take, Contains}
use Rattle.gm_page.proofs.listing.has_results.Given as goal

abbrev pub invariant-loop-m : goal.invariant-loop-m
invariant-loop-m g l = (m : ℕ) → Contains (take l.m-index l.m-items) m → Contains l.list (g.G.Game.rules.play l.p m)
