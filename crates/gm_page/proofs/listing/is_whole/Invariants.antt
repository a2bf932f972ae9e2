use Rattle.gm_page.proofs.Lower.{ℕ, take, Contains, Position}
use Rattle.gm_page.proofs.listing.is_whole.Given as goal

abbrev pub invariant-loop-p : goal.invariant-loop-p
invariant-loop-p g l = (p : Position) → Contains (take l.p-index l.p-items) p → (m : ℕ) → Contains (g.G.Game.rules.moves p) m → Contains l.list
    (g.G.Game.rules.play p m)
