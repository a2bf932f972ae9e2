use Rattle.gm_engine.proofs.Lower.{◌≡◌, ◌++◌, ℕ, List, take, drop, AreClosed, AreTrueTiers, HaveTables}
use Rattle.gm_engine.proofs.engine.check_tiers.Given as goal

abbrev pub invariant-loop-tier : goal.invariant-loop-tier
invariant-loop-tier g l = AreClosed g.G.Game.rules l.tables × HaveTables l.tables (take l.tier-index l.tiers)
    × ((known : List ℕ) × AreTrueTiers g.G.Game.rules l.width (take l.tier-index l.tiers) known × (l.records ≡ known ++ l.rest))
    × (AreTrueTiers g.G.Game.rules l.width l.tiers l.records → AreTrueTiers g.G.Game.rules l.width (drop l.tier-index l.tiers) l.rest)
