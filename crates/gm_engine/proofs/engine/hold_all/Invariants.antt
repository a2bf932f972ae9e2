use Rattle.gm_engine.proofs.Lower.{take, drop, AreClosed, AreTrueTiers, HaveTables}
use Rattle.gm_engine.proofs.engine.hold_all.Given as goal

abbrev pub invariant-loop-tier : goal.invariant-loop-tier
invariant-loop-tier g l = AreClosed g.G.Game.rules l.tables × HaveTables l.tables (take l.tier-index l.tiers)
    × AreTrueTiers g.G.Game.rules l.width (drop l.tier-index l.tiers) l.rest
