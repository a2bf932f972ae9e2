use Rattle.gm_engine.proofs.Lower.{take, AreClosed, AreTrueTiers, HaveTables}
use Rattle.gm_engine.proofs.engine.solve_tiers.Given as goal

abbrev pub invariant-loop-tier : goal.invariant-loop-tier
invariant-loop-tier g l = AreClosed g.G.Game.rules l.tables × HaveTables l.tables (take l.tier-index l.tiers)
    × AreTrueTiers g.G.Game.rules l.width (take l.tier-index l.tiers) l.bytes.items
