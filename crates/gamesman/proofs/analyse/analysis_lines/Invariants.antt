use Rattle.gamesman.proofs.Lower.{take, AreAnalysisLines}
use Rattle.gamesman.proofs.analyse.analysis_lines.Given as goal

abbrev pub invariant-loop-tier : goal.invariant-loop-tier
invariant-loop-tier g l = AreAnalysisLines g.G.Game.rules (take l.tier-index l.tier-items) l.lines.items
