use Rattle.gm_analyse.proofs.Lower.{take, is_some, all_positions}
use Rattle.gm_analyse.specs.Totals.{AreAllNumbers, AreShort}
use Rattle.gm_analyse.proofs.numbers.numbers_of.Given as goal

abbrev pub invariant-loop-tier : goal.invariant-loop-tier
invariant-loop-tier g l = AreShort l.numbers × AreAllNumbers g.G.Game.rules l.among (is_some l.reached)
    (all_positions g.G.Game.rules (take l.tier-index l.known.tiers.now)) l.numbers
