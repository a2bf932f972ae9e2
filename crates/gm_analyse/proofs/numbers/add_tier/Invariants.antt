use Rattle.gm_analyse.proofs.Lower.{◌++◌, List, map, is_some, Position, at}
use Rattle.std.specs.List.{range_with_len}
use Rattle.gm_analyse.specs.Totals.{AreAllNumbers, AreShort}
use Rattle.gm_analyse.proofs.numbers.add_tier.Given as goal

abbrev pub invariant-loop-index : goal.invariant-loop-index
invariant-loop-index g l = AreShort l.numbers × ((seen : List Position) → AreAllNumbers g.G.Game.rules l.among (is_some l.reached) seen l.initial.numbers
    → AreAllNumbers g.G.Game.rules l.among (is_some l.reached) (seen ++ map (at l.tier) (range_with_len 0 l.index)) l.numbers)
