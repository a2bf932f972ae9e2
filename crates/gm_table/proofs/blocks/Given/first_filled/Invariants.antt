use Rattle.gm_table.proofs.Lower.{FitBetween}
use Rattle.gm_table.proofs.blocks.Given.first_filled.Given as goal

abbrev pub invariant-loop-index : goal.invariant-loop-index
invariant-loop-index g l = FitBetween g.G.Game.rules l.self.tables.now l.self.tier (g.C.Records.listed l.self.records.now) l.fn.lo l.index
