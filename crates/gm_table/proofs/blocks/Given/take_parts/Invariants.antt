use Rattle.gm_table.specs.Checks.{AreFirstWrongOf}
use Rattle.gm_table.proofs.blocks.Given.take_parts.Given as goal

abbrev pub invariant-loop : goal.invariant-loop
invariant-loop g l = AreFirstWrongOf g.G.Game.rules l.self.tables.now l.self.tier (g.C.Records.listed l.self.records.now) l.by_part
