use Rattle.gm_table.proofs.Lower.{◌/◌, length, FitBetween}
use Rattle.std.proofs.Common.{◌*◌}
use Rattle.gm_table.proofs.blocks.Given.first_of_parts.Given as goal

abbrev pub invariant-loop-part : goal.invariant-loop-part
invariant-loop-part g l =
    let records = g.C.Records.listed l.self.records.now in
    FitBetween g.G.Game.rules l.self.tables.now l.self.tier records 0 (l.part * length records / 128)
