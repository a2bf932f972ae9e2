use Rattle.gm_table.specs.Checks.{IsFirstWrongOf}
use Rattle.gm_table.proofs.PartLemmas.{none_known, one_known}
use Rattle.gm_table.proofs.blocks.Given.take_parts.Goals as goal

pub loop-init : goal.loop-init
loop-init g c =
    let self = c.args.self.now in
    none_known (IsFirstWrongOf g.G.Game.rules self.tables.now self.tier (g.C.Records.listed self.records.now)) 128

pub loop-preserved : goal.loop-preserved
loop-preserved g c =
    let self = c.args.self.now in
    one_known (IsFirstWrongOf g.G.Game.rules self.tables.now self.tier (g.C.Records.listed self.records.now)) c.loop.by_part
    c.fetch_add-part.result c.first_in_part.result c.loop.invariant c.first_in_part.ensures
