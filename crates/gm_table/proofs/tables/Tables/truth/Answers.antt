use Rattle.gm_table.proofs.Lower.{subst, AreTables}
use Rattle.gm_table.proofs.TableLemmas.{kept_tables}
use Rattle.gm_table.proofs.tables.Tables.truth.Goals as goal

pub returns : goal.returns
returns g c = subst (AreTables g.G.Game.rules) c.self.view_is
    (kept_tables g.G.Game.rules c.self.inside.tiers.items c.self.inside.entries.items c.self.invariant)
