use Rattle.gm_backward.proofs.Final.{end_deliveries}
use Rattle.gm_immediate.proofs.Deliveries.{not_too_far}
use Rattle.gm_backward.proofs.levels.table_of.Goals as goal

pub returns-clause-deliveries : goal.returns-clause-deliveries
returns-clause-deliveries g c = end_deliveries g.G.Game.rules g.met.G.Game.lawful c.args.tables.now c.has-held.ensures.tables c.args.tier c.requires.held
    c.args.records c.requires.records c.args.last.now c.requires.tier_is c.requires.ties c.place-end.ensures.last c.args.number c.requires.number

pub returns-clause-near : goal.returns-clause-near
returns-clause-near g c = not_too_far g.G.Game.rules g.met.G.Game.lawful c.args.tier c.args.records c.requires.records
