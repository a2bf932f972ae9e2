use Rattle.gm_frontier.proofs.Lower.{ap, sym, ◌∙◌, subst, IsChildPart}
use Rattle.std.specs.Option.{option_copied}
use Rattle.gm_frontier.proofs.RecordLemmas.{child_recorded, child_notes}
use Rattle.gm_frontier.proofs.part.child_part.Goals as goal

pub recorded-requires : goal.recorded-requires
recorded-requires g c =
    child_recorded g.G.Game.rules g.met.G.Game.lawful c.args.tables.now c.table.ensures.tables c.args.tier c.unwrap-table.result.now
    (sym c.table.ensures.value ∙ ap option_copied c.unwrap-table.ensures) c.args.place c.run.result.now c.run.ensures.ascending c.run.ensures.exact

pub returns-clause-whole : goal.returns-clause-whole
returns-clause-whole g c =
    subst (IsChildPart g.G.Game.rules c.args.place c.args.tier) (sym c.recorded.ensures)
    (child_notes g.G.Game.rules g.met.G.Game.lawful c.args.tables.now c.table.ensures.tables c.args.tier c.unwrap-table.result.now
    (sym c.table.ensures.value ∙ ap option_copied c.unwrap-table.ensures) c.args.place c.run.result.now c.run.ensures.ascending c.run.ensures.exact)
