use Rattle.gm_frontier.proofs.Lower.{ap, sym, ◌∙◌, refl}
use Rattle.std.specs.Option.{option_copied}
use Rattle.gm_frontier.proofs.LastLemmas.{held_none, held_some}
use Rattle.gm_frontier.proofs.last.is_below.Goals as goal

pub returns-in-Some : goal.returns-in-Some
returns-in-Some g c =
    held_some g.G.Game.rules g.met.G.Game.lawful c.args.tables.now c.table.ensures.tables c.args.tier c.unwrap.result.now
    (sym c.table.ensures.value ∙ ap option_copied c.unwrap.ensures) c.args.place
    c.in-Some.level c.in-Some.ensures.value

pub returns-in-None : goal.returns-in-None
returns-in-None g c = (
  (λ b. held_none g.G.Game.rules g.met.G.Game.lawful c.args.tables.now c.table.ensures.tables c.args.tier c.unwrap.result.now
      (sym c.table.ensures.value ∙ ap option_copied c.unwrap.ensures) c.args.place
      c.in-None.ensures.value),
  (λ below. refl),
)
