use Rattle.gamesman.proofs.Lower.{refl, rules, game_spec}
use Rattle.gamesman.proofs.Reached.{order_closed}
use Rattle.gamesman.proofs.Filtering.{unheld}
use Rattle.gamesman.proofs.Sheeted.{some_held}
use Rattle.gamesman.proofs.sheet.puzzle_in.Goals as goal

pub invariant_of-tables : goal.invariant_of-tables
invariant_of-tables g c = record {
  closed = order_closed g.G.Game.rules c.args.built.now.tables c.args.built.now.order g.G.Game.rules.initial.tier
      c.requires.order c.requires.held;
}

pub returns-in_default-known-clause-err : goal.returns-in_default-known-clause-err
returns-in_default-known-clause-err g c =
    let r = g.G.Game.rules in
    let shown = g.G.Shown.shown in
    let move_shown = g.G.Shown.move_shown in
    let built = c.args.built.now in (
      refl,
      unheld r shown move_shown c.args.text.now c.read.result c.read.ensures
          c.in-Some.position built.tables built.order c.in-Some.is c.requires.order c.requires.held
          (λ has. search (rules, c.known.ensures.held.1 has)),
    )

pub returns-in-Ok-clause-ok : goal.returns-in-Ok-clause-ok
returns-in-Ok-clause-ok g c =
    let spec = game_spec g.G.Game.rules g.G.Shown.shown g.G.Shown.move_shown g.G.Pictured.picture in
    let text = c.args.text.now in
    let p = c.in-Some.position in
    let built = c.args.built.now in
    let read = (c.read.ensures p).0 c.in-Some.is in (
      search (rules, read.1, c.in-Ok.ensures, c.known.ensures),
      some_held spec text p built.tables built.order read c.requires.order c.requires.held (search (rules, c.known.ensures.held.0)),
    )
