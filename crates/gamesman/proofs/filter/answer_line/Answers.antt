use Rattle.gamesman.proofs.Lower.{refl, subst, rules, IsOfNone}
use Rattle.gamesman.proofs.Cut.{kept}
use Rattle.gamesman.proofs.Reached.{order_closed}
use Rattle.gamesman.proofs.Filtering.{unheld}
use Rattle.gamesman.proofs.filter.answer_line.Goals as goal

pub invariant_of-tables : goal.invariant_of-tables
invariant_of-tables g c = record {
  closed = order_closed g.G.Game.rules c.args.built.now.tables c.args.built.now.order g.G.Game.rules.initial.tier
      c.requires.order c.requires.held;
}

pub returns-in_default-known-clause-err : goal.returns-in_default-known-clause-err
returns-in_default-known-clause-err g c =
    let r = g.G.Game.rules in
    let shown = g.G.Shown.shown in
    let move_shown = g.G.Shown.move_shown in
    let built = c.args.built.now in (
      refl,
      subst (IsOfNone r shown move_shown) c.without_return.ensures (unheld r shown move_shown c.without_return.result.now c.read.result c.read.ensures
          c.in-Some.position built.tables built.order c.in-Some.is c.requires.order c.requires.held
          (λ has. search (rules, c.known.ensures.held.1 has))),
      kept _,
    )
