use Rattle.gamesman.proofs.Lower.{subst, Position, IsOrderFrom, IsUnbuilt, game_spec}
use Rattle.gamesman.specs.Listed.{IsFilledBy}
use Rattle.gamesman.proofs.Sheeted.{build_fault}
use Rattle.gamesman.proofs.sheet.fill.Goals as goal

pub returns-in-Err : goal.returns-in-Err
unfolding IsFilledBy
returns-in-Err g c = (
  tt,
  build_fault (game_spec g.G.Game.rules g.G.Shown.shown g.G.Shown.move_shown g.G.Pictured.picture) c.args.k c.args.lines.now c.in-Err.fault
      (subst (λ (p : Position). IsUnbuilt g.G.Game.rules p.tier c.in-Err.fault) c.initial.ensures c.in-Err.ensures.unbuilt),
)

pub fill_from-filled-requires-clause-order : goal.fill_from-filled-requires-clause-order
fill_from-filled-requires-clause-order g c =
    subst (λ (p : Position). IsOrderFrom g.G.Game.rules p.tier c.in-Ok.built.order) c.initial.ensures c.in-Ok.ensures.order

pub returns : goal.returns
unfolding IsFilledBy
returns g c = (c.fill_from-filled.ensures.ok, c.fill_from-filled.ensures.err)
