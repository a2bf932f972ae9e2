use Rattle.gm_find.proofs.Lower.{subst, Position, IsTrueValue}
use Rattle.gm_find.specs.Tries.{IsTry, IsTryStep}
use Rattle.gm_find.proofs.Turns.{try_is}
use Rattle.gm_find.proofs.Onlies.{same_answer}
use Rattle.gm_find.proofs.tries.is_try.Goals as goal

pub returns : goal.returns
returns g c =
    let r = g.G.Game.rules in
    let p = c.args.known.now.position in
    let is_true = subst (λ (q : Position). IsTrueValue r q c.value.result) c.play.ensures c.value.ensures.value in
    same_answer c.is_try_step.result (IsTryStep c.args.own c.value.result) (IsTry r p c.args.m)
    (try_is r p c.args.m c.args.own c.value.result c.requires.own is_true) c.is_try_step.ensures
