use Rattle.gm_find.proofs.Lower.{subst, Position, IsTrueValue, Achieves}
use Rattle.gm_find.specs.Finding.{IsAchievedBy}
use Rattle.gm_find.proofs.Matching.{achieves_is}
use Rattle.gm_find.proofs.Onlies.{same_answer}
use Rattle.gm_find.proofs.only.achieves.Goals as goal

pub returns : goal.returns
returns g c =
    let r = g.G.Game.rules in
    let p = c.args.known.now.position in
    let is_true = subst (λ (q : Position). IsTrueValue r q c.value.result) c.play.ensures c.value.ensures.value in
    same_answer c.is_achieved.result (IsAchievedBy c.args.aim c.value.result) (Achieves r c.args.aim p c.args.m)
    (achieves_is r p c.args.m c.args.aim c.value.result is_true) c.is_achieved.ensures
