use Rattle.gm_game.proofs.Lower.{sym, subst, IsEvaluated}
use Rattle.gm_game.proofs.Evaluated.{evaluated_true}
use Rattle.gm_game.proofs.ahead.within.Goals as goal

pub returns-clause-truth : goal.returns-clause-truth
returns-clause-truth g c =
    let r = g.G.Game.rules in
    let laws = g.met.G.Game in
    subst (λ x. IsEvaluated r c.args.n c.args.p x) (sym c.look_ahead.ensures) (evaluated_true r laws.lawful c.args.n c.args.p c.requires)
