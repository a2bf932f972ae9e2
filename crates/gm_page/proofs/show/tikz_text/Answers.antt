use Rattle.gm_page.proofs.Lower.{refl}
use Rattle.std.proofs.lemmas.Result.{IfOk-weaker}
use Rattle.gm_page.specs.ShowTexts.{IsTikz}
use Rattle.gm_page.proofs.show.tikz_text.Goals as goal

pub returns : goal.returns
returns g c =
    let r = g.G.Game.rules in
    let s = g.G.Shown.shown in
    let m = g.G.Shown.move_shown in
    let known = c.args.known.now in
    IfOk-weaker c.tikz.result _ (λ v. IsTikz r s m g.G.Pictured.picture c.args.look c.args.arrow (s known.position) v.items)
    (λ v h. (known.position, (known.legal, refl), c.value.result, c.value.ensures.value, c.best_move.result, c.best_move.ensures, cc)) c.tikz.ensures
