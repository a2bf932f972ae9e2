use Rattle.gm_play.proofs.Lower.{◌≡◌, take, get_or, sym, subst, ◌∙◌, take_more}
use Rattle.gm_game.specs.Rules.{IsAscending}
use Rattle.gm_play.proofs.Choosing.{considered}
use Rattle.gm_play.proofs.Wanted.{all_below}
use Rattle.gm_play.proofs.best_moves.choose.Goals as goal

pub loop-number-preserved : goal.loop-number-preserved
loop-number-preserved g c =
    let r = g.G.Game.rules in
    let items = c.as_slice-number-items.result.now in
    let k = c.loop-number.number-index in
    let inside = c.loop-number-test.true in
    let same : items ≡ r.moves c.args.p = c.as_slice-number-items.ensures.value ∙ c.moves.ensures in
    let up : IsAscending items = subst IsAscending (sym same) (g.met.G.Game.lawful.moves_ascending c.args.p c.requires.legal) in
    rw (take_more items k 0 inside) (considered r c.args.p c.args.value (take k items) (get_or items k 0) (all_below items k up inside)
    c.loop-number.best c.consider-best.result c.loop-number.invariant c.consider-best.ensures)
