use Rattle.gm_analyse.proofs.Lower.{sym, subst, Position}
use Rattle.gm_find.specs.Reaching.{IsReachedByPlay}
use Rattle.gm_analyse.proofs.numbers.counted.Goals as goal

pub returns-then-not-is_in : goal.returns-then-not-is_in
returns-then-not-is_in g c v n counted =
    let t = c.is_in.ensures.1 (λ asked. subst (λ (q : Position). IsReachedByPlay g.G.Game.rules q) (sym c.canonical.ensures) (counted.reaches asked)) in
    let f = c.if-not-is_in.true in
    cc
