use Rattle.gm_build.proofs.Lower.{◌≡◌, rules, Some}
use Rattle.gm_build.proofs.StoreLemmas.{found_in}
use Rattle.gm_build.proofs.found.load_tier.Goals as goal

pub returns-in-Ok-clause-found : goal.returns-in-Ok-clause-found
returns-in-Ok-clause-found g c reads =
    let entry : g.S.Store.texts c.args.store.now c.args.tier ≡ Some c.as_slice.result.now = search rules in
    found_in g.G.Game.rules (g.S.Store.texts c.args.store.now) c.args.tier c.as_slice.result.now entry c.in-Ok.found c.in-Ok.ensures.exact
