use Rattle.gm_build.proofs.Lower.{◌≡◌, rules, Some, refl, IsTrue}
use Rattle.std.proofs.Common.{None}
use Rattle.gm_build.proofs.inspect.inspect_tier.Goals as goal

pub returns-in-Ok-clause-found : goal.returns-in-Ok-clause-found
returns-in-Ok-clause-found g c =
    let bytes = c.as_slice.result.now in
    let entry : IsTrue g.S.Store.READS → Some bytes ≡ g.S.Store.texts c.args.store.now c.args.tier = λ reads. search rules in
    (Some bytes, entry, c.in-Ok.ensures.exact)

pub returns-in-None-clause-found : goal.returns-in-None-clause-found
returns-in-None-clause-found g c =
    let entry : IsTrue g.S.Store.READS → None ≡ g.S.Store.texts c.args.store.now c.args.tier = λ reads. search rules in (None, entry, refl)
