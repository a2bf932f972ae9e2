use Rattle.gm_find.proofs.Lower.{◌∙◌, sym}
use Rattle.gm_find.proofs.Keys.{key_found, key_there}
use Rattle.gm_find.proofs.reached.Reached.has.Goals as goal

pub returns : goal.returns
returns g c =
    let keys = c.self.inside.keys.set.keys in
    let p = c.args.c in (
      λ h. (c.self.invariant p).0 (key_found p.tier p.index keys (sym c.contains.ensures ∙ h)),
      λ h. c.contains.ensures ∙ key_there p.tier p.index keys ((c.self.invariant p).1 h),
    )
