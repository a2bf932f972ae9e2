use Rattle.gm_find.proofs.Lower.{◌∙◌, sym}
use Rattle.gm_find.proofs.Keys.{key_found, key_there}
use Rattle.gm_find.proofs.places.Places.has.Goals as goal

pub returns : goal.returns
returns c =
    let keys = c.args.self.now.set.keys in
    let p = c.args.p in (
      λ h. key_found p.tier p.index keys (sym c.contains.ensures ∙ h),
      λ h. c.contains.ensures ∙ key_there p.tier p.index keys h,
    )
