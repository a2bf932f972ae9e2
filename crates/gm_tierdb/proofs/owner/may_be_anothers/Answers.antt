use Rattle.gm_tierdb.proofs.Lower.{rules, ◌≡◌}
use Rattle.gm_tierdb.specs.inner.Owners.{owner_of}
use Rattle.gm_tierdb.proofs.HeadLemmas.{owner_kept}
use Rattle.gm_tierdb.proofs.owner.may_be_anothers.Goals as goal

pub returns-else-bytes-lt-NAME_END : goal.returns-else-bytes-lt-NAME_END
returns-else-bytes-lt-NAME_END c = λ text front another.
    let kept : owner_of text ≡ owner_of c.args.head.now = owner_kept c.args.head.now text c.requires front in
    search rules
