use Rattle.gm_find.proofs.Lower.{◌∙◌, sym, eqb-true}
use Rattle.std.proofs.Common.{eq-eqb}
use Rattle.gm_find.proofs.Matching.{only_is}
use Rattle.gm_find.proofs.only.has_only.Goals as goal

pub returns-else-distinct : goal.returns-else-distinct
returns-else-distinct g c =
    let (kept, those, long) = c.achieving.ensures in
    let only = only_is g.G.Game.rules c.args.known.now.position c.args.aim kept those in
    rw c.if-distinct.false
    (λ h. only.0 (long ∙ eqb-true c.achieving.result 1 h), λ h. eq-eqb c.achieving.result 1 (sym long ∙ only.1 h))
