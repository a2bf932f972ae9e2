use Rattle.gamesman.proofs.Lower.{List, ℕ, sym, subst, IsOrderFrom}
use Rattle.gamesman.proofs.Cut.{reason_unbuilt}
use Rattle.gamesman.proofs.tables.BuildOptions.build.Goals as goal

pub returns-in-Err-shelf_for-clause-unbuilt : goal.returns-in-Err-shelf_for-clause-unbuilt
returns-in-Err-shelf_for-clause-unbuilt g c =
    let r = g.G.Game.rules in
    c.in-Err-shelf_for.ensures.refused r c.args.first
    (subst (λ (tiers : List ℕ). IsOrderFrom r c.args.first tiers) (sym c.tiers.ensures.value) c.in-Ok.ensures.order)

pub returns-in-Err-built-clause-unbuilt : goal.returns-in-Err-built-clause-unbuilt
returns-in-Err-built-clause-unbuilt g c =
    rw c.why_not.ensures (reason_unbuilt g.G.Game.rules c.args.first c.in-Err-built.error _ c.in-Err-built.ensures.error)
