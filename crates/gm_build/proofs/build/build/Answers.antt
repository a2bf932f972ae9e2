use Rattle.gm_build.proofs.Lower.{ℕ, IsTrue, ap, subst, IsOrderFrom, IsBuildError, IsStopped}
use Rattle.std.proofs.Common.{IfOk, IfErr}
use Rattle.gm_game.specs.declared.position.Position.{Position}
use Rattle.gm_build.proofs.build.build.Goals as goal

pub returns-clause-order : goal.returns-clause-order
returns-clause-order g c =
    subst (λ (first : ℕ). IfOk c.build_from.result (λ built. IsOrderFrom g.G.Game.rules first built.order))
    (ap (λ (p : Position). p.tier) c.initial-first.ensures) c.build_from.ensures.order

pub returns-clause-error : goal.returns-clause-error
returns-clause-error g c = subst (λ (first : ℕ). IfErr c.build_from.result (IsBuildError g.G.Game.rules first))
    (ap (λ (p : Position). p.tier) c.initial-first.ensures) c.build_from.ensures.error

pub returns-clause-stopped : goal.returns-clause-stopped
returns-clause-stopped g c =
    subst (λ (first : ℕ). IsTrue g.S.Store.KEEPS → IfErr c.build_from.result
    (IsStopped g.G.Game.rules first (g.S.Store.texts c.args.store.now) (g.S.Store.texts c.build_from.new.store)))
    (ap (λ (p : Position). p.tier) c.initial-first.ensures) c.build_from.ensures.stopped
