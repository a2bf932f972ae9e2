use Rattle.gm_build.proofs.Lower.{inl, rules, Result, Err, subst}
use Rattle.std.proofs.Common.{Ok, OnErr}
use Rattle.gm_build.specs.Findings.{IsOfTier, IsEntryFound}
use Rattle.gm_build.proofs.StoreLemmas.{may_have_text, text_kept}
use Rattle.gm_build.proofs.tier.Builder.build_tier.Goals as goal

-- a fact that holds after an error holds anyway
on_err : {T E : Type 0} → (m : Result T E) (P : Type 0) → P → OnErr m P
on_err (Ok x) P p = tt
on_err (Err e) P p = p

pub returns-in-Err-clause-here : goal.returns-in-Err-clause-here
returns-in-Err-clause-here g c keeps = inl (c.in-Err.ensures.same (g.S.Store.kept_is_read keeps) c.args.tier)

pub returns-in-Ok-clause-text : goal.returns-in-Ok-clause-text
returns-in-Ok-clause-text g c keeps =
    let r = g.G.Game.rules in
    let start = g.S.Store.texts c.args.store.now in
    let reads = g.S.Store.kept_is_read keeps in
    let found = subst (IsEntryFound r start c.args.tier) c.in-Ok-Current.field-0-is (c.in-Ok-Current.ensures.found reads) in
    text_kept r start (g.S.Store.texts c.load_tier.new.store) c.args.tier (c.in-Ok-Current.ensures.same reads c.args.tier) found.0

pub returns-in-Ok-Current-clause-here : goal.returns-in-Ok-Current-clause-here
returns-in-Ok-Current-clause-here g c keeps = inl (c.in-Ok-Current.ensures.same (g.S.Store.kept_is_read keeps) c.args.tier)

pub returns-in-Ok-Old-clause-here : goal.returns-in-Ok-Old-clause-here
returns-in-Ok-Old-clause-here g c keeps =
    may_have_text g.G.Game.rules (g.S.Store.texts c.args.store.now) (g.S.Store.texts c.load_tier.new.store) (g.S.Store.texts c.keep.new.store)
    c.in-Ok-Old.table.tier c.args.tier (subst (IsOfTier c.args.tier) c.in-Ok-Old.field-0-is c.in-Ok-Old.ensures.tier)
    (c.in-Ok-Old.ensures.same (g.S.Store.kept_is_read keeps)) (c.in-Err-keep.ensures.here keeps)

pub returns-in_err-keep-in-Ok-Nothing-clause-here : goal.returns-in_err-keep-in-Ok-Nothing-clause-here
returns-in_err-keep-in-Ok-Nothing-clause-here g c keeps =
    on_err c.from_residual-in_err-keep-in-Ok-Nothing.result _
    (may_have_text g.G.Game.rules (g.S.Store.texts c.args.store.now) (g.S.Store.texts c.load_tier.new.store) (g.S.Store.texts c.keep-in-Ok-Nothing.new.store)
    c.match-solved_of.table.0.tier c.args.tier (search rules)
    (c.in-Ok-Nothing.ensures.same (g.S.Store.kept_is_read keeps)) (c.in_err-keep-in-Ok-Nothing.ensures.here keeps))
