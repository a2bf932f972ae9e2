use Rattle.std.proofs.lemmas.List.{take_more}
use Rattle.gm_build.proofs.Lower.{TIERS, IsOrderFrom, with_tier, IsBuildError, IsStopped, ◌≤◌, ◌+◌, ℕ, List, IsTrue, take, length, refl, sym, subst, arith}
use Rattle.gm_tiers.specs.Orders.{ComeChildrenFirst}
use Rattle.gm_tiers.specs.Reach.{IsReachedFrom}
use Rattle.std.proofs.Common.{get_or, length-take}
use Rattle.std.proofs.lemmas.List.Elements.{Contains-get_or}
use Rattle.gm_build.proofs.OrderLemmas.{fresh_tier, children_held, stops_here}
use Rattle.gm_build.proofs.ErrorLemmas.{build_error, order_count, order_error, order_stopped, stopped_by}
use Rattle.gm_build.proofs.SoFar.{IsSoFar, so_far_none, so_far_fits, so_far_more, so_far_all}
use Rattle.gm_build.proofs.build.build_from.Given.{Over}
use Rattle.gm_build.proofs.build.build_from.Goals.{In-Ok-build_tier}
use Rattle.gm_build.proofs.build.build_from.Goals as goal

pub loop-tier-init : goal.loop-tier-init
loop-tier-init g c = record {
  so_far = rw (c.new-tables.ensures, c.none-work.ensures) (so_far_none g.G.Game.rules (IsTrue g.S.Store.KEEPS) (IsTrue g.S.Store.READS) (g.S.Store.texts c.args.store.now));
  ahead = tt;
  count = refl;
}

pub build_tier-requires-clause-held : goal.build_tier-requires-clause-held
build_tier-requires-clause-held g c κs within =
    let r = g.G.Game.rules in
    let tiers = c.tiers-tier-items.result.now in
    let order = subst (IsOrderFrom r c.args.first) (sym c.tiers-tier-items.ensures.value) c.in-Ok.ensures.order in
    let before = subst (ComeChildrenFirst r) (sym c.tiers-tier-items.ensures.value) c.in-Ok.ensures.children_first in
    children_held r c.args.first tiers order c.loop-tier.tier-index c.loop-tier-test.true c.loop-tier.tables c.loop-tier.invariant.so_far.held before

pub returns-in-Err-build_tier-clause-error : goal.returns-in-Err-build_tier-clause-error
returns-in-Err-build_tier-clause-error g c =
    let r = g.G.Game.rules in
    let tiers = c.tiers-tier-items.result.now in
    let tier = get_or tiers c.loop-tier.tier-index 0 in
    let order = subst (IsOrderFrom r c.args.first) (sym c.tiers-tier-items.ensures.value) c.in-Ok.ensures.order in
    let reached : IsReachedFrom r c.args.first tier = (order.each tier).0 (Contains-get_or tiers c.loop-tier.tier-index 0 c.loop-tier-test.true) in
    build_error r c.args.first tier c.in-Err-build_tier.error reached c.in-Err-build_tier.ensures.error

pub returns-in-Err-build_tier-clause-stopped : goal.returns-in-Err-build_tier-clause-stopped
returns-in-Err-build_tier-clause-stopped g c keeps =
    let r = g.G.Game.rules in
    let tiers = c.tiers-tier-items.result.now in
    let order = subst (IsOrderFrom r c.args.first) (sym c.tiers-tier-items.ensures.value) c.in-Ok.ensures.order in
    let start = g.S.Store.texts c.args.store.now in
    let new = g.S.Store.texts c.build_tier.new.store in
    let so = c.loop-tier.invariant.so_far in
    let e = c.in-Err-build_tier.ensures in
    let stops = stops_here r c.args.first tiers order c.loop-tier.tier-index c.loop-tier-test.true start (g.S.Store.texts c.loop-tier.store) new
    (so.texts keeps) (so.others (g.S.Store.kept_is_read keeps)) (e.others (g.S.Store.kept_is_read keeps)) (e.here keeps) in
    stopped_by r c.args.first start new (get_or tiers c.loop-tier.tier-index 0) c.in-Err-build_tier.error stops e.error

-- what the build has done after one more tier
so_far_next : (g : Over) (c : In-Ok-build_tier g) → IsSoFar g.G.Game.rules (IsTrue g.S.Store.KEEPS) (IsTrue g.S.Store.READS) (g.S.Store.texts c.args.store.now)
    (g.S.Store.texts c.build_tier.new.store) c.build_tier.new.tables (take (c.loop-tier.tier-index + 1) c.tiers-tier-items.result.now)
    (with_tier c.loop-tier.work c.in-Ok-build_tier.outcome)
so_far_next g c =
    let r = g.G.Game.rules in
    let tiers = c.tiers-tier-items.result.now in
    let l = c.loop-tier in
    let k = l.tier-index in
    let inside = c.loop-tier-test.true in
    let tier = get_or tiers k 0 in
    let order = subst (IsOrderFrom r c.args.first) (sym c.tiers-tier-items.ensures.value) c.in-Ok.ensures.order in
    let e = c.in-Ok-build_tier.ensures in
    rw (take_more tiers k 0 inside) (so_far_more r c.laws.ensures (IsTrue g.S.Store.KEEPS) (IsTrue g.S.Store.READS) g.S.Store.kept_is_read (g.S.Store.texts c.args.store.now) (g.S.Store.texts l.store)
    (g.S.Store.texts c.build_tier.new.store) l.tables c.build_tier.new.tables (take k tiers) tier (fresh_tier r c.args.first tiers order k inside)
    l.work l.invariant.so_far e.held e.text e.others c.in-Ok-build_tier.outcome e.step e.work
    (order.small tier (Contains-get_or tiers k 0 inside)))

pub with_tier-work-requires : goal.with_tier-work-requires
with_tier-work-requires g c =
    let tiers = c.tiers-tier-items.result.now in
    let few = subst (λ (ts : List ℕ). length ts ≤ TIERS) (sym c.tiers-tier-items.ensures.value) c.in-Ok.ensures.order.few in
    let long = length-take (c.loop-tier.tier-index + 1) tiers in
    so_far_fits g.G.Game.rules (IsTrue g.S.Store.KEEPS) (IsTrue g.S.Store.READS) _ _ _ _ _ (so_far_next g (goal.at.with_tier-work-requires g c).In-Ok-build_tier) (omega arith)

pub loop-tier-preserved : goal.loop-tier-preserved
loop-tier-preserved g c = record {
  so_far = rw c.with_tier-work.ensures (so_far_next g (goal.at.loop-tier-preserved g c).In-Ok-build_tier);
  ahead = c.in-Ok-build_tier.ensures.ahead;
  count = (let a = c.in-Ok-build_tier.ensures.count in let b = c.loop-tier.invariant.count in omega arith);
}

pub returns-clause-order : goal.returns-clause-order
returns-clause-order g c = c.in-Ok.ensures.order

pub returns-clause-held : goal.returns-clause-held
returns-clause-held g c = (so_far_all c.loop-tier.invariant.so_far c.loop-tier-test.false c.tiers-tier-items.ensures.value).held

pub returns-clause-some_work : goal.returns-clause-some_work
returns-clause-some_work g c = (so_far_all c.loop-tier.invariant.so_far c.loop-tier-test.false c.tiers-tier-items.ensures.value).some_work

pub returns-clause-texts : goal.returns-clause-texts
returns-clause-texts g c keeps = (so_far_all c.loop-tier.invariant.so_far c.loop-tier-test.false c.tiers-tier-items.ensures.value).texts keeps

pub returns-clause-others : goal.returns-clause-others
returns-clause-others g c reads = (so_far_all c.loop-tier.invariant.so_far c.loop-tier-test.false c.tiers-tier-items.ensures.value).others reads

pub returns-clause-work : goal.returns-clause-work
returns-clause-work g c reads = (so_far_all c.loop-tier.invariant.so_far c.loop-tier-test.false c.tiers-tier-items.ensures.value).work_on reads

pub bounds-tier-items-tier-index : goal.bounds-tier-items-tier-index
bounds-tier-items-tier-index g c = c.loop-tier-test.true

pub returns-clause-tables : goal.returns-clause-tables
returns-clause-tables g c = c.has-held.ensures.tables

pub returns-in-Err-clause-error : goal.returns-in-Err-clause-error
returns-in-Err-clause-error g c =
    let r = g.G.Game.rules in
    let e = c.from_tier.ensures in
    subst (IsBuildError r c.args.first) (sym c.from.ensures)
    (order_error r c.args.first c.from_tier.result e.too_many e.more e.too_large e.reached c.in-Err.error c.in-Err.is)

pub returns-in-Err-clause-stopped : goal.returns-in-Err-clause-stopped
returns-in-Err-clause-stopped g c keeps =
    let start = g.S.Store.texts c.args.store.now in
    subst (IsStopped g.G.Game.rules c.args.first start start) (sym c.from.ensures) (order_stopped g.G.Game.rules c.args.first start c.in-Err.error)

pub returns-in-Err-clause-count : goal.returns-in-Err-clause-count
returns-in-Err-clause-count g c = rw c.from.ensures (order_count ℕ (g.S.Store.failed c.args.store.now) c.in-Err.error)

pub returns-in-Err-build_tier-clause-count : goal.returns-in-Err-build_tier-clause-count
returns-in-Err-build_tier-clause-count g c =
    let a = c.in-Err-build_tier.ensures.count in
    let b = c.loop-tier.invariant.count in
    omega arith
