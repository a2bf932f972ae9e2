use Rattle.gm_table.proofs.Lower.{◌≡◌, get_or, refl, sym, subst, ◌∙◌, arith, AreResults, at, look_up, CacheData}
use Rattle.gm_table.proofs.CacheLemmas.{settled_sum}
use Rattle.gm_table.proofs.CheckLemmas.{child_canonical, settled_results}
use Rattle.gm_table.proofs.ReadLemmas.{summary_more, summary_all}
use Rattle.gm_table.proofs.fits.gather.Goals as goal

pub returns-in-Some-clause-value : goal.returns-in-Some-clause-value
returns-in-Some-clause-value g c =
    settled_sum g.G.Game.rules g.met.G.Game.lawful c.args.cache.now (g.C.Records.listed c.args.records.now) c.args.p c.as_slice-results.result.now c.in-Some.seen
    c.in-Some._decided c.requires.inner.legal c.requires.inner.unended
    (subst (AreResults g.G.Game.rules c.args.p) (sym c.as_slice-results.ensures.value) c.requires.results) c.in-Some.ensures.sum

pub look_up-requires : goal.look_up-requires
look_up-requires g c = (
  omega arith,
  child_canonical g.G.Game.rules g.met.G.Game.lawful c.args.p c.as_slice-results.result.now c.loop-c.c-index (at 0 0) c.requires.inner.legal
      c.loop-c.invariant.all_children c.loop-c-test.true,
)

pub loop-c-init : goal.loop-c-init
loop-c-init g c = record {
  same = c.sum.ensures.same;
  all_children = subst (AreResults g.G.Game.rules c.args.p) (sym c.as_slice-results.ensures.value) c.requires.results;
  summary = record { lost = c.of_none-seen.ensures.lost; won = c.of_none-seen.ensures.won; tied = c.of_none-seen.ensures.tied };
}

pub loop-c-preserved : goal.loop-c-preserved
loop-c-preserved g c =
    let look = look_up g.G.Game.rules c.args.cache.now.tables c.args.cache.now.tier (g.C.Records.listed c.args.records.now) in
    let i = c.loop-c.invariant in
    let cs = c.as_slice-results.result.now in
    let known = subst (λ (k : CacheData). c.look_up.result ≡ look_up g.G.Game.rules k.tables k.tier (g.C.Records.listed c.args.records.now)
    (get_or cs c.loop-c.c-index (at 0 0))) i.same c.look_up.ensures.record in
    record {
      same = c.look_up.ensures.same ∙ i.same;
      all_children = i.all_children;
      summary = summary_more look cs c.loop-c.c-index (at 0 0) c.loop-c-test.true _ known _ _ c.with-seen.ensures.lost c.with-seen.ensures.won
          c.with-seen.ensures.tied i.summary;
    }

pub returns-clause-value : goal.returns-clause-value
returns-clause-value g c =
    let look = look_up g.G.Game.rules c.args.cache.now.tables c.args.cache.now.tier (g.C.Records.listed c.args.records.now) in
    let i = c.loop-c.invariant in
    settled_results g.G.Game.rules look c.args.p c.as_slice-results.result.now _ c.requires.inner.unended i.all_children
    (summary_all look c.as_slice-results.result.now c.loop-c.c-index _ _ c.loop-c-test.false refl refl refl i.summary)
