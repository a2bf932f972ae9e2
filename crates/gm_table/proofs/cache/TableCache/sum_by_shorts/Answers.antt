use Rattle.gm_table.proofs.Lower.{◌≡◌, Some, IsSome, get_or, refl, sym, subst, ◌∙◌, TableData, at, CacheData, other_table, record_of_short}
use Rattle.gm_table.specs.inner.Caches.{other_record}
use Rattle.gm_table.proofs.CacheLemmas.{read_more}
use Rattle.gm_table.proofs.cache.TableCache.sum_by_shorts.Goals as goal

pub loop-p-preserved : goal.loop-p-preserved
loop-p-preserved g c =
    let i = c.loop-p.invariant in
    let p = get_or c.args.positions.now c.loop-p.p-index (at 0 0) in
    let (t, held, is) = subst (λ (k : CacheData). (t : TableData) × (other_table k p.tier ≡ Some t)
    × (other_record k p ≡ record_of_short c.in_ok-short.field-0)) i.same c.in_ok-short.ensures.short in
    record {
      same = c.in_ok-short.ensures.same ∙ i.same;
      read = read_more c.args.self.now c.args.positions.now record_of_short c.loop-p.p-index (at 0 0) c.loop-p.shorts.items _ c.in_ok-short.field-0
          c.loop-p-test.true (subst IsSome (sym held) refl) is c.push.ensures.items i.read;
    }
